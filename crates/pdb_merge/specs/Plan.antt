-- How a merge answers.
use Rattle.std.specs.Prelude.{ℕ, ◌≡◌, ◌≢◌, Bool, true, List, [], Option, Result, IfOk, OnOk, IfErr}
use Rattle.byte_io.specs.Inputs.{Give}
use Rattle.byte_io.specs.declared.inputs.InputFault.{InputFault}
use Rattle.pdb_info.specs.Settings.{SettingsView, record_limit}
use Rattle.pdb_merge.specs.Answer.{AcceptsFiles}
use Rattle.pdb_merge.specs.Merged.{IsFileOf, WrotePartAs}
use Rattle.pdb_merge.specs.Sift.{AcceptsSift, AreListed, AreSpared, MustStay, RefusesSift, WroteSifted}
use Rattle.pdb_merge.specs.declared.fault.MergeFault.{MergeFault}
use Rattle.pdb_merge.specs.declared.fault.OutFault.{OutFault}
use Rattle.pdb_merge.specs.declared.fault.OutFault.TheVariants as out
use Rattle.pdb_merge.specs.OfTypes.{IsFileByTypes}
use Rattle.run_options.specs.declared.guid_choice.GuidChoice.{GuidChoice}
use Rattle.run_options.specs.declared.guid_choice.GuidChoice.TheVariants.{Given, OfTypes}
use Rattle.pdb_merge.specs.declared.merged.Merged.{Merged}
use Rattle.pdb_merge.specs.declared.plan.Plan.{Plan}

-- this is the file of the types of those files that are accepted, with the GUID that is chosen
abbrev pub IsFileFor : GuidChoice → List (List ℕ) → SettingsView → List ℕ → List (List ℕ) → Type 0
IsFileFor Given files settings file records = IsFileOf files settings file records
IsFileFor OfTypes files settings file records = IsFileByTypes files settings file records

-- how a merge answers that follows this plan: `needs` says which files are never left out
pub record FollowsPlan {A W K : Type 0} (known : Option (List (Result (List ℕ) InputFault)))
    (needs : ℕ → Type 0) (plan : Plan) (maps_of : K → Option (List (List ℕ)))
    (taken : W → Option (List ℕ)) (is_broken : W → Bool) (before after : W)
    (result : Result (Merged A K) (OutFault A)) : Type 0 where
  -- the sink took the file of the types of the accepted files, and the others were left out
  pub value : (given : List (List ℕ)) → Give known given → IfOk result (λ done.
      WroteSifted (IsFileFor plan.guid given plan.settings) given (taken before) (taken after)
      done.summary done.left_out.items (maps_of done.maps))
  pub accepts : OnOk result
      (AcceptsSift known (MustStay plan.refused needs) (record_limit plan.settings))
  -- if no file is left out, all are accepted
  pub all : IfOk result (λ done.
      done.left_out.items ≡ [] → AcceptsFiles known (record_limit plan.settings))
  -- whatever is known of the files, each is left out once, in their order
  pub listed : IfOk result (λ done. (n : ℕ) × AreListed n done.left_out.items)
  -- a file that must stay is not left out
  pub spared : IfOk result (λ done. AreSpared (MustStay plan.refused needs) done.left_out.items)
  pub refuses : IfErr result (λ fault. (inner : MergeFault A) → fault ≡ out.Merge inner →
      RefusesSift known (MustStay plan.refused needs) (record_limit plan.settings) inner)
  -- a fault of writing comes only where the files can be merged
  pub late : IfErr result (λ fault. ((inner : MergeFault A) → fault ≢ out.Merge inner) →
      AcceptsSift known (MustStay plan.refused needs) (record_limit plan.settings))
  pub broken : IfErr result (λ fault. fault ≡ out.Write → is_broken after ≡ true)
  pub write : (given : List (List ℕ)) → Give known given → IfErr result (λ fault.
      fault ≡ out.Write →
      WrotePartAs (IsFileFor plan.guid given plan.settings) (taken before) (taken after))
  pub untouched : IfErr result (λ fault. fault ≢ out.Write → after ≡ before)
