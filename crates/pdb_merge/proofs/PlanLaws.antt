-- A merge that follows a plan, and the plan to stop at a file that is refused.
use Rattle.std.proofs.Common.{◌≡◌, ℕ, Bool, List, [], ◌∷◌, Option, Some, None, length, refl, ap, arith, inl, inr}
use Rattle.std.specs.Prelude.{Result, Ok, Err, IfSome}
use Rattle.byte_io.specs.Inputs.{Give}
use Rattle.byte_io.specs.declared.inputs.InputFault.{InputFault}
use Rattle.canonical_list.specs.Finish.{IsCanonOf}
use Rattle.pdb_info.specs.Settings.{SettingsView, AreSettings, record_limit}
use Rattle.pdb_merge.specs.Answer.{AcceptsFiles, MergesTo, RefusesFiles}
use Rattle.pdb_merge.specs.Fault.{NamesFault}
use Rattle.pdb_merge.specs.Merged.{merged_file, WroteFile, Wrote, WrotePart}
use Rattle.pdb_merge.specs.Merging.{AreMapsOf}
use Rattle.pdb_merge.specs.Sift.{AcceptsSift, AreMapsBut, AreSpared, CanSift, IsOfSift, IsSiftFault, LeavesOut, MustStay, RefusesSift, WroteSifted}
use Rattle.pdb_merge.specs.Union.{CanMergeBelow, HasType, IsMergeFault, Within}
use Rattle.pdb_merge.specs.declared.fault.MergeFault.{MergeFault}
use Rattle.pdb_merge.specs.declared.fault.MergeFault.TheVariants as merge
use Rattle.pdb_merge.specs.declared.fault.OutFault.{OutFault}
use Rattle.pdb_merge.specs.declared.merged.Merged.{Merged}
use Rattle.pdb_merge.specs.declared.plan.Plan.{Plan}
use Rattle.pdb_merge.specs.declared.sift.LeftOut.{LeftOut}
use Rattle.pdb_merge.specs.declared.summary.Summary.{Summary}
use Rattle.pdb_merge.proofs.FileLaws.{is_file, wrote_as}
use Rattle.pdb_merge.proofs.UnionLaws.{accepted_more, refuses_files}
use Rattle.pdb_merge.specs.Guid.{chosen}
use Rattle.pdb_merge.specs.Plan.{FollowsPlan, IsFileFor}
use Rattle.run_options.specs.declared.guid_choice.GuidChoice.{GuidChoice}
use Rattle.run_options.specs.declared.guid_choice.GuidChoice.TheVariants.{Given, OfTypes}
use Rattle.run_options.specs.declared.on_refused.OnRefused.TheVariants.{Stop}
use Rattle.pdb_merge.proofs.GuidLaws.{is_file_by_types}

-- the file of a canonical list of the types of files has all that `IsFileFor` says
pub is_file_for : (choice : GuidChoice) (files : List (List ℕ)) (settings : SettingsView) (records : List (List ℕ)) → AreSettings (chosen choice settings records) → Within (HasType files) (record_limit settings)
    → IsCanonOf records (HasType files) → IsFileFor choice files settings (merged_file (chosen choice settings records) records) records
is_file_for Given files settings records are within canon = is_file files settings records are within canon
is_file_for OfTypes files settings records are within canon = is_file_by_types files settings records are within canon

-- what a sink took of it
pub wrote_sifted : {A : Type 0} (IsFile : List ℕ → List (List ℕ) → Type 0) (files : List (List ℕ)) (settings : SettingsView) (records : List (List ℕ)) (old new : Option (List ℕ)) (summary : Summary) (left : List (LeftOut A)) (kept : Option (List (List ℕ)))
    → IsFile (merged_file settings records) records → IsCanonOf records (HasType files) → WroteFile records settings old new summary → LeavesOut files left → IfSome kept (AreMapsBut files left records)
    → WroteSifted IsFile files old new summary left kept
unfolding wrote_as
wrote_sifted IsFile files settings records old new summary left kept is canon did leaves maps =
    record { wrote = wrote_as IsFile files settings records old new summary is canon did; leaves = leaves; maps = maps }

-- ---- where no file is left out

-- all are accepted
pub all_accepted : {A : Type 0} (known : Option (List (Result (List ℕ) InputFault))) (must : ℕ → Type 0) (limit : ℕ) (left : List (LeftOut A)) → AcceptsSift known must limit
    → ((given : List (List ℕ)) → Give known given → LeavesOut given left) → left ≡ [] → AcceptsFiles known limit
all_accepted known must limit left accepts leaves none = record {
  read = accepts.read;
  can = λ given gives. record {
    accepted = λ i inside. elim ((leaves given gives).others i inside) [
      | inl out ↦ absurd (omega (arith, out.1.1, ap length none))
      | inr has ↦ has
    ];
    within = (accepts.can given gives).within;
  };
}

-- and each has its map
pub maps_of_all : {A : Type 0} (files : List (List ℕ)) (left : List (LeftOut A)) (list : List (List ℕ)) (maps : Option (List (List ℕ))) → left ≡ [] → IfSome maps (AreMapsBut files left list) → IfSome maps (AreMapsOf files list)
maps_of_all files left list None none are = tt
maps_of_all files left list (Some maps) none are = record {
  many = are.many;
  each = λ i inside. elim (are.each i inside) [
    | inl has ↦ has
    | inr out ↦ absurd (omega (arith, out.0.1.1, ap length none))
  ];
}

-- ---- the plan to stop

-- no file is left out
pub stop_leaves : {A : Type 0} (needs : ℕ → Type 0) (left : List (LeftOut A)) → AreSpared (MustStay Stop needs) left → left ≡ []
stop_leaves needs [] spared = refl
stop_leaves needs (one ∷ left) spared = absurd (spared 0 one (omega arith) tt)

stop_below : (needs : ℕ → Type 0) (files : List (List ℕ)) (end limit : ℕ) → CanSift (MustStay Stop needs) files end limit → CanMergeBelow files end limit
stop_below needs files end limit can = record { accepted = λ i less. can.accepted i less tt; within = can.within }

-- the fault is the first of all files
stop_first : {A : Type 0} (needs : ℕ → Type 0) (files : List (List ℕ)) (limit : ℕ) (fault : MergeFault A) → IsSiftFault (MustStay Stop needs) files limit fault → IsMergeFault files limit fault
stop_first needs files limit (merge.Input file inner) is = is
stop_first needs files limit (merge.Refused file inner) (inside, stays, can, refused) = (inside, stop_below needs files file limit can, refused)
stop_first needs files limit (merge.TooLarge file bytes) (inside, can, accepted, weighs, more) =
    let below = stop_below needs files file limit can in
    (inside, below, accepted_more files file accepted.0 accepted.1 below.accepted, weighs, more)
stop_first needs files limit merge.Memory is = tt

pub sift_named : {A : Type 0} (must : ℕ → Type 0) (fault : MergeFault A) → IsOfSift must fault → NamesFault fault
sift_named must (merge.Input file inner) is = is
sift_named must (merge.Refused file inner) is = is.1
sift_named must (merge.TooLarge file bytes) is = is
sift_named must merge.Memory is = is

-- so the files are refused as all of them
pub stop_refuses : {A : Type 0} (known : Option (List (Result (List ℕ) InputFault))) (needs : ℕ → Type 0) (limit : ℕ) (fault : MergeFault A) → RefusesSift known (MustStay Stop needs) limit fault → RefusesFiles known limit fault
stop_refuses known needs limit fault refuses =
    refuses_files known limit fault
    (λ given gives. stop_first needs given limit fault (refuses.first given gives))
    refuses.reads (sift_named (MustStay Stop needs) fault refuses.own)
    (λ given gives can. refuses.found given gives (record { accepted = λ i less stays. can.accepted i less; within = can.within }))

-- and accepted as all of them
pub stop_accepts : (known : Option (List (Result (List ℕ) InputFault))) (needs : ℕ → Type 0) (limit : ℕ) → AcceptsSift known (MustStay Stop needs) limit → AcceptsFiles known limit
stop_accepts known needs limit accepts = record {
  read = accepts.read;
  can = λ given gives. let can = accepts.can given gives in record { accepted = λ i less. can.accepted i less tt; within = can.within };
}

-- what is said of the file alone
unfoldable pub summary_of : {A K E : Type 0} → Result (Merged A K) E → Result Summary E
summary_of (Ok merged) = Ok merged.summary
summary_of (Err fault) = Err fault

-- a merge that follows this plan, with the GUID of the settings, merges files all of which are accepted
pub stop_merges : {A W K : Type 0} (known : Option (List (Result (List ℕ) InputFault))) (needs : ℕ → Type 0) (plan : Plan) (settings : SettingsView) (maps_of : K → Option (List (List ℕ)))
    (taken : W → Option (List ℕ)) (is_broken : W → Bool) (before after : W) (result : Result (Merged A K) (OutFault A))
    → plan.settings ≡ settings → plan.guid ≡ Given → plan.refused ≡ Stop → FollowsPlan known needs plan maps_of taken is_broken before after result
    → MergesTo known (record_limit settings) (λ given. Wrote given settings) (λ given. WrotePart given settings) taken is_broken before after (summary_of result)
unfolding summary_of
stop_merges known needs plan settings maps_of taken is_broken before after (Ok merged) is given_guid stops follows = record {
  value = λ given gives. (rw (is, given_guid) at (follows.value given gives)).wrote;
  accepts = stop_accepts known needs (record_limit settings) (rw (is, stops) at follows.accepts);
  refuses = tt;
  late = tt;
  broken = tt;
  write = λ given gives. tt;
  untouched = tt;
}
stop_merges known needs plan settings maps_of taken is_broken before after (Err fault) is given_guid stops follows = record {
  value = λ given gives. tt;
  accepts = tt;
  refuses = λ inner same. stop_refuses known needs (record_limit settings) inner (rw (is, stops) at (follows.refuses inner same));
  late = λ other. stop_accepts known needs (record_limit settings) (rw (is, stops) at (follows.late other));
  broken = follows.broken;
  write = λ given gives. rw (is, given_guid) at (follows.write given gives);
  untouched = follows.untouched;
}
