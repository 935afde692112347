-- What the command `merge` writes, and how it answers.
use Rattle.std.specs.Prelude.{ℕ, ◌≡◌, ◌⊎◌, Bool, true, vec_len, List, [], Option, Result, Err, take, OnOk, IfOk, IfErr}
use Rattle.std.specs.Io.KnownBytes.{Appends}
use Rattle.byte_io.specs.Inputs.{Give}
use Rattle.byte_io.specs.declared.inputs.InputFault.{InputFault}
use Rattle.msf_streams.specs.Put.{AppendsPart}
use Rattle.pdb_info.specs.Settings.{record_limit}
use Rattle.type_table.specs.Maps.{kept_maps}
use Rattle.output_lines.specs.Maps.{lines_of_maps}
use Rattle.pdb_merge.specs.Answer.{AcceptsFiles}
use Rattle.pdb_merge.specs.Merged.{WrotePartAs}
use Rattle.pdb_merge.specs.Plan.{IsFileFor}
use Rattle.pdb_merge.specs.Sift.{AcceptsSift, AreListed, AreSpared, MustStay, RefusesSift, WroteSifted}
use Rattle.pdb_merge.specs.declared.fault.MergeFault.{MergeFault}
use Rattle.pdb_merge.specs.declared.merged.Merged.{Merged}
use Rattle.pdb_merge.specs.declared.plan.Plan.{Plan}
use Rattle.merge_commands.specs.Merge.{IsOfMerging, report_lines}
use Rattle.show_commands.specs.declared.fault.RunFault.{RunFault}
use Rattle.show_commands.specs.declared.fault.RunFault.TheVariants.{Merge, Memory, Write}

-- ---- a sink

-- a sink before and after a call: which bytes it took, and whether it is broken
pub record Sunk (W : Type 0) : Type 0 where
  pub taken : W → Option (List ℕ)
  pub is_broken : W → Bool
  pub before : W
  pub after : W

abbrev pub sunk : {W : Type 0} → (W → Option (List ℕ)) → (W → Bool) → W → W → Sunk W
sunk taken is_broken before after =
    record { taken = taken; is_broken = is_broken; before = before; after = after }

-- it took all these bytes
abbrev pub Took : {W : Type 0} → Sunk W → List ℕ → Type 0
Took sink bytes = Appends (sink.taken sink.before) (sink.taken sink.after) bytes

-- it broke, after it took the first of these bytes, but not all of them
abbrev pub Broke : {W : Type 0} → Sunk W → List ℕ → Type 0
Broke sink bytes =
    (sink.is_broken sink.after ≡ true)
    × AppendsPart (sink.taken sink.before) (sink.taken sink.after) bytes

-- it is as it was
abbrev pub IsSame : {W : Type 0} → Sunk W → Type 0
IsSame sink = sink.after ≡ sink.before

-- ---- what is written

-- the lines of the maps, if they are kept
abbrev pub kept_lines : Option (List (List ℕ)) → List ℕ
kept_lines kept = lines_of_maps 0 (kept_maps kept)

-- OUT took the file of the types of those files that are accepted, and the answer of the merge says
-- what it has, which files were left out, and where the types of each file are in it
abbrev pub WroteOut : {A K W : Type 0} → Plan → List (List ℕ) → (K → Option (List (List ℕ)))
    → Sunk W → Merged A K → Type 0
WroteOut plan given maps_of out done =
    WroteSifted (IsFileFor plan.guid given plan.settings) given
    (out.taken out.before) (out.taken out.after)
    done.summary done.left_out.items (maps_of done.maps)

-- the report on it
abbrev pub report_of : {A K : Type 0} → Plan → Merged A K → List ℕ
report_of plan done = report_lines done.summary plan.refused (vec_len done.left_out)

-- OUT broke, and took the first bytes of the file
pub record BrokeOut {W M V : Type 0} (plan : Plan) (given : List (List ℕ)) (out : Sunk W)
    (map : Sunk M) (report : Sunk V) : Type 0 where
  pub broken : out.is_broken out.after ≡ true
  pub part : WrotePartAs (IsFileFor plan.guid given plan.settings)
      (out.taken out.before) (out.taken out.after)
  pub map_same : IsSame map
  pub report_same : IsSame report

-- OUT took the whole file; MAP broke, and took the first bytes of the lines of its maps
pub record BrokeMap (A : Type 0) {K W M V : Type 0} (plan : Plan) (given : List (List ℕ))
    (maps_of : K → Option (List (List ℕ))) (out : Sunk W) (map : Sunk M) (report : Sunk V)
    : Type 0 where
  pub done : Merged A K
  pub wrote : WroteOut plan given maps_of out done
  pub broke : Broke map (kept_lines (maps_of done.maps))
  pub report_same : IsSame report

-- OUT took the whole file, and MAP its maps; the sink of the report broke, and took the first bytes
pub record BrokeReport (A : Type 0) {K W M V : Type 0} (plan : Plan) (given : List (List ℕ))
    (maps_of : K → Option (List (List ℕ))) (out : Sunk W) (map : Sunk M) (report : Sunk V)
    : Type 0 where
  pub done : Merged A K
  pub wrote : WroteOut plan given maps_of out done
  pub mapped : Took map (kept_lines (maps_of done.maps))
  pub broke : Broke report (report_of plan done)

-- OUT took the whole file, and MAP the first lines of its maps; memory ran out then
pub record RanOut (A : Type 0) {K W M V : Type 0} (plan : Plan) (given : List (List ℕ))
    (maps_of : K → Option (List (List ℕ))) (out : Sunk W) (map : Sunk M) (report : Sunk V)
    : Type 0 where
  pub done : Merged A K
  pub wrote : WroteOut plan given maps_of out done
  pub count : ℕ
  pub lines : Took map (take count (kept_lines (maps_of done.maps)))
  pub report_same : IsSame report

-- nothing was written
pub record WroteNothing {W M V : Type 0} (out : Sunk W) (map : Sunk M) (report : Sunk V) : Type 0
  where
    pub out_same : IsSame out
    pub map_same : IsSame map
    pub report_same : IsSame report

-- one of the sinks is broken, and nothing was written into those behind it
abbrev pub Breaks : {W M V : Type 0} → Sunk W → Sunk M → Sunk V → Type 0
Breaks out map report =
    ((out.is_broken out.after ≡ true) × IsSame map × IsSame report)
    ⊎ ((map.is_broken map.after ≡ true) × IsSame report)
    ⊎ (report.is_broken report.after ≡ true)

-- how the command answers: it follows the plan, writes the file into `out`, then the maps into
-- `map`, and then the report
pub record RunsPlan {A K W M V : Type 0} (known : Option (List (Result (List ℕ) InputFault)))
    (needs : ℕ → Type 0) (plan : Plan) (maps_of : K → Option (List (List ℕ)))
    (out : Sunk W) (map : Sunk M) (report : Sunk V)
    (result : Result (Merged A K) (RunFault A)) : Type 0 where
  -- the command has no other fault, whatever is known of the inputs
  pub own : IfErr result IsOfMerging
  pub value : (given : List (List ℕ)) → Give known given →
      IfOk result (WroteOut plan given maps_of out)
  -- MAP is that of the merge that wrote OUT, and the report is on it, whatever is known
  pub mapped : IfOk result (λ done. Took map (kept_lines (maps_of done.maps)))
  pub told : IfOk result (λ done. Took report (report_of plan done))
  pub accepts : OnOk result
      (AcceptsSift known (MustStay plan.refused needs) (record_limit plan.settings))
  -- if no file is left out, all are accepted
  pub all : IfOk result (λ done.
      done.left_out.items ≡ [] → AcceptsFiles known (record_limit plan.settings))
  -- whatever is known of the files, each is left out once, in their order
  pub listed : IfOk result (λ done. (n : ℕ) × AreListed n done.left_out.items)
  -- a file that must stay is not left out
  pub spared : IfOk result (λ done. AreSpared (MustStay plan.refused needs) done.left_out.items)
  pub refuses : IfErr result (λ fault. (inner : MergeFault A) → fault ≡ Merge inner →
      RefusesSift known (MustStay plan.refused needs) (record_limit plan.settings) inner)
  pub untouched : IfErr result (λ fault. (inner : MergeFault A) → fault ≡ Merge inner →
      WroteNothing out map report)
  -- something may have been written only where the files can be merged
  pub late : result ≡ Err Write →
      AcceptsSift known (MustStay plan.refused needs) (record_limit plan.settings)
  pub broken : result ≡ Err Write → Breaks out map report
  pub write : (given : List (List ℕ)) → Give known given → result ≡ Err Write →
      BrokeOut plan given out map report
      ⊎ BrokeMap A plan given maps_of out map report
      ⊎ BrokeReport A plan given maps_of out map report
  pub kept : result ≡ Err Memory → WroteNothing out map report
      ⊎ AcceptsSift known (MustStay plan.refused needs) (record_limit plan.settings)
  pub untold : result ≡ Err Memory → IsSame report
  pub memory : (given : List (List ℕ)) → Give known given → result ≡ Err Memory →
      WroteNothing out map report ⊎ RanOut A plan given maps_of out map report
