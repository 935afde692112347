-- What a merge by a plan answers.
use Rattle.std.specs.Prelude.{ℕ, ◌≡◌, ◌≢◌, ◌<◌, ◌≤◌, ◌⊎◌, zero, suc, List, [], length, map}
use Rattle.std.specs.Borrow.{Bor}
use Rattle.std.specs.declared.alloc.Global.{Global}
use Rattle.file_types.specs.Fault.{pdb_number}
use Rattle.pdb_info.specs.Settings.{record_limit}
use Rattle.pdb_merge.specs.Plan.{IsFileFor}
use Rattle.pdb_merge.specs.Sift.{AreMapsBut, AreSpared, LeavesOut, MustStay, RefusesSift}
use Rattle.pdb_merge.specs.declared.fault.MergeFault.{MergeFault}
use Rattle.pdb_merge.specs.declared.plan.Plan.{Plan}
use Rattle.pdb_merge.specs.declared.sift.LeftOut.{LeftOut}
use Rattle.pdb_merge.specs.declared.summary.Summary.{Summary}
use Rattle.run_options.specs.declared.guid_choice.GuidChoice.{GuidChoice}
use Rattle.run_options.specs.declared.guid_choice.GuidChoice.TheVariants.{Given, OfTypes}
use Rattle.run_options.specs.declared.on_refused.OnRefused.{OnRefused}
use Rattle.run_options.specs.declared.on_refused.OnRefused.TheVariants.{Stop, Skip}
use Rattle.pdbmerge_c.specs.declared.fault.Fault.{Fault}
use Rattle.pdbmerge_c.specs.declared.merge.Report.{Report}
use Rattle.pdbmerge_c.specs.declared.merge_plan.LeftOutFile.{LeftOutFile}
use Rattle.pdbmerge_c.specs.declared.merge_plan.PlanChoices.{PlanChoices}
use Rattle.pdbmerge_c.specs.declared.merge_plan.Totals.{Totals}
use Rattle.pdbmerge_c.specs.Given.{Fills}
use Rattle.pdbmerge_c.specs.Merge.{AreAllowed, IsReported, TellsReason, bytes_of_files, inputs_of, settings_of}
use Rattle.pdbmerge_c.specs.MergeMap.{indices_of}

-- ---- what is chosen

-- the GUID that this number stands for: 0 for that of the settings, 1 for that of the types
abbrev pub guid_choice : ℕ → GuidChoice
guid_choice zero = Given
guid_choice (suc _) = OfTypes

-- what becomes of a file that is refused: at 0 the merge stops, at 1 the file is left out
abbrev pub on_refused : ℕ → OnRefused
on_refused zero = Stop
on_refused (suc _) = Skip

-- the plan that was chosen
abbrev pub plan_of : PlanChoices → Plan
plan_of plan =
    record {
      settings = settings_of plan.settings;
      guid = guid_choice plan.guid;
      refused = on_refused plan.refused;
    }

-- a file can have these settings, and each other number is 0 or 1
pub record CanFollow (plan : PlanChoices) : Type 0 where
  pub settings : AreAllowed plan.settings
  pub guid : plan.guid ≤ 1
  pub refused : plan.refused ≤ 1
  pub maps : plan.maps ≤ 1

-- the file at this position must not be left out
abbrev pub MustStayBy : PlanChoices → ℕ → Type 0
MustStayBy plan = MustStay (on_refused plan.refused) (λ _. ⊥)

-- ---- what is given

-- a file, the type indices of its maps, how many each map has, and the files that were left out:
-- as they are found, or as they stand in what was lent
pub record Parts : Type 0 where
  pub file : List ℕ
  pub indices : List ℕ
  pub counts : List ℕ
  pub left_out : List LeftOutFile

-- these four
abbrev pub parts_of : List ℕ → List ℕ → List ℕ → List LeftOutFile → Parts
parts_of file indices counts left_out =
    record { file = file; indices = indices; counts = counts; left_out = left_out }

-- what is told of a file that was left out: its position, and the number of its first fault
abbrev pub entry_of : LeftOut Global → LeftOutFile
entry_of one = record { file = one.file; number = pdb_number one.fault }

-- what is said of a file of which a sink tells this
abbrev pub report_of : Summary → Report
report_of summary =
    record { length = summary.length; types = summary.types; bytes = summary.bytes }

-- the file of the types of the files that are accepted, with the GUID that is chosen, is reported;
-- the other files are left out, and told of; and the maps are those of the files into its records,
-- of no records for a file that is left out, or there are none if they are not wanted
pub record HasMerged (files : List (Bor (List ℕ))) (plan : PlanChoices) (report : Report)
    (parts : Parts) : Type 0 where
  pub is_reported :
      IsReported (IsFileFor (guid_choice plan.guid)) files plan.settings report parts.file
  pub skipped : List (LeftOut Global)
  pub leaves : LeavesOut (bytes_of_files files) skipped
  pub stays : AreSpared (MustStayBy plan) skipped
  pub listed : parts.left_out ≡ map entry_of skipped
  pub maps : List (List ℕ)
  pub are_maps : plan.maps ≢ 0 → AreMapsBut (bytes_of_files files) skipped is_reported.records maps
  pub none : plan.maps ≡ 0 → maps ≡ []
  pub indices_are : parts.indices ≡ indices_of maps
  pub counts_are : parts.counts ≡ map length maps

-- the totals are the lengths of the lists
pub record AreTotals (totals : Totals) (parts : Parts) : Type 0 where
  pub indices : totals.indices ≡ length parts.indices
  pub counts : totals.counts ≡ length parts.counts
  pub left_out : totals.left_out ≡ length parts.left_out

-- each of the four is now at the front of what was lent for it
pub record FillAll (parts old new : Parts) : Type 0 where
  pub file : Fills parts.file old.file new.file
  pub indices : Fills parts.indices old.indices new.indices
  pub counts : Fills parts.counts old.counts new.counts
  pub left_out : Fills parts.left_out old.left_out new.left_out

-- such a file and its lists are at the fronts of what was lent
pub record MergesByPlan (files : List (Bor (List ℕ))) (plan : PlanChoices) (report : Report)
    (totals : Totals) (old new : Parts) : Type 0 where
  pub parts : Parts
  pub has : HasMerged files plan report parts
  pub totals_are : AreTotals totals parts
  pub fill : FillAll parts old new

-- one of the four is longer than what was lent for it
unfoldable pub AreLonger : Parts → Parts → Type 0
AreLonger parts lent =
    (length lent.file < length parts.file)
    ⊎ (length lent.indices < length parts.indices)
    ⊎ (length lent.counts < length parts.counts)
    ⊎ (length lent.left_out < length parts.left_out)

-- such a file is longer than its room, or one of the lists is
pub record LacksRoomOfPlan (files : List (Bor (List ℕ))) (plan : PlanChoices) (report : Report)
    (totals : Totals) (lent : Parts) : Type 0 where
  pub parts : Parts
  pub has : HasMerged files plan report parts
  pub totals_are : AreTotals totals parts
  pub long : AreLonger parts lent

-- this is why the files are not merged by the plan
abbrev pub IsRefusalBy : List (Bor (List ℕ)) → PlanChoices → MergeFault Global → Type 0
IsRefusalBy files plan why =
    RefusesSift (inputs_of files) (MustStayBy plan) (record_limit (settings_of plan.settings)) why

-- what is told is why the files are not merged by the plan
abbrev pub RefusesPlan : List (Bor (List ℕ)) → PlanChoices → Fault → Type 0
RefusesPlan files plan fault = TellsReason (IsRefusalBy files plan) fault
