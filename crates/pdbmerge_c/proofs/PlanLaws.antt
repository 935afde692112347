-- What a merge by a plan gives, and a merge of all files with their maps.
use Rattle.std.proofs.Common.{◌≡◌, ◌≢◌, ℕ, List, [], Some, length, map, subst, ap, ◌∙◌, arith, inl, inr}
use Rattle.std.specs.Prelude.{Option}
use Rattle.std.specs.Borrow.{Bor}
use Rattle.std.specs.declared.alloc.Global.{Global}
use Rattle.pdb_info.specs.Settings.{record_limit}
use Rattle.pdb_merge.specs.Plan.{IsFileFor}
use Rattle.pdb_merge.specs.Sift.{AreSpared, CanSift, MustStay, WroteSifted}
use Rattle.pdb_merge.specs.Union.{CanMerge}
use Rattle.pdb_merge.specs.declared.plan.Plan.{Plan}
use Rattle.pdb_merge.specs.declared.sift.LeftOut.{LeftOut}
use Rattle.pdb_merge.specs.declared.summary.Summary.{Summary}
use Rattle.pdb_merge.proofs.PlanLaws.{maps_of_all, stop_leaves, stop_refuses}
use Rattle.pdbmerge_c.specs.declared.fault.Fault.{Fault}
use Rattle.pdbmerge_c.specs.declared.merge.Choices.{Choices}
use Rattle.pdbmerge_c.specs.declared.merge.Report.{Report}
use Rattle.pdbmerge_c.specs.declared.merge_plan.LeftOutFile.{LeftOutFile}
use Rattle.pdbmerge_c.specs.declared.merge_plan.PlanChoices.{PlanChoices}
use Rattle.pdbmerge_c.specs.declared.merge_plan.Totals.{Totals}
use Rattle.pdbmerge_c.specs.Merge.{AreAllowed, RefusesMerge, bytes_of_files, inputs_of, settings_of}
use Rattle.pdbmerge_c.specs.MergeMap.{AreTooLong, HasFileAndMaps, LacksRoomOfMaps, MergesWithMaps, indices_of}
use Rattle.pdbmerge_c.specs.MergePlan.{AreLonger, CanFollow, HasMerged, LacksRoomOfPlan, MergesByPlan, MustStayBy, Parts, RefusesPlan, entry_of, parts_of, plan_of, report_of}

-- a file that was written into memory has its lists
pub has_merged : (files : List (Bor (List ℕ))) (plan : PlanChoices) (its : Plan) (file : List ℕ) (summary : Summary) (skipped : List (LeftOut Global)) (kept : Option (List (List ℕ))) (maps : List (List ℕ)) (indices counts : List ℕ) (left : List LeftOutFile)
    → its ≡ plan_of plan
    → WroteSifted (IsFileFor its.guid (bytes_of_files files) its.settings) (bytes_of_files files) (Some []) (Some file) summary skipped kept
    → AreSpared (MustStay its.refused (λ _. ⊥)) skipped
    → left ≡ map entry_of skipped → (plan.maps ≢ 0 → kept ≡ Some maps) → (plan.maps ≡ 0 → maps ≡ []) → indices ≡ indices_of maps → counts ≡ map length maps
    → HasMerged files plan (report_of summary) (parts_of file indices counts left)
has_merged files plan its file summary skipped kept maps indices counts left is sifted spared told wanted none listed counted =
    let bytes = bytes_of_files files in
    let by_plan = subst (λ (p : Plan). WroteSifted (IsFileFor p.guid bytes p.settings) bytes (Some []) (Some file) summary skipped kept) is sifted in
    let wrote = by_plan.wrote in
    record {
      is_reported = record {
        records = wrote.records;
        is_file = rw wrote.taken wrote.is_file;
        types = wrote.types;
        bytes = wrote.bytes;
        long = rw wrote.taken wrote.long;
      };
      skipped = skipped;
      leaves = by_plan.leaves;
      stays = subst (λ (p : Plan). AreSpared (MustStay p.refused (λ _. ⊥)) skipped) is spared;
      listed = told;
      maps = maps;
      are_maps = λ other. rw (wanted other) at by_plan.maps;
      none = none;
      indices_are = listed;
      counts_are = counted;
    }

-- ---- the plan to stop, with maps

-- the plan of a merge of all files that lists their maps
abbrev pub all_mapped : Choices → PlanChoices
all_mapped choices = record { settings = choices; guid = 0; refused = 0; maps = 1 }

-- no file is left out
none_skipped : (files : List (Bor (List ℕ))) (choices : Choices) (report : Report) (parts : Parts) (has : HasMerged files (all_mapped choices) report parts) → has.skipped ≡ []
none_skipped files choices report parts has = stop_leaves (λ _. ⊥) has.skipped has.stays

-- each file has its map
has_maps : (files : List (Bor (List ℕ))) (choices : Choices) (report : Report) (parts : Parts) → HasMerged files (all_mapped choices) report parts → HasFileAndMaps files choices report parts.file parts.indices parts.counts
has_maps files choices report parts has = record {
  is_reported = record {
    records = has.is_reported.records;
    is_file = has.is_reported.is_file;
    types = has.is_reported.types;
    bytes = has.is_reported.bytes;
    long = has.is_reported.long;
  };
  maps = has.maps;
  are_maps = maps_of_all (bytes_of_files files) has.skipped has.is_reported.records (Some has.maps) (none_skipped files choices report parts has) (has.are_maps (λ same. omega (arith, same)));
  indices_are = has.indices_are;
  counts_are = has.counts_are;
}

-- what is given of it
pub gives_maps : (files : List (Bor (List ℕ))) (choices : Choices) (report : Report) (totals : Totals) (old new : Parts) → MergesByPlan files (all_mapped choices) report totals old new
    → MergesWithMaps files choices report totals.indices old.file new.file old.indices new.indices old.counts new.counts
gives_maps files choices report totals old new merges = record {
  file = merges.parts.file;
  indices = merges.parts.indices;
  counts = merges.parts.counts;
  has = has_maps files choices report merges.parts merges.has;
  total_is = merges.totals_are.indices;
  fills = merges.fill.file;
  fills_indices = merges.fill.indices;
  fills_counts = merges.fill.counts;
}

-- one of the three is too long, since no list of files that were left out is
three_longer : (parts lent : Parts) → parts.left_out ≡ [] → AreLonger parts lent → AreTooLong parts.file parts.indices parts.counts (length lent.file) (length lent.indices) (length lent.counts)
unfolding AreLonger AreTooLong
three_longer parts lent none (inl file) = inl file
three_longer parts lent none (inr (inl indices)) = inr (inl indices)
three_longer parts lent none (inr (inr (inl counts))) = inr (inr counts)
three_longer parts lent none (inr (inr (inr left))) = absurd (omega (arith, left, ap length none))

-- so there is too little room for the file or for its maps
pub lacks_maps : (files : List (Bor (List ℕ))) (choices : Choices) (report : Report) (totals : Totals) (total : ℕ) (out indices counts : List ℕ) (left : List LeftOutFile) → LacksRoomOfPlan files (all_mapped choices) report totals (parts_of out indices counts left) → total ≡ totals.indices
    → LacksRoomOfMaps files choices report total (length out) (length indices) (length counts)
lacks_maps files choices report totals total out indices counts left lacks is =
    let none = none_skipped files choices report lacks.parts lacks.has in
    record {
      file = lacks.parts.file;
      indices = lacks.parts.indices;
      counts = lacks.parts.counts;
      has = has_maps files choices report lacks.parts lacks.has;
      total_is = is ∙ lacks.totals_are.indices;
      long = three_longer lacks.parts (parts_of out indices counts left) (lacks.has.listed ∙ ap (map entry_of) none) lacks.long;
    }

-- it can be followed where a file can have the settings
pub follows_all : (choices : Choices) → AreAllowed choices → CanFollow (all_mapped choices)
follows_all choices allowed = record { settings = allowed; guid = omega arith; refused = omega arith; maps = omega arith }

-- the files are refused as all of them
pub refuses_all : (files : List (Bor (List ℕ))) (choices : Choices) (fault : Fault) → RefusesPlan files (all_mapped choices) fault → RefusesMerge files (settings_of choices) fault
refuses_all files choices fault refuses = record {
  why = refuses.why;
  is_fault = stop_refuses (inputs_of files) (λ _. ⊥) (record_limit (settings_of choices)) refuses.why refuses.is_fault;
  told = refuses.told;
}

-- those that can be merged can be so by this plan
pub sifts_all : (files : List (List ℕ)) (choices : Choices) (limit : ℕ) → CanMerge files limit → CanSift (MustStayBy (all_mapped choices)) files (length files) limit
sifts_all files choices limit can = record { accepted = λ i less stays. can.accepted i less; within = can.within }
