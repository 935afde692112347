-- The command `merge`, step by step.
use Rattle.std.proofs.Common.{◌≡◌, ◌⊎◌, ℕ, List, Option, length, take, arith, inl, inr}
use Rattle.std.specs.Prelude.{Result, Ok, Err}
use Rattle.std.proofs.lemmas.List.{take_all}
use Rattle.byte_io.specs.declared.inputs.InputFault.{InputFault}
use Rattle.pdb_merge.specs.Plan.{FollowsPlan}
use Rattle.pdb_merge.proofs.PlanLaws.{sift_named}
use Rattle.pdb_merge.specs.Sift.{MustStay}
use Rattle.pdb_merge.specs.declared.fault.OutFault.{OutFault}
use Rattle.pdb_merge.specs.declared.merged.Merged.{Merged}
use Rattle.pdb_merge.specs.declared.plan.Plan.{Plan}
use Rattle.show_commands.specs.Fault.{run_from_out}
use Rattle.merge_commands.specs.Merge.{IsOfMerging}
use Rattle.merge_commands.specs.Plan.{Broke, IsSame, RunsPlan, Sunk, Took, kept_lines, report_of}
use Rattle.show_commands.specs.declared.fault.RunFault.{RunFault}
use Rattle.show_commands.specs.declared.fault.RunFault.TheVariants.{Memory, Write}
use Rattle.merge_commands.proofs.MergeLaws.{merge_inside, of_merging, write_inside}

-- a merge that is refused
pub plan_refused : {A K W M V : Type 0} (known : Option (List (Result (List ℕ) InputFault))) (needs : ℕ → Type 0) (plan : Plan) (maps_of : K → Option (List (List ℕ))) (out : Sunk W) (map : Sunk M) (report : Sunk V) (fault : OutFault A)
    → FollowsPlan {K = K} known needs plan maps_of out.taken out.is_broken out.before out.after (Err fault) → IsSame map → IsSame report
    → RunsPlan {K = K} known needs plan maps_of out map report (Err (run_from_out fault))
plan_refused known needs plan maps_of out map report fault m map_same report_same =
    record {
      own = of_merging fault (λ inner is. sift_named (MustStay plan.refused needs) inner (m.refuses inner is).own);
      value = λ given gives. tt;
      mapped = tt;
      told = tt;
      accepts = tt;
      all = tt;
      listed = tt;
      spared = tt;
      refuses = λ inner is. m.refuses inner (merge_inside fault inner is);
      untouched = λ inner is. let same = merge_inside fault inner is in record { out_same = m.untouched (λ did. cc); map_same = map_same; report_same = report_same };
      late = λ wrote. let did = write_inside fault cc in m.late (λ inner is. cc);
      broken = λ wrote. inl (m.broken (write_inside fault cc), map_same, report_same);
      write = λ given gives wrote. let did = write_inside fault cc in inl (record { broken = m.broken did; part = m.write given gives did; map_same = map_same; report_same = report_same });
      kept = λ want. inl (record { out_same = m.untouched (λ did. let bad = rw did at want in cc); map_same = map_same; report_same = report_same });
      untold = λ want. report_same;
      memory = λ given gives want. inl (record { out_same = m.untouched (λ did. let bad = rw did at want in cc); map_same = map_same; report_same = report_same });
    }

-- a fault of writing
late_own : {A : Type 0} (fault : RunFault A) → (fault ≡ Memory) ⊎ (fault ≡ Write) → IsOfMerging fault
late_own fault (inl memory) = rw memory tt
late_own fault (inr wrote) = rw wrote tt

-- the maps that are not written
pub plan_unmapped : {A K W M V : Type 0} (known : Option (List (Result (List ℕ) InputFault))) (needs : ℕ → Type 0) (plan : Plan) (maps_of : K → Option (List (List ℕ))) (out : Sunk W) (map : Sunk M) (report : Sunk V) (done : Merged A K) (fault : RunFault A)
    → FollowsPlan known needs plan maps_of out.taken out.is_broken out.before out.after (Ok done)
    → (fault ≡ Memory) ⊎ (fault ≡ Write)
    → (fault ≡ Write → Broke map (kept_lines (maps_of done.maps)))
    → (fault ≡ Memory → (n : ℕ) × Took map (take n (kept_lines (maps_of done.maps))))
    → IsSame report → RunsPlan {K = K} known needs plan maps_of out map report (Err fault)
plan_unmapped known needs plan maps_of out map report done fault m is write memory report_same = record {
  own = late_own fault is;
  value = λ given gives. tt;
  mapped = tt;
  told = tt;
  accepts = tt;
  all = tt;
  listed = tt;
  spared = tt;
  refuses = λ inner same. elim is [ inl ran ↦ absurd cc | inr wrote ↦ absurd cc ];
  untouched = λ inner same. elim is [ inl ran ↦ absurd cc | inr wrote ↦ absurd cc ];
  late = λ wrote. m.accepts;
  broken = λ wrote. inr (inl ((write cc).0, report_same));
  write = λ given gives wrote. inr (inl (record { done = done; wrote = m.value given gives; broke = write cc; report_same = report_same }));
  kept = λ want. inr m.accepts;
  untold = λ want. report_same;
  memory = λ given gives want. let took = memory cc in inr (record { done = done; wrote = m.value given gives; count = took.0; lines = took.1; report_same = report_same });
}

-- the report that is not written
pub plan_untold : {A K W M V : Type 0} (known : Option (List (Result (List ℕ) InputFault))) (needs : ℕ → Type 0) (plan : Plan) (maps_of : K → Option (List (List ℕ))) (out : Sunk W) (map : Sunk M) (report : Sunk V) (done : Merged A K) (fault : RunFault A)
    → FollowsPlan known needs plan maps_of out.taken out.is_broken out.before out.after (Ok done)
    → Took map (kept_lines (maps_of done.maps))
    → (fault ≡ Memory) ⊎ (fault ≡ Write)
    → (fault ≡ Write → Broke report (report_of plan done))
    → (fault ≡ Memory → IsSame report) → RunsPlan {K = K} known needs plan maps_of out map report (Err fault)
plan_untold known needs plan maps_of out map report done fault m mapped is write memory = record {
  own = late_own fault is;
  value = λ given gives. tt;
  mapped = tt;
  told = tt;
  accepts = tt;
  all = tt;
  listed = tt;
  spared = tt;
  refuses = λ inner same. elim is [ inl ran ↦ absurd cc | inr wrote ↦ absurd cc ];
  untouched = λ inner same. elim is [ inl ran ↦ absurd cc | inr wrote ↦ absurd cc ];
  late = λ wrote. m.accepts;
  broken = λ wrote. inr (inr (write cc).0);
  write = λ given gives wrote. inr (inr (record { done = done; wrote = m.value given gives; mapped = mapped; broke = write cc }));
  kept = λ want. inr m.accepts;
  untold = λ want. memory cc;
  memory = λ given gives want.
      let lines = kept_lines (maps_of done.maps) in
      inr (record { done = done; wrote = m.value given gives; count = length lines; lines = rw (take_all (length lines) lines (omega arith)) mapped; report_same = memory cc });
}

-- all is written
pub plan_done : {A K W M V : Type 0} (known : Option (List (Result (List ℕ) InputFault))) (needs : ℕ → Type 0) (plan : Plan) (maps_of : K → Option (List (List ℕ))) (out : Sunk W) (map : Sunk M) (report : Sunk V) (done : Merged A K)
    → FollowsPlan known needs plan maps_of out.taken out.is_broken out.before out.after (Ok done)
    → Took map (kept_lines (maps_of done.maps)) → Took report (report_of plan done) → RunsPlan known needs plan maps_of out map report (Ok done)
plan_done known needs plan maps_of out map report done m mapped told = record {
  own = tt;
  value = m.value;
  mapped = mapped;
  told = told;
  accepts = m.accepts;
  all = m.all;
  listed = m.listed;
  spared = m.spared;
  refuses = tt;
  untouched = tt;
  late = λ wrote. absurd cc;
  broken = λ wrote. absurd cc;
  write = λ given gives wrote. absurd cc;
  kept = λ want. absurd cc;
  untold = λ want. absurd cc;
  memory = λ given gives want. absurd cc;
}
