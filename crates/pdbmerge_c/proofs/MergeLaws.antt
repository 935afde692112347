-- What is told of files that are not merged, and of a merge of all files.
use Rattle.std.proofs.Common.{◌≡◌, ℕ, List, length, refl, ap, ◌∙◌}
use Rattle.std.specs.Prelude.{Result, Ok, Err, IfErr}
use Rattle.std.specs.Borrow.{Bor}
use Rattle.std.specs.declared.alloc.Global.{Global}
use Rattle.pdb_info.specs.Settings.{SettingsView, record_limit}
use Rattle.pdb_merge.specs.Answer.{RefusesFiles}
use Rattle.pdb_merge.specs.Fault.{faulty_file, merge_number}
use Rattle.pdb_merge.specs.Sift.{CanSift, MustStay, RefusesSift}
use Rattle.pdb_merge.specs.Union.{CanMerge}
use Rattle.pdb_merge.specs.declared.fault.MergeFault.{MergeFault}
use Rattle.pdb_merge.specs.declared.fault.MergeFault.TheVariants as merge
use Rattle.pdb_merge.specs.declared.fault.OutFault.{OutFault}
use Rattle.pdb_merge.specs.declared.fault.OutFault.TheVariants as out
use Rattle.pdb_merge.proofs.PlanLaws.{stop_refuses}
use Rattle.run_options.specs.declared.on_refused.OnRefused.TheVariants.{Stop}
use Rattle.pdbmerge_c.specs.declared.fault.Fault.{Fault}
use Rattle.pdbmerge_c.specs.Fault.{IsTold, input_code}
use Rattle.pdbmerge_c.specs.Merge.{IsRefusal, IsWhy, TellsReason, bytes_of_files, inputs_of, reason_of}

-- ---- the reason that is told

-- it is such a reason
pub tells_reason : (IsReason : MergeFault Global → Type 0) (why : OutFault Global) (fault : Fault) → IsWhy IsReason why → IsReason merge.Memory
    → IsTold fault (merge_number (reason_of why)) (input_code (faulty_file (reason_of why))) → TellsReason IsReason fault
tells_reason IsReason (out.Merge why) fault is memory told = record { why = why; is_fault = is; told = told }
tells_reason IsReason out.Memory fault is memory told = record { why = merge.Memory; is_fault = memory; told = told }
tells_reason IsReason out.Write fault is memory told = record { why = merge.Memory; is_fault = memory; told = told }

-- it is out of memory, where no other is such a reason
pub tells_memory : (IsReason : MergeFault Global → Type 0) (why : OutFault Global) (fault : Fault) → IsWhy IsReason why → ((reason : MergeFault Global) → IsReason reason → reason ≡ merge.Memory)
    → IsTold fault (merge_number (reason_of why)) (input_code (faulty_file (reason_of why))) → fault.number ≡ 33
tells_memory IsReason (out.Merge why) fault is only told = told.number_is ∙ ap merge_number (only why is)
tells_memory IsReason out.Memory fault is only told = told.number_is
tells_memory IsReason out.Write fault is only told = told.number_is

-- ---- out of memory

-- it is a reason not to merge the files
pub memory_refuses : (files : List (Bor (List ℕ))) (limit : ℕ) → RefusesFiles {A = Global} (inputs_of files) limit merge.Memory
memory_refuses files limit = record {
  first = λ given gives. tt;
  reads = tt;
  named = tt;
  found = λ given gives can. refl;
  any_order = λ given gives other. absurd (other refl);
}

-- and for a plan
pub memory_sifts : (files : List (Bor (List ℕ))) (must : ℕ → Type 0) (limit : ℕ) → RefusesSift {A = Global} (inputs_of files) must limit merge.Memory
memory_sifts files must limit = record {
  first = λ given gives. tt;
  reads = tt;
  own = tt;
  found = λ given gives can. refl;
}

-- ---- the plan to stop

-- the files are refused as all of them
pub all_refused : {T : Type 0} (files : List (Bor (List ℕ))) (settings : SettingsView) (result : Result T (OutFault Global))
    → IfErr result (IsWhy (RefusesSift (inputs_of files) (MustStay Stop (λ _. ⊥)) (record_limit settings))) → IfErr result (IsRefusal files settings)
all_refused files settings (Ok done) is = tt
all_refused files settings (Err (out.Merge why)) is = stop_refuses (inputs_of files) (λ _. ⊥) (record_limit settings) why is
all_refused files settings (Err out.Memory) is = tt
all_refused files settings (Err out.Write) is = tt

-- ---- files that can be merged

-- they are refused only when out of memory
pub only_memory : (files : List (Bor (List ℕ))) (settings : SettingsView) → CanMerge (bytes_of_files files) (record_limit settings) → (why : MergeFault Global) → RefusesFiles (inputs_of files) (record_limit settings) why → why ≡ merge.Memory
only_memory files settings can why refuses = refuses.found (bytes_of_files files) refl can

-- and by a plan
pub only_memory_sifts : (files : List (Bor (List ℕ))) (must : ℕ → Type 0) (limit : ℕ) → CanSift must (bytes_of_files files) (length (bytes_of_files files)) limit → (why : MergeFault Global) → RefusesSift (inputs_of files) must limit why → why ≡ merge.Memory
only_memory_sifts files must limit can why refuses = refuses.found (bytes_of_files files) refl can
