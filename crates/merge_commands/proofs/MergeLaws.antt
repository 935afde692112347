-- The faults of merging.
use Rattle.std.proofs.Common.{◌≡◌, ℕ, Bool, List, Option, refl, ap, inl}
use Rattle.std.specs.Prelude.{Result, Err}
use Rattle.byte_io.specs.declared.inputs.InputFault.{InputFault}
use Rattle.pdb_merge.specs.Answer.{MergesTo, Writes, WritesPart}
use Rattle.pdb_merge.specs.declared.fault.MergeFault.{MergeFault}
use Rattle.pdb_merge.specs.declared.fault.MergeFault.TheVariants as merges
use Rattle.pdb_merge.specs.declared.fault.OutFault.{OutFault}
use Rattle.pdb_merge.specs.declared.fault.OutFault.TheVariants as outs
use Rattle.pdb_merge.specs.Fault.{NamesFault}
use Rattle.show_commands.specs.Fault.{run_from_out}
use Rattle.merge_commands.specs.Merge.{IsOfMerging, MergesInto}
use Rattle.show_commands.specs.declared.fault.RunFault.TheVariants.{Merge, Write}

one_inside : {A : Type 0} (a b : MergeFault A) → Merge a ≡ Merge b → a ≡ b
one_inside a b same = cc

-- where the command has a fault of merging, that fault came from merging
pub merge_inside : {A : Type 0} (fault : OutFault A) (inner : MergeFault A) → run_from_out fault ≡ Merge inner → fault ≡ outs.Merge inner
merge_inside (outs.Merge (merges.Input file unread)) inner is = ap outs.Merge (one_inside (merges.Input file unread) inner is)
merge_inside (outs.Merge (merges.Refused file refused)) inner is = ap outs.Merge (one_inside (merges.Refused file refused) inner is)
merge_inside (outs.Merge (merges.TooLarge file bytes)) inner is = ap outs.Merge (one_inside (merges.TooLarge file bytes) inner is)
merge_inside (outs.Merge merges.Memory) inner is = absurd cc
merge_inside outs.Memory inner is = absurd cc
merge_inside outs.Write inner is = absurd cc

-- where the command did not write the file, merging did not
pub write_inside : {A : Type 0} (fault : OutFault A) → run_from_out fault ≡ Write → fault ≡ outs.Write
write_inside (outs.Merge (merges.Input file unread)) wrote = absurd cc
write_inside (outs.Merge (merges.Refused file refused)) wrote = absurd cc
write_inside (outs.Merge (merges.TooLarge file bytes)) wrote = absurd cc
write_inside (outs.Merge merges.Memory) wrote = absurd cc
write_inside outs.Memory wrote = absurd cc
write_inside outs.Write wrote = refl

-- a fault of merging or of writing is one that the command can have
pub of_merging : {A : Type 0} (fault : OutFault A) → ((inner : MergeFault A) → fault ≡ outs.Merge inner → NamesFault inner) → IsOfMerging (run_from_out fault)
of_merging (outs.Merge (merges.Input file unread)) named = (λ memory. cc, named (merges.Input file unread) refl)
of_merging (outs.Merge (merges.Refused file refused)) named = (λ memory. cc, named (merges.Refused file refused) refl)
of_merging (outs.Merge (merges.TooLarge file bytes)) named = (λ memory. cc, tt)
of_merging (outs.Merge merges.Memory) named = tt
of_merging outs.Memory named = tt
of_merging outs.Write named = tt

-- where merging is refused, so is the command
pub merge_refused : {A V W : Type 0} {known : Option (List (Result (List ℕ) InputFault))} {limit : ℕ} {wrote : List (List ℕ) → Writes} {part : List (List ℕ) → WritesPart} {taken : W → Option (List ℕ)} {is_broken : W → Bool} {before after : W}
    (told : V → Option (List ℕ)) (is_dumb : V → Bool) (report : V) (fault : OutFault A) → MergesTo known limit wrote part taken is_broken before after (Err fault)
    → MergesInto known limit wrote part taken is_broken before after told is_dumb report report (Err (run_from_out fault))
merge_refused told is_dumb report fault m = record {
  own = of_merging fault (λ inner is. (m.refuses inner is).named);
  value = λ given gives. tt;
  accepts = tt;
  refuses = λ inner is. m.refuses inner (merge_inside fault inner is);
  late = λ wrote. let did = write_inside fault cc in m.late (λ inner is. cc);
  kept = λ want. inl (m.untouched (λ did. let bad = rw did at want in cc));
  write = λ given gives wrote. let did = write_inside fault cc in inl (m.broken did, m.write given gives did, refl);
  memory = λ given gives want. inl (m.untouched (λ did. let bad = rw did at want in cc));
  broken = λ wrote. inl (m.broken (write_inside fault cc));
  untold = λ want. refl;
  untouched = λ inner is. let same = merge_inside fault inner is in (m.untouched (λ did. cc), refl);
}
