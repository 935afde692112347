use Rattle.std.proofs.Common.{◌≡◌}
use Rattle.pdb_merge.specs.Sift.{MustStay, SiftsUpTo}
use Rattle.pdb_merge.proofs.sift.sift_files.Given as goal

abbrev pub invariant-loop-input : goal.invariant-loop-input
invariant-loop-input g l = record {
  so_far : SiftsUpTo (g.I.Inputs.known l.files) (MustStay l.plan.refused (g.I.BoundedInputs.needs l.files)) l.input l.merge l.left_out.items;
  limit : l.merge.limit ≡ l.initial.merge.limit;
}
