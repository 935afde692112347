use Rattle.std.proofs.Common.{arith}
use Rattle.std.proofs.lemmas.Grind.{common_steps}
use Rattle.msf_superblock.proofs.SuperblockLaws.{magic_from_starts_with}
use Rattle.msf_superblock.proofs.superblock.Superblock.of.Goals as goal

pub invariant_of-result : goal.invariant_of-result
invariant_of-result c = record {
  block_size_fits = grind (arith, common_steps);
  free_map_block_fits = grind (arith, common_steps);
  directory_multiple = grind (arith, common_steps);
  directory_fits = grind (arith, common_steps);
  block_map_fits = (grind (arith, common_steps), grind (arith, common_steps));
}

pub returns-clause-magical : goal.returns-clause-magical
returns-clause-magical c = magic_from_starts_with c.args.front.now (grind arith)

pub returns-clause-fit : goal.returns-clause-fit
returns-clause-fit c = record {
  block_size_fits = grind (arith, common_steps);
  free_map_block_fits = grind (arith, common_steps);
  directory_multiple = grind (arith, common_steps);
  directory_fits = grind (arith, common_steps);
  block_map_fits = (grind (arith, common_steps), grind (arith, common_steps));
}
