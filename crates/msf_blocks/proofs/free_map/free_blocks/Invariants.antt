use Rattle.std.proofs.Common.{◌≡◌, ◌≤◌, take}
use Rattle.std.specs.Prelude.{count_by}
use Rattle.std.specs.List.{range_with_len}
use Rattle.msf_blocks.specs.FreeMap.{is_free}
use Rattle.msf_blocks.proofs.free_map.free_blocks.Given as goal

abbrev pub invariant-loop-block : goal.invariant-loop-block
invariant-loop-block l = record {
  counted : l.free ≡ count_by (is_free l.file l.superblock) (take l.block (range_with_len 0 l.superblock.num_blocks));
  few : l.free ≤ l.block;
}
