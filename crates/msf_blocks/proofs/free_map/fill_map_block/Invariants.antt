use Rattle.std.proofs.Common.{◌≡◌, ℕ, ◌<◌, ◌+◌, ◌*◌, ◌/◌, length, get_or}
use Rattle.msf_blocks.specs.FreeMap.{map_byte}
use Rattle.msf_blocks.proofs.free_map.fill_map_block.Given as goal

abbrev pub invariant-loop-i : goal.invariant-loop-i
invariant-loop-i l = (length l.map_block ≡ l.block_size) × ((j : ℕ) → j < l.i → get_or l.map_block j 0 ≡ map_byte l.num_blocks (8 * (l.block_size * (l.k / l.block_size) + j)))
