use Rattle.std.proofs.Common.{◌≡◌, ◌+◌, ◌*◌, ◌≤◌, None, length}
use Rattle.byte_fields.specs.Check.{first_failing, checks_below}
use Rattle.pdb_info.specs.Names.{buckets_below, present_of, pair_checks, pairs_offset}
use Rattle.pdb_info.proofs.map.NameMap.check_pairs.Given as goal

abbrev pub invariant-loop-bucket : goal.invariant-loop-bucket
invariant-loop-bucket l = record {
  counted : l.k ≡ length (buckets_below (present_of l.stream) l.bucket);
  inside : pairs_offset l.stream + 8 * l.k ≤ length l.stream;
  held : first_failing (checks_below l.k (pair_checks l.stream)) ≡ None;
}
