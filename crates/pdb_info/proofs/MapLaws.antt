-- The numbers of the named stream map.
use Rattle.std.proofs.Common.{◌≡◌, ℕ, ◌+◌, ◌*◌, ◌^◌, ◌<◌, ◌≤◌, List, arith}
use Rattle.std.specs.Prelude.{count_ones}
use Rattle.std.proofs.lemmas.Nat.{ones-le}
use Rattle.std.proofs.lemmas.List.FromFn.{sum_by-map-range_with_len_more}
use Rattle.byte_fields.specs.Number.{number_at}
use Rattle.pdb_info.specs.Names.{numbers_at, present_count}

-- one more word
pub present_more : (stream : List ℕ) (start w : ℕ) → present_count (numbers_at stream start (w + 1)) ≡ present_count (numbers_at stream start w) + count_ones (number_at 4 stream (start + 4 * w))
present_more stream start w = sum_by-map-range_with_len_more count_ones (λ (k : ℕ). number_at 4 stream (start + 4 * k)) 0 w w (omega arith)

-- a number of four bytes has at most 32 bits that are 1
pub ones_few : (number : ℕ) → number < 2 ^ 32 → count_ones number ≤ 32
ones_few number small = ones-le 32 number small
