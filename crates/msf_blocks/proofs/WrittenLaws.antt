-- The block map and the directory of an image, number by number.
use Rattle.std.proofs.Common.{◌≡◌, ℕ, ◌+◌, ◌<◌, ◌^◌, List, [], ◌∷◌, ◌++◌, length, take, get_or, ap, ◌∙◌, arith, append_assoc, refl}
use Rattle.std.proofs.lemmas.List.{append-nil, take_more}
use Rattle.std.proofs.lemmas.List.FromFn.{map-range_with_len_more}
use Rattle.std.proofs.lemmas.List.Concat.{flat_map-append}
use Rattle.byte_fields.specs.Number.{four_bytes, u32s}
use Rattle.msf_superblock.specs.BlockNumber.{IsBlockSize, nth_block, block_numbers}
use Rattle.msf_superblock.proofs.SizeLaws.{big_enough}
use Rattle.msf_superblock.proofs.BlockLaws.{nth_few}

-- one more number at the end
u32s_push : (ns : List ℕ) (n : ℕ) → u32s (ns ++ n ∷ []) ≡ u32s ns ++ four_bytes n
u32s_push ns n = flat_map-append four_bytes ns (n ∷ []) ∙ rw (append-nil (four_bytes n)) refl

-- the number of one more block
numbers_more : (b first j : ℕ) → u32s (block_numbers b first (j + 1)) ≡ u32s (block_numbers b first j) ++ four_bytes (nth_block b (first + j))
numbers_more b first j = ap u32s (map-range_with_len_more (nth_block b) first j (first + j) refl) ∙ u32s_push (block_numbers b first j) (nth_block b (first + j))

-- one more number of a list
pub u32s_more : (ns : List ℕ) (i : ℕ) → i < length ns → u32s (take (i + 1) ns) ≡ u32s (take i ns) ++ four_bytes (get_or ns i 0)
u32s_more ns i lt = ap u32s (take_more ns i 0 lt) ∙ u32s_push (take i ns) (get_or ns i 0)

-- the number of one of the first 2 ^ 28 data blocks fits in four bytes
pub small_number : (b j : ℕ) → IsBlockSize b → j < 2 ^ 28 → nth_block b j < 2 ^ 32
small_number b j size few = omega (arith, nth_few b j (big_enough b size))

pub block_pushed : (b first j block : ℕ) (old before new : List ℕ) → before ≡ old ++ u32s (block_numbers b first j) → block ≡ nth_block b (first + j) → new ≡ before ++ four_bytes block
    → new ≡ old ++ u32s (block_numbers b first (j + 1))
block_pushed b first j block old before new so_far is pushed =
    pushed ∙ rw (so_far, is, numbers_more b first j) (append_assoc old (u32s (block_numbers b first j)) (four_bytes (nth_block b (first + j))))
