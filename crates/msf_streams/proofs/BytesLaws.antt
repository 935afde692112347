-- The parts of an image and the streams of a file are made of bytes.
use Rattle.std.proofs.Common.{◌≡◌, ℕ, zero, suc, ◌+◌, ◌-◌, ◌*◌, ◌/◌, ◌%◌, ◌<◌, true, nat_lt, nat_eq, min, List, [], ◌∷◌, ◌++◌, Option, Some, None, length, map, drop, get_or, refl, arith, inl, inr}
use Rattle.std.specs.List.{AllByRecursion, range_with_len, flat_map, list_all, slice_get}
use Rattle.std.specs.Prelude.{option_map}
use Rattle.std.proofs.lemmas.Nat.{pow_pos}
use Rattle.std.proofs.lemmas.Bool.{cases_Bool}
use Rattle.std.proofs.lemmas.Bool.Decides.{nat_tests}
use Rattle.byte_fields.specs.Bytes.{AreBytes}
use Rattle.byte_fields.proofs.BytesLaws.{bytes_append, bytes_take, bytes_drop, u32s_are_bytes}
use Rattle.byte_fields.specs.Number.{u32s}
use Rattle.msf_superblock.specs.BlockNumber.{is_map_block, blocks_for, data_blocks}
use Rattle.msf_superblock.specs.Superblock.{magic}
use Rattle.msf_blocks.specs.Directory.{Listed, bytes_of}
use Rattle.msf_blocks.specs.Layout.{LayoutView}
use Rattle.msf_streams.specs.Streams.{listed_contents, stream_contents}
use Rattle.msf_blocks.specs.Blocks.{in_blocks}
use Rattle.msf_blocks.specs.FreeMap.{map_byte, map_block}
use Rattle.msf_superblock.specs.BlockNumber.{block_numbers}
use Rattle.msf_streams.specs.Image.{padded, data_block, image_block, laid_out, superblock_numbers, superblock_part, block_map_part, directory_part, directory_count, blocks_of_all, parts, image, image_blocks}
use lib.ListN.{replicate}

-- ---- lists of bytes

bytes_nil : AreBytes []
bytes_nil i = omega arith

bytes_cons : (x : ℕ) (xs : List ℕ) → x < 256 → AreBytes xs → AreBytes (x ∷ xs)
bytes_cons x xs lt each zero = lt
bytes_cons x xs lt each (suc i) = each i

bytes_flat_map : {X : Type 0} (f : X → List ℕ) (xs : List X) → ((x : X) → AreBytes (f x)) → AreBytes (flat_map f xs)
bytes_flat_map f [] each = bytes_nil
bytes_flat_map f (x ∷ xs) each = bytes_append (f x) (flat_map f xs) (each x) (bytes_flat_map f xs each)

bytes_map : {X : Type 0} (f : X → ℕ) (xs : List X) → ((x : X) → f x < 256) → AreBytes (map f xs)
bytes_map f [] each = bytes_nil
bytes_map f (x ∷ xs) each = bytes_cons (f x) (map f xs) (each x) (bytes_map f xs each)

bytes_replicate : (n byte : ℕ) → byte < 256 → AreBytes (replicate n byte)
bytes_replicate zero byte lt = bytes_nil
bytes_replicate (suc n) byte lt = bytes_cons byte (replicate n byte) lt (bytes_replicate n byte lt)

-- a list whose numbers are all below 256 is made of bytes
bytes_tested : (xs : List ℕ) → list_all (λ x. nat_lt x 256) xs ≡ true → AreBytes xs
bytes_tested [] e = bytes_nil
bytes_tested (x ∷ xs) e = elim (cases_Bool (nat_lt x 256)) [
  | inl small ↦
      let others : list_all (λ y. nat_lt y 256) xs ≡ true = rw small at e in
      bytes_cons x xs (grind (arith, nat_tests)) (bytes_tested xs others)
  | inr large ↦ absurd (let bad = rw large at e in cc)
]

-- ---- an image

map_are_bytes : (b n k : ℕ) → AreBytes (map_block b n k)
unfolding map_block
map_are_bytes b n k = elim (cases_Bool (nat_eq (k % b) 1)) [
  | inl one ↦ rw one (bytes_map (λ i. map_byte n (8 * (b * (k / b) + i))) (range_with_len 0 b) (λ i. omega (arith, pow_pos (min 8 (n - 8 * (b * (k / b) + i))))))
  | inr other ↦ rw other (bytes_replicate b 255 (omega arith))
]

block_is_bytes : (b n : ℕ) (bytes : List ℕ) (k : ℕ) → AreBytes bytes → AreBytes (image_block b n bytes k)
unfolding image_block data_block
block_is_bytes b n bytes k each = elim (cases_Bool (is_map_block b k)) [
  | inl one ↦ rw one (map_are_bytes b n k)
  | inr other ↦ rw other (bytes_take b (drop (length (data_blocks b k) * b) bytes) (bytes_drop (length (data_blocks b k) * b) bytes each))
]

laid_are_bytes : (b n : ℕ) (bytes : List ℕ) → AreBytes bytes → AreBytes (laid_out b n bytes)
unfolding laid_out
laid_are_bytes b n bytes each = bytes_flat_map (image_block b n bytes) (range_with_len 0 n) (λ k. block_is_bytes b n bytes k each)

filled_are_bytes : (b : ℕ) (part : List ℕ) → AreBytes part → AreBytes (padded b part)
unfolding padded
filled_are_bytes b part each =
    let fill = blocks_for b (length part) * b - length part in
    bytes_append part (replicate fill 0) each (bytes_replicate fill 0 (omega arith))

all_are_bytes : (b : ℕ) (ps : List (List ℕ)) → AllByRecursion AreBytes ps → AreBytes (flat_map (padded b) ps)
all_are_bytes b [] each = bytes_nil
all_are_bytes b (p ∷ ps) each = bytes_append (padded b p) (flat_map (padded b) ps) (filled_are_bytes b p each.0) (all_are_bytes b ps each.1)

superblock_is_bytes : (b : ℕ) (sizes : List ℕ) → AreBytes (superblock_part b sizes)
unfolding superblock_part
superblock_is_bytes b sizes = bytes_append magic (u32s (superblock_numbers b sizes)) (bytes_tested magic refl) (u32s_are_bytes (superblock_numbers b sizes))

block_map_is_bytes : (b : ℕ) (sizes : List ℕ) → AreBytes (block_map_part b sizes)
unfolding block_map_part
block_map_is_bytes b sizes = u32s_are_bytes (block_numbers b 2 (directory_count b sizes))

directory_is_bytes : (b : ℕ) (sizes : List ℕ) → AreBytes (directory_part b sizes)
unfolding directory_part
directory_is_bytes b sizes = u32s_are_bytes (length sizes ∷ sizes ++ block_numbers b (2 + directory_count b sizes) (blocks_of_all b sizes))

-- the image of streams of bytes is made of bytes
pub image_is_bytes : (b : ℕ) (contents : List (List ℕ)) → AllByRecursion AreBytes contents → AreBytes (image b contents)
unfolding image parts
image_is_bytes b contents each =
    let sizes = map length contents in
    laid_are_bytes b (image_blocks b sizes) (flat_map (padded b) (parts b contents))
    (all_are_bytes b (parts b contents) (superblock_is_bytes b sizes, (block_map_is_bytes b sizes, (directory_is_bytes b sizes, each))))

-- ---- a stream

in_blocks_are_bytes : (file : List ℕ) (b : ℕ) (blocks : List ℕ) (size : ℕ) → AreBytes file → AreBytes (in_blocks file b blocks size)
unfolding in_blocks
in_blocks_are_bytes file b blocks size each =
    bytes_map (λ i. get_or file (get_or blocks (i / b) 0 * b + i % b) 0) (range_with_len 0 size) (λ i. each (get_or blocks (i / b) 0 * b + i % b))

-- a stream of a file of bytes is made of bytes, if there is such a stream
some_are_bytes : (file : List ℕ) (b : ℕ) (stream : Option Listed) (bytes : List ℕ) → AreBytes file → option_map (listed_contents file b) stream ≡ Some bytes → AreBytes bytes
some_are_bytes file b None bytes each e = absurd cc
some_are_bytes file b (Some stream) bytes each e =
    let is : listed_contents file b stream ≡ bytes = cc in
    rw (← is) (in_blocks_are_bytes file b stream.blocks (bytes_of stream.size) each)

-- each stream of a file of bytes is made of bytes
pub stream_is_bytes : (file : List ℕ) (layout : LayoutView) (s : ℕ) (bytes : List ℕ) → AreBytes file → stream_contents file layout s ≡ Some bytes → AreBytes bytes
stream_is_bytes file layout s bytes each e = some_are_bytes file layout.superblock.block_size (slice_get layout.streams s) bytes each e
