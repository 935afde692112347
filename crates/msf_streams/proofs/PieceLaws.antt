-- The pieces of a stream: their blocks are in the file, and joined they are its contents.
use Rattle.std.proofs.Common.{◌≡◌, ℕ, suc, ◌+◌, ◌-◌, ◌*◌, ◌/◌, ◌%◌, ◌<◌, ◌≤◌, min, List, [], ◌∷◌, ◌++◌, Option, Some, None, length, map, take, drop, get_or, refl, sym, ap, ◌∙◌, subst, arith, inl, inr}
use Rattle.std.specs.Prelude.{◌^◌, All, IfSome, IsNone, ◌↔◌}
use Rattle.std.specs.List.{range_with_len, concat, slice_get}
use Rattle.std.proofs.lemmas.Option.{slice_get_past, slice_get_within, slice_get-get_or}
use Rattle.std.proofs.lemmas.Nat.{mul-le, div_below, le-div}
use Rattle.std.proofs.lemmas.Bool.{cases_lt}
use Rattle.std.proofs.lemmas.Bool.Decides.{nat_tests}
use Rattle.std.proofs.lemmas.List.{append-nil, drop_more, drop_all, nil_from_length, length-take, length-drop}
use Rattle.std.proofs.lemmas.List.Elements.{All-head, All-tail, All-get_or, All-from_get_or}
use Rattle.msf_superblock.specs.BlockNumber.{IsBlockSize, IsOrdinary, blocks_for}
use Rattle.msf_superblock.proofs.SizeLaws.{size_facts, some_bytes, few_for}
use Rattle.msf_superblock.specs.Superblock.{HoldsBlocks, Fields}
use Rattle.msf_blocks.specs.Directory.{Listed, IsListed, bytes_of}
use Rattle.msf_blocks.specs.Layout.{LayoutView, IsLayout, block_in, block_of}
use Rattle.msf_streams.specs.Streams.{FirstIsLong, pieces, blocks_in, pieces_from, stream_pieces, stream_contents}
use Rattle.msf_blocks.specs.Blocks.{in_blocks}
use Rattle.msf_blocks.proofs.RangeLaws.{map-range_with_len_parts, map-same_ranges, part_by_places, next_block, first_block}

-- ---- how many blocks some bytes need

-- only 0 bytes need 0 blocks
pub none_for : (block_size bytes : ℕ) → 0 < block_size → 0 ≡ blocks_for block_size bytes → bytes ≡ 0
none_for block_size bytes some e = elim (cases_lt 0 bytes) [
  | inl more ↦ absurd (omega (arith, e, le-div 1 (bytes + block_size - 1) block_size some (omega arith)))
  | inr none ↦ omega arith
]

-- as many more bytes as a block has need one more block
one_more_for : (block_size bytes : ℕ) → 0 < block_size → block_size ≤ bytes → blocks_for block_size bytes ≡ blocks_for block_size (bytes - block_size) + 1
one_more_for block_size bytes some le =
    let e : bytes + block_size - 1 ≡ (bytes - block_size + block_size - 1) + block_size = omega arith in
    rw e ((next_block block_size (bytes - block_size + block_size - 1) some).0)

-- bytes that fit in a block need at most one block
pub at_most_one_for : (block_size bytes : ℕ) → 0 < block_size → bytes ≤ block_size → blocks_for block_size bytes ≤ 1
at_most_one_for block_size bytes some le =
    let below : (bytes + block_size - 1) / block_size < 2 = div_below (bytes + block_size - 1) block_size 2 some (omega arith) in omega arith

-- ---- the pieces are the contents

-- the whole block is in the file
abbrev pub IsWhole : List ℕ → ℕ → ℕ → Type 0
IsWhole file block_size block = (block + 1) * block_size ≤ length file

-- the first bytes of the contents are in the first block
pub in_blocks_first : (file : List ℕ) (block_size block n : ℕ) (blocks : List ℕ) → n ≤ block_size → IsWhole file block_size block
    → map (λ i. get_or file (get_or (block ∷ blocks) (i / block_size) 0 * block_size + i % block_size) 0) (range_with_len 0 n) ≡ take n (drop (block * block_size) file)
in_blocks_first file block_size block n blocks le fits =
    map-same_ranges (λ i. get_or file (get_or (block ∷ blocks) (i / block_size) 0 * block_size + i % block_size) 0) (λ i. get_or file (block * block_size + i) 0) 0 0 n (λ i below.
    let same : 0 + i ≡ i = omega arith in
    let first = first_block block_size i (omega arith) in
    rw (same, first.0, first.1) refl)
    ∙ part_by_places file (block * block_size) n (omega arith)

-- the contents are the first block, and then what the other blocks hold
in_blocks_more : (file : List ℕ) (block_size block size : ℕ) (blocks : List ℕ) → 0 < block_size → block_size ≤ size → IsWhole file block_size block
    → in_blocks file block_size (block ∷ blocks) size ≡ take block_size (drop (block * block_size) file) ++ in_blocks file block_size blocks (size - block_size)
unfolding in_blocks
in_blocks_more file block_size block size blocks some le fits =
    let f = λ (i : ℕ). get_or file (get_or (block ∷ blocks) (i / block_size) 0 * block_size + i % block_size) 0 in
    let g = λ (i : ℕ). get_or file (get_or blocks (i / block_size) 0 * block_size + i % block_size) 0 in
    let whole : size ≡ block_size + (size - block_size) = omega arith in
    let others : map f (range_with_len (0 + block_size) (size - block_size)) ≡ map g (range_with_len 0 (size - block_size)) =
    map-same_ranges f g (0 + block_size) 0 (size - block_size) (λ i below.
    let here : 0 + i ≡ i = omega arith in
    let there : 0 + block_size + i ≡ i + block_size = omega arith in
    let next = next_block block_size i some in
    let one : i / block_size + 1 ≡ suc (i / block_size) = omega arith in
    rw (there, here, next.0, next.1, one) refl) in
    subst (λ (n : ℕ). map f (range_with_len 0 n) ≡ take block_size (drop (block * block_size) file) ++ map g (range_with_len 0 (size - block_size))) (sym whole)
    (map-range_with_len_parts f 0 block_size (size - block_size) ∙ rw (in_blocks_first file block_size block block_size blocks (omega arith) fits, others) refl)

-- the joined pieces are the contents
concat-pieces : (file : List ℕ) (block_size size : ℕ) (blocks : List ℕ) → 0 < block_size → length blocks ≡ blocks_for block_size size → All (IsWhole file block_size) blocks
    → concat (pieces file block_size blocks size) ≡ in_blocks file block_size blocks size
unfolding in_blocks pieces
concat-pieces file block_size size [] some long whole = let none : size ≡ 0 = none_for block_size size some long in rw none refl
concat-pieces file block_size size (block ∷ blocks) some long whole =
    let here : IsWhole file block_size block = All-head (IsWhole file block_size) block blocks whole in
    let others : All (IsWhole file block_size) blocks = All-tail (IsWhole file block_size) block blocks whole in
    elim (cases_lt size block_size) [
      | inl short ↦
          let none : blocks ≡ [] = nil_from_length blocks (omega (arith, long, at_most_one_for block_size size some (omega arith))) in
          let least : min block_size size ≡ size = omega arith in
          rw (none, least) (append-nil (take size (drop (block * block_size) file)) ∙ sym (in_blocks_first file block_size block size [] (omega arith) here))
      | inr le ↦
          let least : min block_size size ≡ block_size = omega arith in
          let fewer : length blocks ≡ blocks_for block_size (size - block_size) = omega (arith, long, one_more_for block_size size some le) in
          rw least (ap (λ (bytes : List ℕ). take block_size (drop (block * block_size) file) ++ bytes) (concat-pieces file block_size (size - block_size) blocks some fewer others)
          ∙ sym (in_blocks_more file block_size block size blocks some le here))
    ]

-- there is one piece for each block
length-pieces : (file : List ℕ) (block_size size : ℕ) (blocks : List ℕ) → length (pieces file block_size blocks size) ≡ length blocks
unfolding pieces
length-pieces file block_size size [] = refl
length-pieces file block_size size (block ∷ blocks) = ap suc (length-pieces file block_size (size - block_size) blocks)

-- ---- one piece after the other

-- the block at a position of a stream is the entry of its list at this position
block_in_list : (stream : Option Listed) (k : ℕ) → block_in stream k ≡ slice_get (blocks_in stream) k
block_in_list None k = sym (slice_get_past [] k (omega arith))
block_in_list (Some stream) k = refl

-- if the list has a block at this position, the next piece is the bytes in it
pub piece_here : (file : List ℕ) (layout : LayoutView) (s position block left : ℕ) → block_of layout.streams s position ≡ Some block
    → pieces_from file layout s position left
    ≡ take (min layout.superblock.block_size left) (drop (block * layout.superblock.block_size) file) ∷ pieces_from file layout s (position + 1) (left - layout.superblock.block_size)
unfolding pieces
piece_here file layout s position block left e =
    let blocks = blocks_in (slice_get layout.streams s) in
    let there : slice_get blocks position ≡ Some block = sym (block_in_list (slice_get layout.streams s) position) ∙ e in
    let below : position < length blocks = slice_get_within blocks position block there in
    let both : Some (get_or blocks position 0) ≡ Some block = sym (slice_get-get_or blocks position 0 below) ∙ there in
    let is : get_or blocks position 0 ≡ block = cc in
    let cut : drop position blocks ≡ block ∷ drop (position + 1) blocks = drop_more blocks position 0 below ∙ rw is refl in
    rw cut refl

-- if the list has no block at this position, no pieces are left
pub piece_none : (file : List ℕ) (layout : LayoutView) (s position left : ℕ) → block_of layout.streams s position ≡ None → pieces_from file layout s position left ≡ []
unfolding pieces
piece_none file layout s position left e =
    let blocks = blocks_in (slice_get layout.streams s) in
    elim (cases_lt position (length blocks)) [
      | inl below ↦
          let both : Some (get_or blocks position 0) ≡ None = sym (slice_get-get_or blocks position 0 below) ∙ sym (block_in_list (slice_get layout.streams s) position) ∙ e in
          absurd cc
      | inr past ↦ rw (drop_all position blocks past) refl
    ]

-- ---- what a layout says of its streams

-- the length of a stream fits in four bytes
bytes_short : (size : ℕ) → size < 2 ^ 32 → bytes_of size < 2 ^ 32
bytes_short size short = grind (arith, nat_tests)

-- a placeholder for a position where a list has no stream
pub no_stream : Listed
no_stream = record { size = 0; blocks = [] }

-- a stream of the layout, and what the layout promises of it
pub record IsStream (layout : LayoutView) (s : ℕ) (stream : Listed) : Type 0 where
  pub here : slice_get layout.streams s ≡ Some stream
  pub fits : IsListed layout.superblock stream

-- each number below the number of streams is the number of a stream
pub stream_at : (layout : LayoutView) (s : ℕ) → IsLayout layout → s < length layout.streams → IsStream layout s (get_or layout.streams s no_stream)
stream_at layout s holds below = record {
  here = slice_get-get_or layout.streams s no_stream below;
  fits = All-get_or (IsListed layout.superblock) layout.streams s no_stream below holds.each;
}

-- the block at a position of a stream's list is an ordinary one, and the position is small
pub listed_block : (layout : LayoutView) (s position block : ℕ) → IsLayout layout → block_of layout.streams s position ≡ Some block
    → IsOrdinary layout.superblock.num_blocks block × (position < 2 ^ 23)
listed_block layout s position block holds e = elim (cases_lt s (length layout.streams)) [
  | inl below ↦
      let stream = get_or layout.streams s no_stream in
      let is_stream = stream_at layout s holds below in
      let there : slice_get stream.blocks position ≡ Some block = rw is_stream.here at e in
      let inside : position < length stream.blocks = slice_get_within stream.blocks position block there in
      let both : Some (get_or stream.blocks position 0) ≡ Some block = sym (slice_get-get_or stream.blocks position 0 inside) ∙ there in
      let is : get_or stream.blocks position 0 ≡ block = cc in
      let short : bytes_of stream.size < 2 ^ 32 = bytes_short stream.size is_stream.fits.short in (
        rw is at (All-get_or (IsOrdinary layout.superblock.num_blocks) stream.blocks position 0 inside is_stream.fits.ordinary),
        omega (arith, is_stream.fits.count, few_for layout.superblock.block_size (bytes_of stream.size) holds.size short),
      )
  | inr past ↦ let none : slice_get layout.streams s ≡ None = slice_get_past layout.streams s past in absurd (let bad = rw none at e in cc)
]

-- an ordinary block is in the file as a whole
pub block_fits : (file : List ℕ) (fields : Fields) (block : ℕ) → HoldsBlocks file fields → IsOrdinary fields.num_blocks block
    → block * fields.block_size + fields.block_size ≤ length file
block_fits file fields block whole ordinary =
    let le : (block + 1) * fields.block_size ≤ fields.num_blocks * fields.block_size = mul-le _ _ _ _ (omega (arith, ordinary.1)) (omega arith) in omega (arith, le)

-- each block of a stream is in the file as a whole
blocks_fit : (file : List ℕ) (fields : Fields) (stream : Listed) → HoldsBlocks file fields → IsListed fields stream → All (IsWhole file fields.block_size) stream.blocks
blocks_fit file fields stream whole fits = All-from_get_or (IsWhole file fields.block_size) stream.blocks 0 (λ i below.
    let ordinary = All-get_or (IsOrdinary fields.num_blocks) stream.blocks i 0 below fits.ordinary in
    let inside = block_fits file fields (get_or stream.blocks i 0) whole ordinary in omega (arith, inside))

-- ---- the pieces of a stream

-- the joined pieces of a stream are its contents
pub pieces_bytes : (file : List ℕ) (layout : LayoutView) (s : ℕ) (found : Option (List (List ℕ))) → IsLayout layout
    → HoldsBlocks file layout.superblock → found ≡ stream_pieces file layout s → IfSome found (λ p. stream_contents file layout s ≡ Some (concat p))
pieces_bytes file layout s found holds whole e = elim (cases_lt s (length layout.streams)) [
  | inl below ↦
      let stream = get_or layout.streams s no_stream in
      let is_stream = stream_at layout s holds below in
      let joined = concat-pieces file layout.superblock.block_size (bytes_of stream.size) stream.blocks (some_bytes layout.superblock.block_size holds.size) is_stream.fits.count
      (blocks_fit file layout.superblock stream whole is_stream.fits) in
      rw (e, is_stream.here) (ap (λ (bytes : List ℕ). Some bytes) (sym joined))
  | inr past ↦ let none : slice_get layout.streams s ≡ None = slice_get_past layout.streams s past in rw (e, none) tt
]

-- the first piece has a whole block, or all the bytes
first_long : (file : List ℕ) (block_size size : ℕ) (blocks : List ℕ) → IsBlockSize block_size → length blocks ≡ blocks_for block_size size → All (IsWhole file block_size) blocks
    → FirstIsLong (pieces file block_size blocks size)
unfolding pieces
first_long file block_size size [] is long whole = tt
first_long file block_size size (block ∷ blocks) is long whole =
    let here : IsWhole file block_size block = All-head (IsWhole file block_size) block blocks whole in
    let some = some_bytes block_size is in
    elim (cases_lt size block_size) [
      | inl short ↦
          let none : blocks ≡ [] = nil_from_length blocks (omega (arith, long, at_most_one_for block_size size some (omega arith))) in
          rw none (inr (ap length (sym (append-nil (take (min block_size size) (drop (block * block_size) file))))))
      | inr le ↦
          let most : 512 ≤ block_size = (size_facts block_size is).least in
          inl (omega (arith, most, here, length-take (min block_size size) (drop (block * block_size) file), length-drop (block * block_size) file))
    ]

-- the first piece of a stream has at least 512 bytes, or all of them
pub pieces_first : (file : List ℕ) (layout : LayoutView) (s : ℕ) (found : Option (List (List ℕ))) → IsLayout layout
    → HoldsBlocks file layout.superblock → found ≡ stream_pieces file layout s → IfSome found FirstIsLong
pieces_first file layout s found holds whole e = elim (cases_lt s (length layout.streams)) [
  | inl below ↦
      let stream = get_or layout.streams s no_stream in
      let is_stream = stream_at layout s holds below in
      rw (e, is_stream.here) (first_long file layout.superblock.block_size (bytes_of stream.size) stream.blocks holds.size is_stream.fits.count (blocks_fit file layout.superblock stream whole is_stream.fits))
  | inr past ↦ let none : slice_get layout.streams s ≡ None = slice_get_past layout.streams s past in rw (e, none) tt
]

-- there is one piece for each block that the stream needs
pub pieces_count : (file : List ℕ) (layout : LayoutView) (s : ℕ) (found : Option (List (List ℕ))) → IsLayout layout → found ≡ stream_pieces file layout s
    → IfSome found (λ p. IfSome (slice_get layout.streams s) (λ stream. length p ≡ blocks_for layout.superblock.block_size (bytes_of stream.size)))
pieces_count file layout s found holds e = elim (cases_lt s (length layout.streams)) [
  | inl below ↦
      let stream = get_or layout.streams s no_stream in
      let is_stream = stream_at layout s holds below in
      rw (e, is_stream.here) (length-pieces file layout.superblock.block_size (bytes_of stream.size) stream.blocks ∙ is_stream.fits.count)
  | inr past ↦ let none : slice_get layout.streams s ≡ None = slice_get_past layout.streams s past in rw (e, none) tt
]

-- there is no list of pieces exactly where there is no such stream
pub pieces_none : (file : List ℕ) (layout : LayoutView) (s : ℕ) (found : Option (List (List ℕ))) → found ≡ stream_pieces file layout s → IsNone found ↔ (length layout.streams ≤ s)
pieces_none file layout s found e = elim (cases_lt s (length layout.streams)) [
  | inl below ↦
      let here : slice_get layout.streams s ≡ Some (get_or layout.streams s no_stream) = slice_get-get_or layout.streams s no_stream below in
      rw (e, here) (λ none. cc, λ past. absurd (omega arith))
  | inr past ↦ let none : slice_get layout.streams s ≡ None = slice_get_past layout.streams s past in rw (e, none) (λ _. past, λ _. refl)
]
