-- A stream of a layout, how many blocks it has, and where it is one part of the file.
use Rattle.std.proofs.Common.{◌≡◌, ℕ, ◌+◌, ◌*◌, ◌/◌, ◌%◌, ◌<◌, ◌≤◌, List, [], ◌∷◌, length, take, drop, get_or, Some, None, refl, sym, ap, ◌∙◌, arith, inl, inr}
use Rattle.std.specs.Prelude.{All, option_map}
use Rattle.std.specs.Option.{unwrap_or}
use Rattle.std.proofs.lemmas.Bool.{cases_lt}
use Rattle.std.specs.List.{slice_get}
use Rattle.std.proofs.lemmas.Nat.{div-add-mod', mul-le}
use Rattle.std.proofs.lemmas.Option.{slice_get_past, unwrap_or-slice_get}
use Rattle.std.proofs.lemmas.List.Elements.{All-get_or}
use Rattle.msf_superblock.specs.BlockNumber.{IsOrdinary, blocks_for}
use Rattle.msf_superblock.specs.Superblock.{HoldsBlocks}
use Rattle.msf_superblock.proofs.SizeLaws.{ceil_ge, place_below, some_bytes}
use Rattle.msf_blocks.specs.Blocks.{in_blocks}
use Rattle.msf_blocks.specs.Directory.{Listed, IsListed, bytes_of}
use Rattle.msf_blocks.specs.Layout.{LayoutView, IsLayout, block_of}
use Rattle.msf_blocks.proofs.RangeLaws.{map-same_ranges, part_by_places}
use Rattle.msf_streams.specs.Streams.{AreConsecutive, IsRun, blocks_in, stream_contents}
use Rattle.msf_streams.proofs.PieceLaws.{none_for, no_stream, stream_at}

-- a stream of this size, its blocks, and how many there are
pub record IsSized (layout : LayoutView) (s size : ℕ) : Type 0 where
  pub inside : s < length layout.streams
  pub stream : Listed
  pub here : slice_get layout.streams s ≡ Some stream
  pub fits : IsListed layout.superblock stream
  pub is : bytes_of stream.size ≡ size
  pub count : length (blocks_in (slice_get layout.streams s)) ≡ blocks_for layout.superblock.block_size size

pub is_sized : (layout : LayoutView) (s size : ℕ) → IsLayout layout → option_map (λ l. bytes_of l.size) (slice_get layout.streams s) ≡ Some size → IsSized layout s size
is_sized layout s size holds e = elim (cases_lt s (length layout.streams)) [
  | inl below ↦
      let found = stream_at layout s holds below in
      let stream = get_or layout.streams s no_stream in
      let both : Some (bytes_of stream.size) ≡ Some size = rw found.here at e in
      let is : bytes_of stream.size ≡ size = cc in
      record { inside = below; stream = stream; here = found.here; fits = found.fits; is = is; count = rw (found.here, ← is) found.fits.count }
  | inr past ↦ let none : slice_get layout.streams s ≡ None = slice_get_past layout.streams s past in absurd (let bad = rw none at e in cc)
]

-- the first block of a stream, or 0 where it has none
pub first_block : (layout : LayoutView) (s size : ℕ) → IsSized layout s size → unwrap_or (block_of layout.streams s 0) 0 ≡ get_or (blocks_in (slice_get layout.streams s)) 0 0
first_block layout s size sized = rw sized.here (unwrap_or-slice_get sized.stream.blocks 0 0)

-- ---- consecutive blocks

-- the contents in consecutive blocks are the bytes from the first of them on
consecutive_contents : (file : List ℕ) (b : ℕ) (blocks : List ℕ) (size first : ℕ) → 0 < b → length blocks ≡ blocks_for b size → first ≡ get_or blocks 0 0 → AreConsecutive blocks
    → first * b + size ≤ length file → in_blocks file b blocks size ≡ take size (drop (first * b) file)
unfolding in_blocks
consecutive_contents file b blocks size first some long is each fits =
    map-same_ranges (λ i. get_or file (get_or blocks (i / b) 0 * b + i % b) 0) (λ i. get_or file (first * b + i) 0) 0 0 size (λ i below.
    let same : 0 + i ≡ i = omega arith in
    let at = each (i / b) (omega (arith, long, place_below b size i some below)) in
    let place : get_or blocks (i / b) 0 * b + i % b ≡ first * b + i = rw (at, ← is) (omega (arith, div-add-mod' i b)) in
    rw (same, place) refl)
    ∙ part_by_places file (first * b) size fits

-- the last of consecutive blocks is in the file as a whole, so all are; where there is none, there are no bytes
consecutive_fit : (b : ℕ) (blocks : List ℕ) (size first n len : ℕ) → 0 < b → length blocks ≡ blocks_for b size → first ≡ get_or blocks 0 0 → AreConsecutive blocks → All (IsOrdinary n) blocks → n * b ≤ len
    → first * b + size ≤ len
consecutive_fit b [] size first n len some long is each ordinary fits =
    let none : size ≡ 0 = none_for b size some long in
    rw (is, none) (omega arith)
consecutive_fit b (block ∷ blocks) size first n len some long is each ordinary fits =
    let all = block ∷ blocks in
    let last = length blocks in
    let at = each last (omega arith) in
    let below = (All-get_or (IsOrdinary n) all last 0 (omega arith) ordinary).1 in
    let within : (first + length all) * b ≤ n * b = mul-le (first + length all) b n b (omega (arith, at, is, below)) (omega arith) in
    let covers : size ≤ length all * b = rw long (ceil_ge b size some) in
    omega (arith, within, covers)

-- where the contents of a stream in consecutive blocks are
pub record IsLentAt (file : List ℕ) (layout : LayoutView) (s first size : ℕ) : Type 0 where
  pub inside : first * layout.superblock.block_size + size ≤ length file
  pub contents : stream_contents file layout s ≡ Some (take size (drop (first * layout.superblock.block_size) file))

pub is_lent_at : (file : List ℕ) (layout : LayoutView) (s first size : ℕ) → IsRun layout s first size → HoldsBlocks file layout.superblock → IsLentAt file layout s first size
is_lent_at file layout s first size run whole =
    let sized = is_sized layout s size run.fits run.size in
    let b = layout.superblock.block_size in
    let blocks = sized.stream.blocks in
    let some = some_bytes b run.fits.size in
    let is : first ≡ get_or blocks 0 0 = sym (rw sized.here at run.first) in
    let consecutive : AreConsecutive blocks = rw sized.here at run.part.1 in
    let count : length blocks ≡ blocks_for b size = sized.fits.count ∙ ap (blocks_for b) sized.is in
    let inside = consecutive_fit b blocks size first layout.superblock.num_blocks (length file) some count is consecutive sized.fits.ordinary whole in
    record { inside = inside; contents = rw (sized.here, sized.is) (ap (λ (bytes : List ℕ). Some bytes) (consecutive_contents file b blocks size first some count is consecutive inside)) }

-- the first bytes of what stands from the first block on
pub lent_contents : (file : List ℕ) (layout : LayoutView) (s first size b : ℕ) (back : List ℕ) → IsRun layout s first size → HoldsBlocks file layout.superblock → b ≡ layout.superblock.block_size
    → back ≡ drop (first * b) file → stream_contents file layout s ≡ Some (take size back)
lent_contents file layout s first size b back run whole same is = (is_lent_at file layout s first size run whole).contents ∙ rw (is, same) refl
