-- A stream that is read by position.
use Rattle.std.proofs.Common.{◌≡◌, ◌∙◌, ℕ, ◌+◌, ◌*◌, ◌/◌, ◌%◌, ◌<◌, ◌≤◌, List, Option, Some, None, length, get_or, ap, sym, refl, arith}
use Rattle.std.specs.Prelude.{IfSome, slice_get, option_map}
use Rattle.std.proofs.lemmas.Nat.{div-add-mod', mul-le}
use Rattle.std.proofs.lemmas.List.Elements.{All-get_or}
use Rattle.std.proofs.lemmas.List.FromFn.{length-map-range_with_len}
use Rattle.std.proofs.lemmas.Option.{slice_get_within, slice_get-get_or}
use Rattle.byte_io.specs.At.{AreGiven, Bytes, stable}
use Rattle.msf_superblock.specs.BlockNumber.{IsOrdinary, blocks_for}
use Rattle.msf_blocks.specs.Blocks.{AreGivenIn, AreInside, in_blocks}
use Rattle.msf_blocks.specs.Layout.{LayoutView, HasLayout}
use Rattle.msf_blocks.specs.Directory.{Listed, IsListed, bytes_of}
use Rattle.msf_superblock.specs.Superblock.{HoldsBlocks}
use Rattle.msf_streams.specs.Streams.{AreConsecutive, IsRun, WasRead, listed_contents, stream_contents}
use Rattle.msf_blocks.proofs.KnownLaws.{blocks_given, blocks_known}
use Rattle.msf_superblock.proofs.SizeLaws.{ceil_ge, place_below, some_bytes}
use Rattle.msf_streams.proofs.LentLaws.{IsSized, is_sized}

-- the blocks of a stream, and what is in them
pub record AreBlocks (layout : LayoutView) (s size : ℕ) (blocks : List ℕ) : Type 0 where
  pub count : length blocks ≡ blocks_for layout.superblock.block_size size
  pub inside : (file : List ℕ) → HoldsBlocks file layout.superblock → AreInside file layout.superblock.block_size blocks
  pub contents : (file : List ℕ) → stream_contents file layout s ≡ Some (in_blocks file layout.superblock.block_size blocks size)

pub are_blocks : (layout : LayoutView) (s size : ℕ) (blocks : List ℕ) → IsSized layout s size → Some blocks ≡ option_map (λ l. l.blocks) (slice_get layout.streams s) → AreBlocks layout s size blocks
unfolding in_blocks
are_blocks layout s size blocks sized is =
    let b = layout.superblock.block_size in
    let both : Some blocks ≡ Some sized.stream.blocks = rw sized.here at is in
    let same : blocks ≡ sized.stream.blocks = cc in
    record {
      count = ap length same ∙ sized.fits.count ∙ ap (blocks_for b) sized.is;
      inside = λ file whole k lt.
          let below = (All-get_or (IsOrdinary layout.superblock.num_blocks) sized.stream.blocks k 0 (rw same at lt) sized.fits.ordinary).1 in
          let rows = mul-le (get_or sized.stream.blocks k 0 + 1) b layout.superblock.num_blocks b (omega (arith, below)) (omega arith) in
          rw same (omega (arith, rows, whole));
      contents = λ file. rw (sized.here, sized.is, same) refl;
    }

-- bytes that reads gave in the blocks of a stream are a text of it
pub was_read : (bytes : Bytes) (layout : LayoutView) (s size : ℕ) (blocks text : List ℕ) → IsSized layout s size → Some blocks ≡ option_map (λ l. l.blocks) (slice_get layout.streams s) → length text ≡ size
    → AreGivenIn bytes layout.superblock.block_size blocks text → WasRead bytes layout s text
was_read bytes layout s size blocks text sized is long given =
    let both : Some blocks ≡ Some sized.stream.blocks = rw sized.here at is in
    let same : blocks ≡ sized.stream.blocks = cc in
    record {
      stream = sized.stream;
      listed = sized.here;
      count = omega (arith, long, sized.is);
      given = rw same at given;
    }

-- bytes that are given from the first of consecutive blocks on are a text of the stream
pub lent_given : (bytes : Bytes) (layout : LayoutView) (s first size : ℕ) (text : List ℕ) → IsRun layout s first size → length text ≡ size
    → AreGiven bytes (first * layout.superblock.block_size) text → WasRead bytes layout s text
lent_given bytes layout s first size text run long given =
    let sized = is_sized layout s size run.fits run.size in
    let b = layout.superblock.block_size in
    let blocks = sized.stream.blocks in
    let some = some_bytes b run.fits.size in
    let is : first ≡ get_or blocks 0 0 = sym (rw sized.here at run.first) in
    let consecutive : AreConsecutive blocks = rw sized.here at run.part.1 in
    let count : length blocks ≡ blocks_for b size = sized.fits.count ∙ ap (blocks_for b) sized.is in
    record {
      stream = sized.stream;
      listed = sized.here;
      count = omega (arith, long, sized.is);
      given = λ i below.
          let at = consecutive (i / b) (omega (arith, count, place_below b size i some (omega (arith, below, long)))) in
          let place : get_or blocks (i / b) 0 * b + i % b ≡ first * b + i = rw (at, ← is) (omega (arith, div-add-mod' i b)) in
          rw place (given i below);
    }

-- what two facts of a value give
pub some_of_both : {T : Type 0} (P Q R : T → Type 0) (found : Option T) → ((value : T) → P value → Q value → R value) → IfSome found P → IfSome found Q → IfSome found R
some_of_both P Q R None each p q = tt
some_of_both P Q R (Some value) each p q = each value p q

-- ---- of a file that is known

-- the blocks of a listed stream are in a file that has the layout
listed_inside : (file : List ℕ) (layout : LayoutView) (stream : Listed) → HoldsBlocks file layout.superblock → IsListed layout.superblock stream → AreInside file layout.superblock.block_size stream.blocks
listed_inside file layout stream whole is k lt =
    let b = layout.superblock.block_size in
    let below = (All-get_or (IsOrdinary layout.superblock.num_blocks) stream.blocks k 0 lt is.ordinary).1 in
    let rows = mul-le (get_or stream.blocks k 0 + 1) b layout.superblock.num_blocks b (omega (arith, below)) (omega arith) in
    omega (arith, rows, whole)

-- a stream of a layout
record IsStream (file : List ℕ) (layout : LayoutView) (stream : Listed) : Type 0 where
  some : 0 < layout.superblock.block_size
  inside : AreInside file layout.superblock.block_size stream.blocks
  room : bytes_of stream.size ≤ length stream.blocks * layout.superblock.block_size

is_stream : (file : List ℕ) (layout : LayoutView) (s : ℕ) (stream : Listed) → HasLayout file layout → slice_get layout.streams s ≡ Some stream → IsStream file layout stream
is_stream file layout s stream has here =
    let b = layout.superblock.block_size in
    let some = some_bytes b has.superblock.fit.block_size_fits in
    let within = slice_get_within layout.streams s stream here in
    let both : Some stream ≡ Some (get_or layout.streams s stream) = sym here ∙ slice_get-get_or layout.streams s stream within in
    let same : get_or layout.streams s stream ≡ stream = cc in
    let is : IsListed layout.superblock stream = rw same at (All-get_or (IsListed layout.superblock) layout.streams s stream within has.lists.each) in
    record { some = some; inside = listed_inside file layout stream has.superblock.whole is; room = rw is.count (ceil_ge b (bytes_of stream.size) some) }

-- what reads gave of a stream are its contents
pub stream_known : (file : List ℕ) (layout : LayoutView) (s : ℕ) (text : List ℕ) → HasLayout file layout → WasRead (stable file) layout s text → stream_contents file layout s ≡ Some text
stream_known file layout s text has read =
    let is = is_stream file layout s read.stream has read.listed in
    let same = blocks_known file layout.superblock.block_size read.stream.blocks text is.some is.inside (omega (arith, read.count, is.room)) read.given in
    rw (read.listed, ← read.count) (ap (λ (xs : List ℕ). Some xs) (sym same))

in_blocks_length : (file : List ℕ) (b : ℕ) (blocks : List ℕ) (size : ℕ) → length (in_blocks file b blocks size) ≡ size
unfolding in_blocks
in_blocks_length file b blocks size = length-map-range_with_len _ 0 size

-- its contents are given
stream_given_of : (file : List ℕ) (layout : LayoutView) (s : ℕ) (text : List ℕ) (found : Option Listed) → HasLayout file layout → slice_get layout.streams s ≡ found
    → option_map (listed_contents file layout.superblock.block_size) found ≡ Some text → WasRead (stable file) layout s text
stream_given_of file layout s text None has here is = absurd cc
stream_given_of file layout s text (Some stream) has here is =
    let b = layout.superblock.block_size in
    let at = is_stream file layout s stream has here in
    let same : in_blocks file b stream.blocks (bytes_of stream.size) ≡ text = cc in
    record {
      stream = stream;
      listed = here;
      count = rw (← same) (in_blocks_length file b stream.blocks (bytes_of stream.size));
      given = rw (← same) (blocks_given file b stream.blocks (bytes_of stream.size) at.some at.inside at.room);
    }

pub stream_given : (file : List ℕ) (layout : LayoutView) (s : ℕ) (text : List ℕ) → HasLayout file layout → stream_contents file layout s ≡ Some text → WasRead (stable file) layout s text
stream_given file layout s text has is = stream_given_of file layout s text (slice_get layout.streams s) has refl is
