-- The contents of a stream, which are in its blocks ("The MSF File Format",
-- "The Stream Directory").
use Rattle.std.specs.Prelude.{ℕ, ◌≡◌, ◌+◌, ◌-◌, ◌*◌, ◌<◌, ◌≤◌, ◌⊎◌, IfSome, min, length, List, [], ◌∷◌, Option, Some, None, take, drop, get_or, slice_get, option_map}
use Rattle.std.specs.List.{concat}
use Rattle.byte_io.specs.At.{Bytes}
use Rattle.msf_blocks.specs.Blocks.{AreGivenIn, in_blocks}
use Rattle.msf_blocks.specs.Directory.{Listed, bytes_of}
use Rattle.msf_blocks.specs.Layout.{LayoutView, IsLayout}

-- the contents of a stream
abbrev pub listed_contents : List ℕ → ℕ → Listed → List ℕ
listed_contents file block_size stream =
    in_blocks file block_size stream.blocks (bytes_of stream.size)

-- the contents of the s-th stream, from 0; None where s is not a stream
abbrev pub stream_contents : List ℕ → LayoutView → ℕ → Option (List ℕ)
stream_contents file layout s =
    option_map (listed_contents file layout.superblock.block_size) (slice_get layout.streams s)

-- reads gave these bytes of the s-th stream of this layout: as many as the stream has,
-- in the blocks that are listed for it
pub record WasRead (bytes : Bytes) (layout : LayoutView) (s : ℕ) (text : List ℕ) : Type 0 where
  pub stream : Listed
  pub listed : slice_get layout.streams s ≡ Some stream
  pub count : length text ≡ bytes_of stream.size
  pub given : AreGivenIn bytes layout.superblock.block_size stream.blocks text

-- the contents of a stream in pieces: one piece for each block,
-- and the last piece is what remains of the stream's size
unfoldable pub pieces : List ℕ → ℕ → List ℕ → ℕ → List (List ℕ)
pieces file block_size [] size = []
pieces file block_size (block ∷ blocks) size =
    take (min block_size size) (drop (block * block_size) file)
    ∷ pieces file block_size blocks (size - block_size)

-- the pieces of the s-th stream, from 0; None where s is not a stream
abbrev pub stream_pieces : List ℕ → LayoutView → ℕ → Option (List (List ℕ))
stream_pieces file layout s =
    option_map
    (λ stream. pieces file layout.superblock.block_size stream.blocks (bytes_of stream.size))
    (slice_get layout.streams s)

-- the blocks of a stream, and no blocks where there is no stream
abbrev pub blocks_in : Option Listed → List ℕ
blocks_in None = []
blocks_in (Some stream) = stream.blocks

-- the first piece has at least 512 bytes, as the smallest block has, or it has all the bytes
abbrev pub FirstIsLong : List (List ℕ) → Type 0
FirstIsLong pieces =
    IfSome (slice_get pieces 0)
    (λ first. (512 ≤ length first) ⊎ (length first ≡ length (concat pieces)))

-- each block is the one after the block before it in the list
abbrev pub AreConsecutive : List ℕ → Type 0
AreConsecutive blocks = (k : ℕ) → k < length blocks → get_or blocks k 0 ≡ get_or blocks 0 0 + k

-- s is the number of a stream, and its blocks are consecutive:
-- its contents are one part of the file
abbrev pub IsOnePart : LayoutView → ℕ → Type 0
IsOnePart layout s =
    (s < length layout.streams) × AreConsecutive (blocks_in (slice_get layout.streams s))

-- the s-th stream is one part of the file: so many bytes, from this block on.
-- Where it has no block, this is 0
pub record IsRun (layout : LayoutView) (s block many : ℕ) : Type 0 where
  pub fits : IsLayout layout
  pub size : option_map (λ l. bytes_of l.size) (slice_get layout.streams s) ≡ Some many
  pub first : get_or (blocks_in (slice_get layout.streams s)) 0 0 ≡ block
  pub part : IsOnePart layout s

-- ---- the pieces during iteration

-- the pieces of the s-th stream from this position of its list on,
-- where `left` of its bytes are still to come
abbrev pub pieces_from : List ℕ → LayoutView → ℕ → ℕ → ℕ → List (List ℕ)
pieces_from file layout s position left =
    pieces file layout.superblock.block_size
    (drop position (blocks_in (slice_get layout.streams s))) left
