-- What holds of every image, and of the streams of every file.
use Rattle.std.specs.Prelude.{ℕ, ◌≡◌, ◌↔◌, ◌+◌, ◌*◌, ◌≤◌, List, Some, length, map}
use Rattle.std.specs.List.{AllByRecursion}
use Rattle.byte_fields.specs.Bytes.{AreBytes}
use Rattle.byte_io.specs.At.{stable}
use Rattle.msf_superblock.specs.BlockNumber.{IsBlockSize}
use Rattle.msf_blocks.specs.Layout.{LayoutView, HasLayout}
use Rattle.msf_streams.specs.Image.{Fits, ReadsBack, blocks_of_all, image}
use Rattle.msf_streams.specs.Streams.{WasRead, stream_contents}

-- the image of streams that fit reads back
abbrev pub ImagesReadBack : Type 0
ImagesReadBack =
    (block_size : ℕ) (contents : List (List ℕ))
    → IsBlockSize block_size
    → Fits block_size (map length contents)
    → ReadsBack block_size contents

-- five streams fit in a file if one block can list the blocks of their directory,
-- and they have at most 1 GiB and 128 KiB together, each padded to whole blocks
abbrev pub FewBlocksFit : Type 0
FewBlocksFit =
    (block_size : ℕ) (sizes : List ℕ)
    → IsBlockSize block_size
    → length sizes ≡ 5
    → 16 * (6 + blocks_of_all block_size sizes) ≤ block_size * block_size
    → blocks_of_all block_size sizes * block_size ≤ 1073872896 → Fits block_size sizes

-- the image of streams of bytes is made of bytes
abbrev pub ImagesAreBytes : Type 0
ImagesAreBytes =
    (block_size : ℕ) (contents : List (List ℕ))
    → IsBlockSize block_size
    → AllByRecursion AreBytes contents
    → AreBytes (image block_size contents)

-- each stream of a file of bytes is made of bytes
abbrev pub StreamsAreBytes : Type 0
StreamsAreBytes =
    (file : List ℕ) (layout : LayoutView) (s : ℕ) (bytes : List ℕ)
    → AreBytes file
    → stream_contents file layout s ≡ Some bytes
    → AreBytes bytes

-- of a file that is known, reads give just the contents of a stream of its layout
abbrev pub KnownStream : Type 0
KnownStream =
    (file : List ℕ) (layout : LayoutView) (s : ℕ) (text : List ℕ)
    → HasLayout file layout
    → WasRead (stable file) layout s text ↔ stream_contents file layout s ≡ Some text
