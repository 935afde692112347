-- The lines of a container and of its streams.
use Rattle.std.specs.Prelude.{ℕ, ◌+◌, List, [], ◌∷◌, ◌++◌, length, codes}
use Rattle.std.specs.List.{flat_map}
use Rattle.std.specs.Fmt.{decimal}
use Rattle.msf_blocks.specs.Directory.{Listed, bytes_of}
use Rattle.msf_blocks.specs.Layout.{LayoutView}
use Rattle.output_words.specs.Text.{named_line}

-- the lines on a container, of which this many blocks are free
unfoldable pub container_with : ℕ → LayoutView → List ℕ
container_with free layout =
    named_line (codes "block-size") layout.superblock.block_size
    ++ named_line (codes "blocks") layout.superblock.num_blocks
    ++ named_line (codes "free") free
    ++ named_line (codes "directory") layout.superblock.directory_bytes
    ++ named_line (codes "streams") (length layout.streams)

-- a number after a space
abbrev pub blank_number : ℕ → List ℕ
blank_number number = 32 ∷ decimal number

-- the line of a stream: its number, its size in bytes, the numbers of its blocks
unfoldable pub stream_line : ℕ → Listed → List ℕ
stream_line s stream =
    decimal s
    ++ blank_number (bytes_of stream.size)
    ++ flat_map blank_number stream.blocks
    ++ 10 ∷ []

-- the lines of streams in order; the first stream has this number
unfoldable pub stream_lines : ℕ → List Listed → List ℕ
stream_lines s [] = []
stream_lines s (stream ∷ others) = stream_line s stream ++ stream_lines (s + 1) others
