-- The image of streams:
-- the file that is written to hold just these streams ("The MSF File Format").
use Rattle.std.specs.Prelude.{ℕ, ◌≡◌, ◌+◌, ◌-◌, ◌*◌, ◌/◌, ◌^◌, ◌<◌, ◌≤◌, if◌then◌else◌, All, List, [], ◌∷◌, ◌++◌, length, map, take, drop, slice_get}
use Rattle.std.specs.List.{range_with_len, flat_map, sum_by}
use Rattle.byte_fields.specs.Number.{u32s}
use Rattle.msf_superblock.specs.BlockNumber.{blocks_for, is_map_block, nth_block, data_blocks, block_numbers}
use Rattle.msf_blocks.specs.FreeMap.{map_block}
use Rattle.msf_superblock.specs.Superblock.{Fields, magic}
use Rattle.msf_blocks.specs.Directory.{Listed}
use Rattle.msf_blocks.specs.Layout.{LayoutView, HasLayout}
use Rattle.msf_streams.specs.Streams.{stream_contents}
use Rattle.std.specs.Borrow.{Bor}
use lib.ListN.{replicate}

-- ---- blocks

-- a part of the file, padded with zeros to whole blocks
unfoldable pub padded : ℕ → List ℕ → List ℕ
padded block_size part =
    part ++ replicate (blocks_for block_size (length part) * block_size - length part) 0

-- block j of the data, from 0
unfoldable pub data_block : ℕ → List ℕ → ℕ → List ℕ
data_block block_size bytes j = take block_size (drop (j * block_size) bytes)

-- block k of the file: a map block, or the next block of the data
unfoldable pub image_block : ℕ → ℕ → List ℕ → ℕ → List ℕ
image_block block_size num_blocks bytes k =
    if is_map_block block_size k then map_block block_size num_blocks k
    else data_block block_size bytes (length (data_blocks block_size k))

-- the file whose data blocks hold this data in rising order, with the map blocks between them
unfoldable pub laid_out : ℕ → ℕ → List ℕ → List ℕ
laid_out block_size num_blocks bytes =
    flat_map (image_block block_size num_blocks bytes) (range_with_len 0 num_blocks)

-- ---- the parts of a file, by the sizes of its streams

-- how many blocks these streams take together, each padded to whole blocks
abbrev pub blocks_of_all : ℕ → List ℕ → ℕ
blocks_of_all block_size sizes = sum_by (blocks_for block_size) sizes

-- the length of the directory in bytes: the number of streams, their sizes,
-- and the number of each block of a stream take four bytes each
abbrev pub directory_len : ℕ → List ℕ → ℕ
directory_len block_size sizes = 4 * (1 + length sizes + blocks_of_all block_size sizes)

-- how many blocks the directory takes
abbrev pub directory_count : ℕ → List ℕ → ℕ
directory_count block_size sizes = blocks_for block_size (directory_len block_size sizes)

-- how many blocks hold data: those of the superblock, the block map, the directory and the streams
abbrev pub data_count : ℕ → List ℕ → ℕ
data_count block_size sizes = 2 + directory_count block_size sizes + blocks_of_all block_size sizes

-- how many blocks the file has: one more than the number of the last block that holds data
abbrev pub image_blocks : ℕ → List ℕ → ℕ
image_blocks block_size sizes = nth_block block_size (data_count block_size sizes - 1) + 1

-- the length of the file in bytes
abbrev pub image_length : ℕ → List ℕ → ℕ
image_length block_size sizes = image_blocks block_size sizes * block_size

-- the six numbers of a superblock, which follow the magic
abbrev pub superblock_numbers : ℕ → List ℕ → List ℕ
superblock_numbers block_size sizes =
    block_size ∷ 1 ∷ image_blocks block_size sizes ∷ directory_len block_size sizes ∷ 0
    ∷ nth_block block_size 1 ∷ []

-- the superblock: map 1 is the free block map in force, and the next data block is the block map
unfoldable pub superblock_part : ℕ → List ℕ → List ℕ
superblock_part block_size sizes = magic ++ u32s (superblock_numbers block_size sizes)

-- the block map: the numbers of the blocks of the directory
unfoldable pub block_map_part : ℕ → List ℕ → List ℕ
block_map_part block_size sizes =
    u32s (block_numbers block_size 2 (directory_count block_size sizes))

-- the directory: the number of streams, their sizes, and the numbers of their blocks;
-- the streams are in consecutive data blocks
unfoldable pub directory_part : ℕ → List ℕ → List ℕ
directory_part block_size sizes =
    u32s (length sizes ∷ sizes ++ block_numbers block_size
    (2 + directory_count block_size sizes) (blocks_of_all block_size sizes))

-- the parts of the file that holds these streams
unfoldable pub parts : ℕ → List (List ℕ) → List (List ℕ)
parts block_size contents =
    let sizes = map length contents in
    superblock_part block_size sizes
    ∷ block_map_part block_size sizes
    ∷ directory_part block_size sizes
    ∷ contents

-- the image of these streams
unfoldable pub image : ℕ → List (List ℕ) → List ℕ
image block_size contents =
    laid_out block_size (image_blocks block_size (map length contents))
    (flat_map (padded block_size) (parts block_size contents))

-- the contents of the streams that are lent to a writer
abbrev pub contents_of : List (Bor (List ℕ)) → List (List ℕ)
contents_of streams = map (λ s. s.now) streams

-- the contents of a stream that is lent in parts: the parts one after the other
abbrev pub joined : List (Bor (List ℕ)) → List ℕ
joined parts = flat_map (λ part. part.now) parts

-- the contents of the streams that are lent to a writer in parts
abbrev pub joined_of : List (Bor (List (Bor (List ℕ)))) → List (List ℕ)
joined_of streams = map (λ parts. joined parts.now) streams

-- streams of these sizes fit in a file: one block can list the blocks of the directory,
-- and the length of the file is a number of four bytes
pub record Fits (block_size : ℕ) (sizes : List ℕ) : Type 0 where
  pub directory : directory_count block_size sizes ≤ block_size / 4
  pub short : image_length block_size sizes < 2 ^ 32

-- streams with these contents can be written: each length is a number of four bytes,
-- and streams of these sizes fit in a file
pub record Writable (block_size : ℕ) (contents : List (List ℕ)) : Type 0 where
  pub short : All (λ bytes. length bytes < 2 ^ 32) contents
  pub fits : Fits block_size (map length contents)

-- ---- reading back

-- the values of the superblock of an image
abbrev pub image_fields : ℕ → List ℕ → Fields
image_fields block_size sizes = record {
  block_size = block_size;
  free_map_block = 1;
  num_blocks = image_blocks block_size sizes;
  directory_bytes = directory_len block_size sizes;
  unknown = 0;
  block_map_addr = nth_block block_size 1;
}

-- streams of these sizes in consecutive data blocks, beginning with data block `first`
unfoldable pub listed_from : ℕ → ℕ → List ℕ → List Listed
listed_from block_size first [] = []
listed_from block_size first (size ∷ sizes) =
    record { size = size; blocks = block_numbers block_size first (blocks_for block_size size) }
    ∷ listed_from block_size (first + blocks_for block_size size) sizes

-- the layout of an image
abbrev pub image_layout : ℕ → List ℕ → LayoutView
image_layout block_size sizes = record {
  superblock = image_fields block_size sizes;
  streams = listed_from block_size (2 + directory_count block_size sizes) sizes;
}

-- the image of these streams has a layout whose streams are just these streams
pub record ReadsBack (block_size : ℕ) (contents : List (List ℕ)) : Type 0 where
  pub long : length (image block_size contents) ≡ image_length block_size (map length contents)
  pub layout : HasLayout (image block_size contents) (image_layout block_size (map length contents))
  pub streams :
      (s : ℕ)
      → stream_contents (image block_size contents) (image_layout block_size (map length contents))
      s ≡ slice_get contents s
