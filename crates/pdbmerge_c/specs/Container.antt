-- What the container of a file has.
use Rattle.std.specs.Prelude.{ℕ, ◌≡◌, List, length, map}
use Rattle.std.specs.List.{flat_map}
use Rattle.byte_fields.specs.Check.{Refuses, first_failing}
use Rattle.msf_blocks.specs.Directory.{bytes_of}
use Rattle.msf_superblock.specs.Fault.{msf_number}
use Rattle.msf_blocks.specs.FreeMap.{free_blocks}
use Rattle.msf_blocks.specs.Layout.{LayoutView, HasLayout, layout_checks}
use Rattle.msf_superblock.specs.declared.fault.MsfFault.{MsfFault}
use Rattle.msf_superblock.specs.declared.fault.MsfFault.TheVariants.{Memory}
use Rattle.pdbmerge_c.specs.declared.fault.Fault.{Fault}
use Rattle.pdbmerge_c.specs.declared.layout.ContainerCounts.{ContainerCounts}
use Rattle.pdbmerge_c.specs.Fault.{Tells}

-- these are the numbers of the container of the file, and the sizes of its streams in bytes
pub record HasContainer (file : List ℕ) (container : ContainerCounts) (sizes : List ℕ)
    : Type 0 where
  pub layout : LayoutView
  pub has_layout : HasLayout file layout
  pub block_size_is : container.block_size ≡ layout.superblock.block_size
  pub blocks_are : container.blocks ≡ layout.superblock.num_blocks
  pub free_are : container.free_blocks ≡ free_blocks file layout.superblock
  pub directory_is : container.directory_bytes ≡ layout.superblock.directory_bytes
  pub many : container.streams ≡ length layout.streams
  pub sizes_are : sizes ≡ map (λ stream. bytes_of stream.size) layout.streams

-- these are the blocks of all streams of the file, those of one stream after those of another
abbrev pub AreStreamBlocks : List ℕ → List ℕ → Type 0
AreStreamBlocks file blocks =
    (layout : LayoutView)
    × HasLayout file layout
    × (blocks ≡ flat_map (λ stream. stream.blocks) layout.streams)

-- this is the first fault of the container; or memory ran out, and the container has no fault
abbrev pub IsFaultOfContainer : List ℕ → MsfFault → Type 0
IsFaultOfContainer file = Refuses Memory (first_failing (layout_checks file))

-- what is told is such a fault
abbrev pub RefusesContainer : List ℕ → Fault → Type 0
RefusesContainer file = Tells (IsFaultOfContainer file) msf_number
