-- What the command `streams` prints.
use Rattle.std.specs.Prelude.{ℕ, ◌≡◌, List, ◌++◌}
use Rattle.byte_io.specs.At.{Bytes}
use Rattle.msf_blocks.specs.FreeMap.{IsFreeCount, free_blocks}
use Rattle.msf_blocks.specs.Layout.{LayoutView, HasLayout}
use Rattle.file_types.specs.Read.{IsLayoutFault, IsLayoutFaultRead}
use Rattle.output_lines.specs.Streams.{container_with, stream_lines}
use Rattle.show_commands.specs.declared.fault.RunFault.{RunFault}
use Rattle.show_commands.specs.declared.fault.RunFault.TheVariants.{Pdb}

-- the lines on the container
abbrev pub container_lines : List ℕ → LayoutView → List ℕ
container_lines file layout = container_with (free_blocks file layout.superblock) layout

-- `streams` prints this text for the file: the lines on the container, and a line for each stream
abbrev pub ShowsStreams : List ℕ → List ℕ → Type 0
ShowsStreams file text =
    (layout : LayoutView) × HasLayout file layout
    × (text ≡ container_lines file layout ++ stream_lines 0 layout.streams)

-- `streams` prints this text of what reads gave: this layout, and how many blocks are free by a
-- free block map that reads gave
abbrev pub ShowsStreamsRead : Bytes → LayoutView → List ℕ → Type 0
ShowsStreamsRead bytes layout text =
    (free : ℕ) × IsFreeCount bytes layout.superblock layout.superblock.num_blocks free
    × (text ≡ container_with free layout ++ stream_lines 0 layout.streams)

-- this is the first fault of the file on the way to its layout, as a fault of the command
abbrev pub RefusesStreams : {A : Type 0} → List ℕ → RunFault A → Type 0
RefusesStreams file (Pdb fault) = IsLayoutFault file fault
RefusesStreams file _ = ⊥

-- reads gave bytes of a container, and its layout has this fault
abbrev pub RefusesLayout : {A : Type 0} → Bytes → RunFault A → Type 0
RefusesLayout bytes (Pdb fault) = IsLayoutFaultRead bytes fault
RefusesLayout bytes _ = ⊥

-- `streams` refuses no layout
abbrev pub RefusesStreamsRead : {A : Type 0} → Bytes → LayoutView → RunFault A → Type 0
RefusesStreamsRead bytes layout fault = ⊥
