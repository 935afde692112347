-- A file whose directory and stream of types are held against a limit.
use Rattle.std.specs.Prelude.{ℕ, ◌≤◌, ◌⊎◌}
use Rattle.byte_io.specs.At.{Bytes}
use Rattle.msf_blocks.specs.Layout.{LayoutView, GivesLongDirectory, HasTexts, ListsLongStream}
use Rattle.byte_io.specs.declared.limited.Limited.{Limited}
use Rattle.byte_io.specs.declared.limited.Limited.TheVariants.{TooLong, Of}
use Rattle.file_types.specs.declared.fault.PdbFault.{PdbFault}

-- neither the directory nor stream 2 has more bytes than the limit
pub record HasShortParts (limit : ℕ) (layout : LayoutView) : Type 0 where
  pub directory : layout.superblock.directory_bytes ≤ limit
  pub stream : ListsLongStream limit 2 layout → ⊥

-- reads gave a sound front that says that the directory has more bytes than the limit, or a layout
-- that lists more for stream 2
abbrev pub GivesLongPart : ℕ → Bytes → Type 0
GivesLongPart limit bytes =
    GivesLongDirectory limit bytes
    ⊎ ((layout : LayoutView) × HasTexts bytes layout × ListsLongStream limit 2 layout)

-- this is why such a file is refused: a part is too long, or it has a fault of the file
abbrev pub IsBoundedFault : {A : Type 0} → ℕ → Bytes → (PdbFault A → Type 0)
    → Limited (PdbFault A) → Type 0
IsBoundedFault limit bytes Refuses TooLong = GivesLongPart limit bytes
IsBoundedFault limit bytes Refuses (Of fault) = Refuses fault
