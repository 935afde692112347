-- What the command `check` prints.
use Rattle.std.specs.Prelude.{ℕ, ◌≡◌, List, length}
use Rattle.std.specs.List.{concat}
use Rattle.type_trees.specs.Depth.{HasLevels}
use Rattle.byte_io.specs.At.{Bytes}
use Rattle.msf_blocks.specs.Layout.{LayoutView}
use Rattle.file_types.specs.Read.{IsAccepted, TypesWereRead, HasPdbFault, HasPdbFaultRead}
use Rattle.output_lines.specs.Check.{checked_lines}
use Rattle.show_commands.specs.declared.fault.RunFault.{RunFault}
use Rattle.show_commands.specs.declared.fault.RunFault.TheVariants.{Pdb}

-- `check` prints this text for the file: that it is accepted, and the number of records, of bytes
-- and of levels of its types
abbrev pub ShowsChecked : List ℕ → List ℕ → Type 0
ShowsChecked file text =
    (records : List (List ℕ)) × (levels : ℕ) × IsAccepted file records × HasLevels records levels
    × (text ≡ checked_lines (length records) (length (concat records)) levels)

-- `check` prints this text of what reads gave: the types of this layout
abbrev pub ShowsCheckedRead : Bytes → LayoutView → List ℕ → Type 0
ShowsCheckedRead bytes layout text =
    (records : List (List ℕ)) × (levels : ℕ) × TypesWereRead bytes layout records
    × HasLevels records levels
    × (text ≡ checked_lines (length records) (length (concat records)) levels)

-- this is the first fault of the file on the way to its types
abbrev pub RefusesCheck : {A : Type 0} → List ℕ → RunFault A → Type 0
RefusesCheck file (Pdb fault) = HasPdbFault file fault
RefusesCheck file _ = ⊥

-- `check` refuses what reads gave of this layout with this fault, which is the first on the way to
-- its types
abbrev pub RefusesCheckRead : {A : Type 0} → Bytes → LayoutView → RunFault A → Type 0
RefusesCheckRead bytes layout (Pdb fault) = HasPdbFaultRead bytes layout fault
RefusesCheckRead bytes layout _ = ⊥
