-- What holds of accepted files, and of files that are known.
use Rattle.std.specs.Prelude.{ℕ, ◌≡◌, ◌↔◌, List}
use Rattle.byte_fields.specs.Bytes.{AreBytes}
use Rattle.byte_io.specs.At.{stable}
use Rattle.msf_blocks.specs.Layout.{LayoutView, HasTexts}
use Rattle.file_types.specs.Read.{IsAccepted, TypesWereRead, HasPdbFault, HasPdbFaultRead, HasFaultOfTexts}
use Rattle.file_types.specs.declared.fault.PdbFault.{PdbFault}

-- a file is accepted with only one list of records
abbrev pub OneListEach : Type 0
OneListEach = (file : List ℕ) (some others : List (List ℕ)) → IsAccepted file some →
    IsAccepted file others → some ≡ others

-- of a file of bytes that is known, reads give just the types with which it is accepted
abbrev pub KnownTypes : Type 0
KnownTypes = (file : List ℕ) (types : List (List ℕ)) → AreBytes file →
    ((layout : LayoutView) × HasTexts (stable file) layout
    × TypesWereRead (stable file) layout types)
    ↔ IsAccepted file types

-- of a file that is known, reads give no fault but the first one of the file
abbrev pub KnownPdbFault : Type 0 → Type 0
KnownPdbFault A = (file : List ℕ) (fault : PdbFault A) →
    HasFaultOfTexts HasPdbFaultRead (stable file) fault → HasPdbFault file fault
