-- A layout that is read by position.
use Rattle.std.proofs.Common.{◌≡◌, ◌≤◌, ℕ, List, Some, arith, inl, inr}
use Rattle.std.specs.Prelude.{Result, Ok, Err, IfErr}
use Rattle.byte_fields.specs.Bytes.{AreBytes}
use Rattle.byte_fields.specs.Check.{first_failing, Refuses}
use Rattle.msf_superblock.proofs.FrontLaws.{superblock_holds}
use Rattle.msf_blocks.proofs.LayoutLaws.{superblock_fault}
use Rattle.msf_superblock.specs.Superblock.{Fields, IsSuperblock, superblock_checks}
use Rattle.byte_io.specs.declared.limited.Limited.{Limited}
use Rattle.byte_io.specs.declared.limited.Limited.TheVariants as within
use Rattle.byte_io.specs.At.{WidensTo, Bytes, IfKnown, IfOf}
use Rattle.byte_io.specs.declared.at.AtFault.{AtFault}
use Rattle.byte_io.specs.declared.at.AtFault.TheVariants as at
use Rattle.msf_blocks.specs.Layout.{LayoutView, HasLayout, HasLongDirectory, HasWithinFault, layout_checks}
use Rattle.msf_superblock.specs.declared.fault.MsfFault.{MsfFault}
use Rattle.msf_superblock.specs.declared.fault.MsfFault.TheVariants.{Memory}
use Rattle.msf_blocks.proofs.FoundLaws.{layout_holds}

-- a file that has a layout is refused by position only when out of memory
pub layout_wants : {T : Type 0} (bytes : Bytes) (result : Result T (AtFault MsfFault)) → IfKnown bytes AreBytes → IfErr result (IfOf (λ fault. IfKnown bytes (λ file. Refuses Memory (first_failing (layout_checks file)) fault)))
    → IfErr result (IfOf (λ fault. IfKnown bytes (λ file. (layout : LayoutView) → HasLayout file layout → fault ≡ Memory)))
layout_wants bytes (Ok value) small first = tt
layout_wants bytes (Err at.Read) small first = tt
layout_wants bytes (Err (at.Of fault)) small first = λ file is layout has. elim (first file is) [
  | inl some ↦ let none = layout_holds file layout (small file is) has in absurd cc
  | inr want ↦ want.0
]

-- ---- with a limit on the directory

-- what holds of each fault of a container holds of it as a fault within a limit
pub of_within : (P : MsfFault → Type 0) (Q : Limited MsfFault → Type 0) (fault : AtFault MsfFault) (wide : AtFault (Limited MsfFault)) → WidensTo (λ inner other. other ≡ within.Of inner) fault wide → ((inner : MsfFault) → P inner → Q (within.Of inner)) → IfOf P fault → IfOf Q wide
of_within P Q at.Read wide widens each is = rw widens tt
of_within P Q (at.Of inner) wide (other, gives, made) each is = rw (made, gives) (each inner is)

-- a superblock with a fault says nothing of the directory
pub within_superblock : (limit : ℕ) (file : List ℕ) (fault : MsfFault) → first_failing (superblock_checks file) ≡ Some fault → HasWithinFault limit file (within.Of fault)
within_superblock limit file fault first =
    ((λ long. let none = superblock_holds file long.superblock long.is_superblock in absurd cc), inl (superblock_fault file fault first))

-- a file has one superblock, so one length of its directory
pub short_directory : (limit : ℕ) (file : List ℕ) (fields : Fields) → IsSuperblock file fields → fields.directory_bytes ≤ limit → HasLongDirectory limit file → ⊥
short_directory limit file fields is short long = omega (arith, short, long.long, is.directory_bytes_is, long.is_superblock.directory_bytes_is)
