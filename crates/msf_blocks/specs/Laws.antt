-- What holds of every container.
use Rattle.std.specs.Prelude.{ℕ, ◌≡◌, ◌↔◌, List}
use Rattle.byte_fields.specs.Bytes.{AreBytes}
use Rattle.byte_fields.specs.Check.{Refuses, first_failing}
use Rattle.byte_io.specs.At.{stable}
use Rattle.msf_blocks.specs.Layout.{LayoutView, HasLayout, HasTexts, TextsRefuse, layout_checks}
use Rattle.msf_superblock.specs.declared.fault.MsfFault.{MsfFault}
use Rattle.msf_superblock.specs.declared.fault.MsfFault.TheVariants.{Memory}

-- a file of bytes has at most one layout
abbrev pub OneLayout : Type 0
OneLayout =
    (file : List ℕ) (some other : LayoutView)
    → AreBytes file
    → HasLayout file some
    → HasLayout file other
    → some ≡ other

-- of a file that is known, reads give a layout just if the file has it
abbrev pub KnownLayout : Type 0
KnownLayout = (file : List ℕ) (layout : LayoutView) →
    HasTexts (stable file) layout ↔ HasLayout file layout

-- of a file that is known, reads give bytes with a fault just if it is the first fault of the file,
-- or it is out of memory and the file has none
abbrev pub KnownFault : Type 0
KnownFault = (file : List ℕ) (fault : MsfFault) →
    TextsRefuse (stable file) fault ↔ Refuses Memory (first_failing (layout_checks file)) fault
