-- The first fault of a file, on the way to what a call reads of it.
use Rattle.std.proofs.Common.{◌≡◌, ◌⊎◌, inl, inr, ◌<◌, ◌≤◌, ◌∙◌, ℕ, List, Some, None, length, get_or, refl, ap}
use Rattle.byte_fields.specs.Check.{Refuses, first_failing}
use Rattle.msf_blocks.specs.Layout.{LayoutView, HasLayout, layout_checks}
use Rattle.msf_superblock.specs.declared.fault.MsfFault.{MsfFault}
use Rattle.msf_superblock.specs.declared.fault.MsfFault.TheVariants as msf
use Rattle.msf_blocks.proofs.FoundLaws.{layout_holds}
use Rattle.msf_streams.specs.declared.fault.StreamFault.{StreamFault}
use Rattle.msf_streams.specs.declared.fault.StreamFault.TheVariants as streams
use Rattle.file_types.specs.Fault.{pdb_from_msf, pdb_from_stream}
use Rattle.file_types.specs.declared.fault.PdbFault.{PdbFault}
use Rattle.file_types.specs.declared.fault.PdbFault.TheVariants as pdb
use Rattle.file_types.proofs.MemoryLaws.{layout_want}
use Rattle.pdbmerge_c.specs.Stream.{IsFaultOfStream}

-- a fault of the layout is that of the container, or it is out of memory, and the container has none
pub layout_fault : {A : Type 0} (P : PdbFault A → Type 0) (file : List ℕ) → ((inner : MsfFault) → first_failing (layout_checks file) ≡ Some inner → P (pdb.Msf inner))
    → (first_failing (layout_checks file) ≡ None → P pdb.Memory) → (inner : MsfFault) (outer : PdbFault A) → outer ≡ pdb_from_msf inner
    → Refuses msf.Memory (first_failing (layout_checks file)) inner → P outer
layout_fault P file some none msf.Memory outer made refused = rw made (none (layout_want file msf.Memory outer made refused made))
layout_fault P file some none inner outer made (inl first) = rw made (some inner first)
layout_fault P file some none inner outer made (inr want) = rw (made ∙ ap pdb_from_msf want.0) (none want.1)

-- a stream is refused because there is none, or because memory is, and then the container has no fault
pub stream_fault : {A : Type 0} (file : List ℕ) (layout : LayoutView) (s : ℕ) (inner : StreamFault) (outer : PdbFault A) → ((i : ℕ) → get_or file i 0 < 256)
    → HasLayout file layout → outer ≡ pdb_from_stream inner
    → ((inner ≡ streams.NoStream s) × (length layout.streams ≤ s)) ⊎ ((inner ≡ streams.Memory) × (s < length layout.streams)) → IsFaultOfStream file s outer
stream_fault file layout s inner outer bytes has made (inl first) = rw (made, first.0) (layout, has, first.1, refl)
stream_fault file layout s inner outer bytes has made (inr want) = rw (made ∙ ap pdb_from_stream want.0) (layout_holds file layout bytes has)
