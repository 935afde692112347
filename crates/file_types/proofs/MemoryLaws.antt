-- Out of memory comes only where the container has no fault, and is never inside another fault.
use Rattle.std.proofs.Common.{◌≡◌, ◌∙◌, ℕ, List, Some, None, refl, sym, ap, inl, inr}
use Rattle.byte_fields.specs.Check.{Refuses, first_failing}
use Rattle.msf_blocks.specs.Layout.{layout_checks}
use Rattle.msf_superblock.specs.declared.fault.MsfFault.{MsfFault}
use Rattle.msf_superblock.specs.declared.fault.MsfFault.TheVariants as msf
use Rattle.msf_blocks.proofs.MemoryLaws.{layout_wants_none}
use Rattle.file_types.specs.Fault.{pdb_from_msf}
use Rattle.file_types.specs.declared.fault.PdbFault.{PdbFault}
use Rattle.file_types.specs.declared.fault.PdbFault.TheVariants.{Memory}

-- if a fault of a container becomes out of memory for the file, it was out of memory
of_msf_want : {A : Type 0} (inner : MsfFault) → ◌≡◌ {A = PdbFault A} (pdb_from_msf inner) Memory → inner ≡ msf.Memory
of_msf_want msf.Memory is = refl
of_msf_want inner is = absurd cc

-- a container that was refused when out of memory has no fault
pub layout_want : {A : Type 0} (file : List ℕ) (inner : MsfFault) (fault : PdbFault A) → fault ≡ pdb_from_msf inner → Refuses msf.Memory (first_failing (layout_checks file)) inner → fault ≡ Memory → first_failing (layout_checks file) ≡ None
layout_want file inner fault made (inr want) is = want.1
layout_want file inner fault made (inl first) is = absurd (layout_wants_none file (first ∙ ap Some (of_msf_want inner (sym made ∙ is))))
