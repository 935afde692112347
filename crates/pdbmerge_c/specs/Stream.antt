-- The bytes of a stream of a file.
use Rattle.std.specs.Prelude.{ℕ, ◌≡◌, ◌≤◌, Some, None, List, length}
use Rattle.std.specs.declared.alloc.Global.{Global}
use Rattle.byte_fields.specs.Check.{first_failing}
use Rattle.msf_blocks.specs.Layout.{LayoutView, HasLayout, layout_checks}
use Rattle.msf_streams.specs.Streams.{stream_contents}
use Rattle.msf_streams.specs.declared.fault.StreamFault.TheVariants.{NoStream}
use Rattle.file_types.specs.Fault.{pdb_number}
use Rattle.file_types.specs.declared.fault.PdbFault.{PdbFault}
use Rattle.file_types.specs.declared.fault.PdbFault.TheVariants as pdb
use Rattle.pdbmerge_c.specs.declared.fault.Fault.{Fault}
use Rattle.pdbmerge_c.specs.Fault.{Tells}

-- these are the bytes of the stream of this number
pub record IsStreamOf (file : List ℕ) (stream : ℕ) (bytes : List ℕ) : Type 0 where
  pub layout : LayoutView
  pub has_layout : HasLayout file layout
  pub is_stream : stream_contents file layout stream ≡ Some bytes

-- this is the first fault on the way to these bytes: a fault of the layout,
-- else that there is no such stream; or memory ran out, and the container has no fault
abbrev pub IsFaultOfStream : {A : Type 0} → List ℕ → ℕ → PdbFault A → Type 0
IsFaultOfStream file stream (pdb.Msf inner) = first_failing (layout_checks file) ≡ Some inner
IsFaultOfStream file stream (pdb.Stream inner) =
    (layout : LayoutView)
    × HasLayout file layout
    × (length layout.streams ≤ stream)
    × (inner ≡ NoStream stream)
IsFaultOfStream file stream pdb.Memory = first_failing (layout_checks file) ≡ None
IsFaultOfStream file stream _ = ⊥

-- what is told is such a fault
abbrev pub RefusesStream : List ℕ → ℕ → Fault → Type 0
RefusesStream file stream = Tells {Why = PdbFault Global} (IsFaultOfStream file stream) pdb_number
