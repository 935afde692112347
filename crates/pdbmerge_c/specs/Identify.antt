-- What identifies a file.
use Rattle.std.specs.Prelude.{ℕ, ◌≡◌, Some, None, List}
use Rattle.std.specs.declared.alloc.Global.{Global}
use Rattle.byte_fields.specs.Check.{first_failing}
use Rattle.msf_blocks.specs.Layout.{LayoutView, HasLayout, layout_checks}
use Rattle.msf_streams.specs.Streams.{stream_contents}
use Rattle.pdb_info.specs.Header.{HeaderFields, HasInfoHeader}
use Rattle.file_types.specs.Fault.{pdb_number}
use Rattle.file_types.specs.Read.{HasInfoFault}
use Rattle.file_types.specs.declared.fault.PdbFault.{PdbFault}
use Rattle.file_types.specs.declared.fault.PdbFault.TheVariants as pdb
use Rattle.pdbmerge_c.specs.declared.fault.Fault.{Fault}
use Rattle.pdbmerge_c.specs.declared.identify.Identity.{Identity}
use Rattle.pdbmerge_c.specs.Fault.{Tells}

-- the container has blocks of this size,
-- and its stream 1 begins with a header of this age and this GUID
pub record Identifies (file : List ℕ) (identity : Identity) : Type 0 where
  pub layout : LayoutView
  pub has_layout : HasLayout file layout
  pub size_is : identity.block_size ≡ layout.superblock.block_size
  pub stream : List ℕ
  pub is_stream : stream_contents file layout 1 ≡ Some stream
  pub fields : HeaderFields
  pub has_header : HasInfoHeader stream fields
  pub age_is : identity.age ≡ fields.age
  pub guid_is : identity.guid ≡ fields.guid

-- this is the first fault of the file on the way to its header:
-- a fault of its layout, else of stream 1; or memory ran out, and the container has no fault
abbrev pub IsFaultOfIdentity : {A : Type 0} → List ℕ → PdbFault A → Type 0
IsFaultOfIdentity file (pdb.Msf inner) = first_failing (layout_checks file) ≡ Some inner
IsFaultOfIdentity file pdb.Memory = first_failing (layout_checks file) ≡ None
IsFaultOfIdentity file inner =
    (layout : LayoutView) × HasLayout file layout × HasInfoFault file layout inner

-- what is told is such a fault
abbrev pub RefusesIdentity : List ℕ → Fault → Type 0
RefusesIdentity file = Tells {Why = PdbFault Global} (IsFaultOfIdentity file) pdb_number
