-- The whole info stream ("The PDB Info Stream").
use Rattle.std.specs.Prelude.{ℕ, List, ◌++◌}
use Rattle.byte_fields.specs.Check.{Check, checks_below}
use Rattle.pdb_info.specs.Header.{HeaderFields, HasInfoHeader, info_header_checks}
use Rattle.pdb_info.specs.Names.{NamedStream, HasNames, map_checks, pair_checks, size_of}
use Rattle.pdb_info.specs.declared.fault.InfoFault.{InfoFault}

-- contracts see an info stream as the fields of its header,
-- its named streams in the order of their buckets, and its feature codes
pub record InfoView : Type 0 where
  pub header : HeaderFields
  pub names : List NamedStream
  pub features : List ℕ

-- the bytes of the stream are what the format says for these values
pub record HasInfo (stream : List ℕ) (info : InfoView) : Type 0 where
  pub header : HasInfoHeader stream info.header
  pub names : HasNames stream info.names info.features

-- the checks of an info stream, in order
unfoldable pub info_checks : List ℕ → List (Check InfoFault)
info_checks stream =
    info_header_checks stream
    ++ (map_checks stream ++ checks_below (size_of stream) (pair_checks stream))
