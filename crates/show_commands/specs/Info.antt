-- What the command `info` prints.
use Rattle.std.specs.Prelude.{ℕ, ◌≡◌, ◌<◌, ◌≤◌, ◌-◌, ◌^◌, List, ◌++◌, Some, length, sum_by}
use Rattle.std.specs.List.{flat_map}
use Rattle.byte_fields.specs.Check.{first_failing}
use Rattle.byte_io.specs.At.{Bytes}
use Rattle.msf_blocks.specs.Layout.{LayoutView, HasLayout}
use Rattle.msf_streams.specs.Streams.{WasRead, stream_contents}
use Rattle.msf_streams.specs.declared.fault.StreamFault.TheVariants.{NoStream}
use Rattle.pdb_info.specs.Info.{InfoView, HasInfo, info_checks}
use Rattle.file_types.specs.Read.{IsLayoutFault}
use Rattle.file_types.specs.declared.fault.PdbFault.{PdbFault}
use Rattle.file_types.specs.declared.fault.PdbFault.TheVariants as pdb
use Rattle.output_lines.specs.Info.{header_lines, name_line, feature_line}
use Rattle.show_commands.specs.declared.fault.RunFault.{RunFault}
use Rattle.show_commands.specs.declared.fault.RunFault.TheVariants.{Info, Pdb, TooLong}

-- `info` is what the info stream of the file says; the info stream is stream 1
pub record HasInfoStream (file : List ℕ) (info : InfoView) : Type 0 where
  pub layout : LayoutView
  pub has_layout : HasLayout file layout
  pub stream : List ℕ
  pub is_stream : stream_contents file layout 1 ≡ Some stream
  pub has_info : HasInfo stream info

-- the header, the named streams in the order of their buckets, the feature codes
abbrev pub info_lines : InfoView → List ℕ
info_lines info =
    header_lines info.header ++ flat_map name_line info.names
    ++ flat_map feature_line info.features

-- `info` prints this text for the file
abbrev pub ShowsInfo : List ℕ → List ℕ → Type 0
ShowsInfo file text = (info : InfoView) × HasInfoStream file info × (text ≡ info_lines info)

-- how many bytes the names of the streams have together
abbrev pub names_bytes : InfoView → ℕ
names_bytes info = sum_by (λ name. length name.text) info.names

-- the names are within the limit; the greatest number of four bytes is no limit
abbrev pub HasShortNames : ℕ → InfoView → Type 0
HasShortNames limit info = limit < 2 ^ 32 - 1 → names_bytes info ≤ limit

-- the names have more bytes together than the limit
pub record HasLongNames (limit : ℕ) (info : InfoView) : Type 0 where
  pub limited : limit < 2 ^ 32 - 1
  pub long : limit < names_bytes info

-- `info` prints this text for the file, and the names are within the limit
abbrev pub ShowsInfoWithin : ℕ → List ℕ → List ℕ → Type 0
ShowsInfoWithin limit file text =
    (info : InfoView) × HasInfoStream file info × HasShortNames limit info
    × (text ≡ info_lines info)

-- this is the text of an info stream with these bytes, and the names are within the limit
abbrev pub IsInfoText : ℕ → List ℕ → List ℕ → Type 0
IsInfoText limit stream text =
    (info : InfoView) × HasInfo stream info × HasShortNames limit info × (text ≡ info_lines info)

-- `info` prints this text of what reads gave of stream 1 of this layout
abbrev pub ShowsInfoRead : ℕ → Bytes → LayoutView → List ℕ → Type 0
ShowsInfoRead limit bytes layout text =
    (stream : List ℕ) × WasRead bytes layout 1 stream × IsInfoText limit stream text

-- this is the first fault of an info stream with these bytes, else that its names are too long
abbrev pub IsInfoFault : {A : Type 0} → ℕ → List ℕ → RunFault A → Type 0
IsInfoFault limit stream (Info fault) = first_failing (info_checks stream) ≡ Some fault
IsInfoFault limit stream TooLong = (info : InfoView) × HasInfo stream info × HasLongNames limit info
IsInfoFault limit stream _ = ⊥

-- this is the first fault of the file on the way to the bytes of its info stream: a fault of its
-- layout, else that it has no stream 1
abbrev pub HasNoInfoStream : {A : Type 0} → List ℕ → PdbFault A → Type 0
HasNoInfoStream file (pdb.Stream fault) =
    (layout : LayoutView) × HasLayout file layout × (length layout.streams ≤ 1)
    × (fault ≡ NoStream 1)
HasNoInfoStream file fault = IsLayoutFault file fault

-- this is the first fault of the file on the way to its info stream: a fault of its layout, else
-- that it has no stream 1, else a fault of that stream
abbrev pub RefusesInfo : {A : Type 0} → List ℕ → RunFault A → Type 0
RefusesInfo file (Pdb fault) = HasNoInfoStream file fault
RefusesInfo file (Info fault) =
    (layout : LayoutView) × (stream : List ℕ) × HasLayout file layout
    × (stream_contents file layout 1 ≡ Some stream)
    × (first_failing (info_checks stream) ≡ Some fault)
RefusesInfo file _ = ⊥

-- `info` refuses the file with this fault: the first on the way, else that the names are too long
abbrev pub RefusesInfoWithin : {A : Type 0} → ℕ → List ℕ → RunFault A → Type 0
RefusesInfoWithin limit file TooLong =
    (info : InfoView) × HasInfoStream file info × HasLongNames limit info
RefusesInfoWithin limit file fault = RefusesInfo file fault

-- this layout has no stream 1, and this is its fault
abbrev pub HasNoInfoStreamRead : {A : Type 0} → LayoutView → PdbFault A → Type 0
HasNoInfoStreamRead layout (pdb.Stream fault) = (length layout.streams ≤ 1) × (fault ≡ NoStream 1)
HasNoInfoStreamRead layout _ = ⊥

-- `info` refuses what reads gave of this layout with this fault: there is no stream 1, or the bytes
-- that reads gave of it have the fault
abbrev pub RefusesInfoRead : {A : Type 0} → ℕ → Bytes → LayoutView → RunFault A → Type 0
RefusesInfoRead limit bytes layout (Pdb fault) = HasNoInfoStreamRead layout fault
RefusesInfoRead limit bytes layout fault =
    (stream : List ℕ) × WasRead bytes layout 1 stream × IsInfoFault limit stream fault
