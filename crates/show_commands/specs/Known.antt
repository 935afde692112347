-- Of a file that is known, what a command prints and refuses of what reads gave is what it prints
-- and refuses of the file. These are the proofs of the laws of `Show`, which only `specs/` can
-- hold.
use Rattle.std.proofs.Common.{◌≡◌, ℕ, List, Some, inl, inr}
use Rattle.byte_fields.specs.Bytes.{AreBytes}
use Rattle.byte_fields.specs.Check.{first_failing}
use Rattle.byte_io.specs.At.{stable}
use Rattle.msf_blocks.specs.Layout.{LayoutView, HasLayout, ListsLongStream, layout_checks}
use Rattle.msf_superblock.specs.declared.fault.MsfFault.{MsfFault}
use Rattle.msf_blocks.proofs.FoundLaws.{layout_holds}
use Rattle.msf_blocks.proofs.FreeLaws.{free_known}
use Rattle.msf_blocks.proofs.OneLayoutLaws.{one_layout}
use Rattle.msf_streams.specs.Streams.{WasRead}
use Rattle.msf_streams.proofs.AtLaws.{stream_known}
use Rattle.pdb_info.specs.Info.{InfoView, HasInfo}
use Rattle.file_types.specs.Read.{HasTypeRecords, RecordsWereRead}
use Rattle.file_types.specs.declared.fault.PdbFault.TheVariants as pdb
use Rattle.file_types.proofs.KnownLaws.{pdb_fault_known, records_fault_known, records_known, types_known}
use Rattle.show_commands.specs.Check.{RefusesCheck, RefusesCheckRead, ShowsChecked, ShowsCheckedRead}
use Rattle.show_commands.specs.Info.{HasInfoStream, RefusesInfoRead, RefusesInfoWithin, ShowsInfoRead, ShowsInfoWithin}
use Rattle.show_commands.specs.Record.{RefusesRecord, RefusesRecordRead, ShowsRecord, ShowsRecordRead}
use Rattle.show_commands.specs.Records.{RefusesRecords, RefusesRecordsRead, ShowsRecords, ShowsRecordsRead}
use Rattle.show_commands.specs.Show.{RefusesKnown, RefusesUnlaid, ShowsKnown}
use Rattle.show_commands.specs.Shown.{HasLongStream, ListsTooLong, ReadsTooLong, RefusesIt, RefusesItRead, RefusesWithin, RefusesWithinRead, ShowsIt, ShowsItRead, ShowsWithin, ShowsWithinRead}
use Rattle.show_commands.specs.Streams.{RefusesStreams, RefusesStreamsRead, ShowsStreams, ShowsStreamsRead}
use Rattle.show_commands.specs.Types.{RefusesTypes, RefusesTypesRead, ShowsTypes, ShowsTypesRead}
use Rattle.show_commands.specs.declared.fault.RunFault.TheVariants.{Info, Leaf, NoRecord, Pdb, TooLong}
use Rattle.run_options.specs.declared.shown.Shown.{Shown}
use Rattle.run_options.specs.declared.shown.Shown.TheVariants as shown

-- records that reads gave are the type records of the file
type_records : (file : List ℕ) (layout : LayoutView) (records : List (List ℕ))
    → HasLayout file layout → RecordsWereRead (stable file) layout records
    → HasTypeRecords file records
type_records file layout records has read =
    record { layout = layout; has_layout = has; lists = records_known file layout records has read }

-- ---- the texts

pub records_shown : ShowsKnown ShowsRecords ShowsRecordsRead
records_shown file layout text bytes has (records, read, lines) =
    (records, type_records file layout records has read, lines)

pub record_shown : (index : ℕ) → ShowsKnown (ShowsRecord index) (ShowsRecordRead index)
record_shown index file layout text bytes has shows = record {
  records = shows.records;
  has_records = type_records file layout shows.records has shows.were_read;
  bytes = shows.found;
  is_record = shows.is_record;
  places = shows.places;
  has_places = shows.has_places;
  lines = shows.lines;
}

pub types_shown : ShowsKnown ShowsTypes ShowsTypesRead
types_shown file layout text bytes has (records, read, lines) =
    (records, type_records file layout records has read, lines)

pub checked_shown : ShowsKnown ShowsChecked ShowsCheckedRead
checked_shown file layout text bytes has (records, levels, read, has_levels, lines) =
    (records, levels, types_known file layout records bytes has read, has_levels, lines)

-- the info stream that reads gave is that of the file
info_stream : (file : List ℕ) (layout : LayoutView) (stream : List ℕ) (info : InfoView)
    → HasLayout file layout → WasRead (stable file) layout 1 stream → HasInfo stream info
    → HasInfoStream file info
info_stream file layout stream info has read has_info = record {
  layout = layout;
  has_layout = has;
  stream = stream;
  is_stream = stream_known file layout 1 stream has read;
  has_info = has_info;
}

pub info_shown : (limit : ℕ) → ShowsKnown (ShowsInfoWithin limit) (ShowsInfoRead limit)
info_shown limit file layout text bytes has (stream, read, (info, has_info, short, lines)) =
    (info, info_stream file layout stream info has read has_info, short, lines)

pub streams_shown : ShowsKnown ShowsStreams ShowsStreamsRead
streams_shown file layout text bytes has (free, count, lines) =
    let superblock = has.superblock in
    let same =
    free_known file layout.superblock free superblock.whole
    (λ _. superblock.fit.block_size_fits) count in
    (layout, has, rw same at lines)

-- ---- the refusals

pub records_refused : {A : Type 0}
    → RefusesKnown (RefusesRecords {A = A}) (RefusesRecordsRead {A = A})
records_refused file layout (Pdb fault) bytes has refused =
    records_fault_known file layout fault has refused
records_refused file layout fault bytes has refused = absurd refused

pub record_refused : {A : Type 0} (index : ℕ)
    → RefusesKnown (RefusesRecord {A = A} index) (RefusesRecordRead {A = A} index)
record_refused index file layout (NoRecord missing) bytes has (records, read, is, none) =
    (records, type_records file layout records has read, is, none)
record_refused index file layout (Leaf at fault) bytes has
    (records, found, read, is, is_record, first) =
    (records, found, type_records file layout records has read, is, is_record, first)
record_refused {A = A} index file layout fault bytes has refused =
    records_refused {A = A} file layout fault bytes has refused

pub types_refused : {A : Type 0} → RefusesKnown (RefusesTypes {A = A}) (RefusesTypesRead {A = A})
types_refused file layout (Leaf at fault) bytes has (records, read, first) =
    (records, type_records file layout records has read, first)
types_refused {A = A} file layout fault bytes has refused =
    records_refused {A = A} file layout fault bytes has refused

pub check_refused : {A : Type 0} → RefusesKnown (RefusesCheck {A = A}) (RefusesCheckRead {A = A})
check_refused file layout (Pdb fault) bytes has refused =
    pdb_fault_known file layout fault has refused
check_refused file layout fault bytes has refused = absurd refused

pub info_refused : {A : Type 0} (limit : ℕ)
    → RefusesKnown (RefusesInfoWithin {A = A} limit) (RefusesInfoRead {A = A} limit)
info_refused limit file layout (Pdb (pdb.Stream fault)) bytes has (few, is) = (layout, has, few, is)
info_refused limit file layout (Pdb fault) bytes has refused = absurd refused
info_refused limit file layout (Info fault) bytes has (stream, read, first) =
    (layout, stream, has, stream_known file layout 1 stream has read, first)
info_refused limit file layout TooLong bytes has (stream, read, (info, has_info, long)) =
    (info, info_stream file layout stream info has read has_info, long)
info_refused limit file layout fault bytes has (stream, read, refused) = absurd refused

pub streams_refused : {A : Type 0}
    → RefusesKnown (RefusesStreams {A = A}) (RefusesStreamsRead {A = A})
streams_refused file layout fault bytes has refused = absurd refused

-- ---- with a limit on the stream that the command reads

it_shown : (command : Shown) (limit : ℕ)
    → ShowsKnown (ShowsIt command limit) (ShowsItRead command limit)
it_shown shown.Records limit = records_shown
it_shown (shown.Record index) limit = record_shown index
it_shown shown.Types limit = types_shown
it_shown shown.Check limit = checked_shown
it_shown shown.Info limit = info_shown limit
it_shown shown.Streams limit = streams_shown

it_refused : (A : Type 0) (command : Shown) (limit : ℕ)
    → RefusesKnown (RefusesIt {A = A} command limit) (RefusesItRead {A = A} command limit)
it_refused A shown.Records limit = records_refused
it_refused A (shown.Record index) limit = record_refused index
it_refused A shown.Types limit = types_refused
it_refused A shown.Check limit = check_refused
it_refused A shown.Info limit = info_refused limit
it_refused A shown.Streams limit = streams_refused

it_unlaid : (A : Type 0) (command : Shown) (limit : ℕ)
    → RefusesUnlaid (RefusesIt {A = A} command limit)
it_unlaid A shown.Records limit file fault bytes first = first
it_unlaid A (shown.Record index) limit file fault bytes first = first
it_unlaid A shown.Types limit file fault bytes first = first
it_unlaid A shown.Check limit file fault bytes first = first
it_unlaid A shown.Info limit file fault bytes first = first
it_unlaid A shown.Streams limit file fault bytes first = first

-- a stream that is too long in the file is listed so by its layout
pub long_listed : (limit s : ℕ) (file : List ℕ) (layout : LayoutView) → AreBytes file
    → HasLayout file layout → HasLongStream limit s file → ListsLongStream limit s layout
long_listed limit s file layout bytes has long =
    let same = one_layout file long.layout layout bytes long.has_layout has in
    record {
      limited = long.limited;
      stream = long.stream;
      is_stream = rw same at long.is_stream;
      long = long.long;
    }

-- and one that is listed so is too long in the file
pub listed_long : (limit s : ℕ) (file : List ℕ) (layout : LayoutView) → HasLayout file layout
    → ListsLongStream limit s layout → HasLongStream limit s file
listed_long limit s file layout has lists = record {
  limited = lists.limited;
  layout = layout;
  has_layout = has;
  stream = lists.stream;
  is_stream = lists.is_stream;
  long = lists.long;
}

-- so is the stream that the command reads
reads_listed : (command : Shown) (limit : ℕ) (file : List ℕ) (layout : LayoutView) → AreBytes file
    → HasLayout file layout → ReadsTooLong command limit file → ListsTooLong command limit layout
reads_listed command limit file layout bytes has (s, is, long) =
    (s, is, long_listed limit s file layout bytes has long)

listed_reads : (command : Shown) (limit : ℕ) (file : List ℕ) (layout : LayoutView)
    → HasLayout file layout → ListsTooLong command limit layout → ReadsTooLong command limit file
listed_reads command limit file layout has (s, is, long) =
    (s, is, listed_long limit s file layout has long)

-- a file whose container has a fault has no stream that is too long
short_unlaid : (command : Shown) (limit : ℕ) (file : List ℕ) (fault : MsfFault) → AreBytes file
    → first_failing (layout_checks file) ≡ Some fault → ReadsTooLong command limit file → ⊥
short_unlaid command limit file fault bytes first (s, reads, long) =
    let none = layout_holds file long.layout bytes long.has_layout in absurd cc

pub within_shown : (command : Shown) (limit : ℕ)
    → ShowsKnown (ShowsWithin command limit) (ShowsWithinRead command limit)
within_shown command limit file layout text bytes has (short, shows) = (
  λ long. short (reads_listed command limit file layout bytes has long),
  it_shown command limit file layout text bytes has shows,
)

pub within_refused : {A : Type 0} (command : Shown) (limit : ℕ)
    → RefusesKnown (RefusesWithin {A = A} command limit) (RefusesWithinRead {A = A} command limit)
within_refused command limit file layout fault bytes has (inl (is, long)) =
    inl (is, listed_reads command limit file layout has long)
within_refused {A = A} command limit file layout fault bytes has (inr (short, own)) =
    inr (
      λ long. short (reads_listed command limit file layout bytes has long),
      it_refused A command limit file layout fault bytes has own,
    )

pub within_unlaid : {A : Type 0} (command : Shown) (limit : ℕ)
    → RefusesUnlaid (RefusesWithin {A = A} command limit)
within_unlaid {A = A} command limit file fault bytes first =
    inr (
      short_unlaid command limit file fault bytes first,
      it_unlaid A command limit file fault bytes first,
    )
