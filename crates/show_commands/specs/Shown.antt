-- What the commands that show a file print and refuse, with a limit on the stream that they read.
use Rattle.std.specs.Prelude.{ℕ, ◌≡◌, ◌<◌, ◌≤◌, ◌-◌, ◌^◌, ◌⊎◌, Bool, List, length, Option, Some, None, slice_get}
use Rattle.std.specs.Io.KnownBytes.{Appends}
use Rattle.byte_io.specs.At.{Bytes, stable}
use Rattle.byte_io.specs.Inputs.{Outcomes}
use Rattle.byte_io.specs.declared.input.ReadFault.TheVariants as reads
use Rattle.msf_streams.specs.Put.{AppendsPart}
use Rattle.msf_blocks.specs.Directory.{Listed, bytes_of}
use Rattle.msf_blocks.specs.Layout.{LayoutView, HasLayout, ListsLongStream}
use Rattle.show_commands.specs.Check.{ShowsChecked, ShowsCheckedRead, RefusesCheck, RefusesCheckRead}
use Rattle.show_commands.specs.Info.{ShowsInfoWithin, ShowsInfoRead, RefusesInfoWithin, RefusesInfoRead}
use Rattle.show_commands.specs.Record.{ShowsRecord, ShowsRecordRead, RefusesRecord, RefusesRecordRead}
use Rattle.show_commands.specs.Records.{ShowsRecords, ShowsRecordsRead, RefusesRecords, RefusesRecordsRead}
use Rattle.show_commands.specs.Show.{HasFailed, IsFaultOfTexts, IsOfTexts, IsUnread, RefusesBounded, ShowsBounded}
use Rattle.show_commands.specs.Streams.{ShowsStreams, ShowsStreamsRead, RefusesStreams, RefusesStreamsRead}
use Rattle.show_commands.specs.Types.{ShowsTypes, ShowsTypesRead, RefusesTypes, RefusesTypesRead}
use Rattle.show_commands.specs.declared.fault.RunFault.{RunFault}
use Rattle.show_commands.specs.declared.fault.RunFault.TheVariants.{Read, TooLong, Memory}
use Rattle.run_options.specs.declared.shown.Shown.{Shown}
use Rattle.run_options.specs.declared.shown.Shown.TheVariants as shown

-- the command prints this text for this file; the limit is on the names that `info` prints
abbrev pub ShowsIt : Shown → ℕ → List ℕ → List ℕ → Type 0
ShowsIt shown.Records limit = ShowsRecords
ShowsIt (shown.Record index) limit = ShowsRecord index
ShowsIt shown.Types limit = ShowsTypes
ShowsIt shown.Check limit = ShowsChecked
ShowsIt shown.Info limit = ShowsInfoWithin limit
ShowsIt shown.Streams limit = ShowsStreams

-- the command refuses this file with this fault
abbrev pub RefusesIt : {A : Type 0} → Shown → ℕ → List ℕ → RunFault A → Type 0
RefusesIt shown.Records limit = RefusesRecords
RefusesIt (shown.Record index) limit = RefusesRecord index
RefusesIt shown.Types limit = RefusesTypes
RefusesIt shown.Check limit = RefusesCheck
RefusesIt shown.Info limit = RefusesInfoWithin limit
RefusesIt shown.Streams limit = RefusesStreams

-- the command prints this text of what reads gave of this layout
abbrev pub ShowsItRead : Shown → ℕ → Bytes → LayoutView → List ℕ → Type 0
ShowsItRead shown.Records limit = ShowsRecordsRead
ShowsItRead (shown.Record index) limit = ShowsRecordRead index
ShowsItRead shown.Types limit = ShowsTypesRead
ShowsItRead shown.Check limit = ShowsCheckedRead
ShowsItRead shown.Info limit = ShowsInfoRead limit
ShowsItRead shown.Streams limit = ShowsStreamsRead

-- the command refuses what reads gave of this layout with this fault
abbrev pub RefusesItRead : {A : Type 0} → Shown → ℕ → Bytes → LayoutView → RunFault A → Type 0
RefusesItRead shown.Records limit = RefusesRecordsRead
RefusesItRead (shown.Record index) limit = RefusesRecordRead index
RefusesItRead shown.Types limit = RefusesTypesRead
RefusesItRead shown.Check limit = RefusesCheckRead
RefusesItRead shown.Info limit = RefusesInfoRead limit
RefusesItRead shown.Streams limit = RefusesStreamsRead

-- the stream that the command reads whole, if it reads one
abbrev pub stream_of : Shown → Option ℕ
stream_of shown.Records = Some 2
stream_of (shown.Record index) = Some 2
stream_of shown.Types = Some 2
stream_of shown.Check = Some 2
stream_of shown.Info = Some 1
stream_of shown.Streams = None

-- the stream at this position has more bytes than the limit; the greatest number of four bytes is
-- no limit
pub record HasLongStream (limit s : ℕ) (file : List ℕ) : Type 0 where
  pub limited : limit < 2 ^ 32 - 1
  pub layout : LayoutView
  pub has_layout : HasLayout file layout
  pub stream : Listed
  pub is_stream : slice_get layout.streams s ≡ Some stream
  pub long : limit < bytes_of stream.size

-- the stream that the command reads has more bytes than the limit
abbrev pub ReadsTooLong : Shown → ℕ → List ℕ → Type 0
ReadsTooLong command limit file =
    (s : ℕ) × (stream_of command ≡ Some s) × HasLongStream limit s file

-- the command prints this text for this file, and the stream that it reads is within the limit
abbrev pub ShowsWithin : Shown → ℕ → List ℕ → List ℕ → Type 0
ShowsWithin command limit file text =
    (ReadsTooLong command limit file → ⊥) × ShowsIt command limit file text

-- the command refuses this file with this fault: the stream that it reads is longer than the limit,
-- else the command's own
abbrev pub RefusesWithin : {A : Type 0} → Shown → ℕ → List ℕ → RunFault A → Type 0
RefusesWithin command limit file fault =
    ((fault ≡ TooLong) × ReadsTooLong command limit file)
    ⊎ ((ReadsTooLong command limit file → ⊥) × RefusesIt command limit file fault)

-- ---- the same of what reads gave

-- the layout lists more bytes than the limit for the stream that the command reads
abbrev pub ListsTooLong : Shown → ℕ → LayoutView → Type 0
ListsTooLong command limit layout =
    (s : ℕ) × (stream_of command ≡ Some s) × ListsLongStream limit s layout

-- the command prints this text of what reads gave of this layout, and the stream that it reads is
-- within the limit
abbrev pub ShowsWithinRead : Shown → ℕ → Bytes → LayoutView → List ℕ → Type 0
ShowsWithinRead command limit bytes layout text =
    (ListsTooLong command limit layout → ⊥) × ShowsItRead command limit bytes layout text

-- the command refuses what reads gave of this layout with this fault: the stream that it reads is
-- longer than the limit, else the command's own
abbrev pub RefusesWithinRead : {A : Type 0} → Shown → ℕ → Bytes → LayoutView → RunFault A → Type 0
RefusesWithinRead command limit bytes layout fault =
    ((fault ≡ TooLong) × ListsTooLong command limit layout)
    ⊎ ((ListsTooLong command limit layout → ⊥) × RefusesItRead command limit bytes layout fault)

-- ---- an input that is opened

-- the command prints this text for this file, which is within the limit
abbrev pub ShowsOpened : Shown → ℕ → List ℕ → List ℕ → Type 0
ShowsOpened command limit file text =
    (length file ≤ limit) × ShowsBounded limit (ShowsWithin command limit) file text

-- the command refuses this file with this fault: the file is longer than the limit, else it is the
-- command's own; or memory runs out
unfoldable pub RefusesOpened : {A : Type 0} → Shown → ℕ → List ℕ → RunFault A → Type 0
RefusesOpened command limit file fault =
    ((fault ≡ Read reads.TooLong) × (limit < length file))
    ⊎ ((length file ≤ limit)
    × (RefusesBounded limit (RefusesWithin command limit) file fault ⊎ (fault ≡ Memory)))

-- the command prints this text of what reads gave, whose length is within the limit
abbrev pub ShowsGiven : Shown → ℕ → Bytes → List ℕ → Type 0
ShowsGiven command limit bytes text =
    (bytes.told ≤ limit) × IsOfTexts limit (ShowsWithinRead command limit) bytes text

-- the command refuses what reads gave with this fault, in the same order
abbrev pub RefusesGiven : {A : Type 0} → Shown → ℕ → Bytes → RunFault A → Type 0
RefusesGiven command limit bytes fault =
    ((fault ≡ Read reads.TooLong) × (limit < bytes.told))
    ⊎ ((bytes.told ≤ limit)
    × (IsFaultOfTexts limit (RefusesWithinRead command limit) bytes fault ⊎ (fault ≡ Memory)))

-- this text is that of what opening an input gave
unfoldable pub ShowsPart : Shown → ℕ → Outcomes → List ℕ → Type 0
ShowsPart command limit outcomes text =
    (bytes : Bytes) × outcomes.opens bytes × ShowsGiven command limit bytes text

-- this text is that of what reading an input to its end gave
unfoldable pub ShowsWhole : Shown → ℕ → Outcomes → List ℕ → Type 0
ShowsWhole command limit outcomes text =
    (file : List ℕ) × outcomes.gives file × ShowsGiven command limit (stable file) text

-- the input can't be opened, or this is the fault of what opening it gave
unfoldable pub RefusesPart : {A : Type 0} → Shown → ℕ → Outcomes → RunFault A → Type 0
RefusesPart command limit outcomes fault =
    IsUnread outcomes fault
    ⊎ ((bytes : Bytes) × outcomes.opens bytes × RefusesGiven command limit bytes fault)

-- the input can't be read, or this is the fault of what reading it to its end gave
unfoldable pub RefusesWhole : {A : Type 0} → Shown → ℕ → Outcomes → RunFault A → Type 0
RefusesWhole command limit outcomes fault =
    IsUnread outcomes fault
    ⊎ ((file : List ℕ) × outcomes.gives file × RefusesGiven command limit (stable file) fault)

-- this text is that of what opening an input gave; or, where a read of that failed, of the whole
abbrev pub ShowsInput : {F : Type 0} → Shown → ℕ → Outcomes → (F → Bytes) → (F → Bool) → List ℕ
    → Type 0
ShowsInput command limit outcomes bytes_of is_broken text =
    ShowsPart command limit outcomes text
    ⊎ (HasFailed outcomes bytes_of is_broken × ShowsWhole command limit outcomes text)

-- this is the fault of opening an input, or of what that gave; or, where a read of that failed, of
-- the whole
abbrev pub RefusesInput : {F A : Type 0} → Shown → ℕ → Outcomes → (F → Bytes) → (F → Bool)
    → RunFault A → Type 0
RefusesInput command limit outcomes bytes_of is_broken fault =
    RefusesPart command limit outcomes fault
    ⊎ (HasFailed outcomes bytes_of is_broken × RefusesWhole command limit outcomes fault)

-- a sink took a text of which this holds
abbrev pub Printed : (List ℕ → Type 0) → Option (List ℕ) → Option (List ℕ) → Type 0
Printed P before after = (text : List ℕ) × P text × Appends before after text

-- a sink took the first bytes of a text of which this holds, but not all of them
abbrev pub PrintedPart : (List ℕ → Type 0) → Option (List ℕ) → Option (List ℕ) → Type 0
PrintedPart P before after = (text : List ℕ) × P text × AppendsPart before after text
