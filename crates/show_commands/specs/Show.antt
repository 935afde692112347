-- How a command that shows a file answers: it reads the whole file, makes a text from it and prints
-- the text, or is refused.
use Rattle.std.specs.Prelude.{ℕ, ◌≡◌, ◌<◌, ◌≤◌, ◌⊎◌, Bool, true, List, length, take, Option, Some, Result, OnOk, IfErr}
use Rattle.std.specs.Io.KnownBytes.{Appends}
use Rattle.byte_fields.specs.Bytes.{AreBytes}
use Rattle.byte_fields.specs.Check.{first_failing}
use Rattle.byte_io.specs.At.{Bytes, stable}
use Rattle.byte_io.specs.Input.{GivesAll, IsNotRead, HasGiven}
use Rattle.byte_io.specs.declared.input.ReadFault.{ReadFault}
use Rattle.byte_io.specs.Inputs.{Outcomes, is_opened_broken, opened_bytes}
use Rattle.byte_io.specs.declared.inputs.Opened.{Opened}
use Rattle.byte_io.specs.declared.inputs.InputFault.{InputFault}
use Rattle.msf_blocks.specs.Layout.{LayoutView, GivesLongDirectory, HasLayout, HasLongDirectory, HasTexts, layout_checks}
use Rattle.msf_superblock.specs.declared.fault.MsfFault.{MsfFault}
use Rattle.file_types.specs.declared.fault.PdbFault.TheVariants.{Msf}
use Rattle.show_commands.specs.Fault.{run_from_input}
use Rattle.show_commands.specs.Streams.{RefusesLayout}
use Rattle.show_commands.specs.declared.fault.RunFault.{RunFault}
use Rattle.show_commands.specs.declared.fault.RunFault.TheVariants.{Open, Read, TooLong, Pdb, Memory, Write}

-- the source gave a file, and the sink took the text that shows it
abbrev pub Prints : (List ℕ → List ℕ → Type 0) → ℕ → Option (List ℕ) → Option (List ℕ)
    → Option (List ℕ) → Option (List ℕ) → Type 0
Prints Shows limit left_before left_after taken_before taken_after =
    (file : List ℕ) × (text : List ℕ) × GivesAll left_before left_after limit file × Shows file text
    × Appends taken_before taken_after text

-- the source gave a file, and the sink took the first bytes of the text that shows it, but not all
-- of them
abbrev pub PrintsPart : (List ℕ → List ℕ → Type 0) → ℕ → Option (List ℕ) → Option (List ℕ)
    → Option (List ℕ) → Option (List ℕ) → Type 0
PrintsPart Shows limit left_before left_after taken_before taken_after =
    (file : List ℕ) × (text : List ℕ) × (count : ℕ) × GivesAll left_before left_after limit file
    × Shows file text × (count < length text) × Appends taken_before taken_after (take count text)

-- the source gave a file that is refused with this fault
abbrev pub GivesRefused : {A : Type 0} → (List ℕ → RunFault A → Type 0) → ℕ → Option (List ℕ)
    → Option (List ℕ) → RunFault A → Type 0
GivesRefused Refuses limit left_before left_after fault =
    (file : List ℕ) × GivesAll left_before left_after limit file × Refuses file fault

-- if the fault is one of reading, P holds of it
abbrev pub IfRead : {A : Type 0} → (ReadFault → Type 0) → RunFault A → Type 0
IfRead P (Read fault) = P fault
IfRead P _ = Unit {0}

-- if the fault is one of the file, P holds of it
abbrev pub IfOfFile : {A : Type 0} → (RunFault A → Type 0) → RunFault A → Type 0
IfOfFile P Open = Unit {0}
IfOfFile P (Read fault) = Unit {0}
IfOfFile P Memory = Unit {0}
IfOfFile P Write = Unit {0}
IfOfFile P fault = P fault

-- a fault that making the text can have
abbrev pub IsOfText : {A : Type 0} → RunFault A → Type 0
IsOfText Open = ⊥
IsOfText (Read fault) = ⊥
IsOfText Write = ⊥
IsOfText _ = Unit {0}

-- how a command that shows a file answers: it prints the text that shows the file, or it is refused
-- by reading or by the file's first fault.
-- Memory runs out only if at most `limit` bytes came. A sink that breaks took the first bytes of
-- the text. After any other refusal the sink is as it was
pub record Answers {A W T : Type 0} (Shows : List ℕ → List ℕ → Type 0)
    (Refuses : List ℕ → RunFault A → Type 0) (limit : ℕ) (left_before left_after : Option (List ℕ))
    (source_broken : Bool) (taken : W → Option (List ℕ)) (is_broken : W → Bool) (before after : W)
    (result : Result T (RunFault A)) : Type 0 where
  pub value : OnOk result (Prints Shows limit left_before left_after (taken before) (taken after))
  pub read : IfErr result (IfRead (IsNotRead left_before left_after source_broken limit))
  pub first : IfErr result (IfOfFile (GivesRefused Refuses limit left_before left_after))
  pub memory : IfErr result (λ fault. fault ≡ Memory → HasGiven left_before left_after limit)
  pub write : IfErr result (λ fault. fault ≡ Write → (is_broken after ≡ true)
      × PrintsPart Shows limit left_before left_after (taken before) (taken after))
  pub untouched : IfErr result (λ fault. (fault ≡ Write) ⊎ (after ≡ before))

-- ---- a file whose directory is held against a limit

-- the directory is within the limit, and `Shows` holds
abbrev pub ShowsBounded : ℕ → (List ℕ → List ℕ → Type 0) → List ℕ → List ℕ → Type 0
ShowsBounded limit Shows file text = (HasLongDirectory limit file → ⊥) × Shows file text

-- the directory is longer than the limit, else `Refuses` holds
abbrev pub RefusesBounded : {A : Type 0} → ℕ → (List ℕ → RunFault A → Type 0) → List ℕ → RunFault A
    → Type 0
RefusesBounded limit Refuses file fault =
    ((fault ≡ TooLong) × HasLongDirectory limit file)
    ⊎ ((HasLongDirectory limit file → ⊥) × Refuses file fault)

-- ---- a file that is read by position

-- reads gave a layout whose directory is within the limit, and this is the text of what they gave
abbrev pub IsOfTexts : ℕ → (Bytes → LayoutView → List ℕ → Type 0) → Bytes → List ℕ → Type 0
IsOfTexts limit ShowsRead bytes text =
    (layout : LayoutView) × HasTexts bytes layout
    × (layout.superblock.directory_bytes ≤ limit) × ShowsRead bytes layout text

-- what reads gave has this fault: the directory is longer than the limit; or the layout has it; or
-- reads gave a layout without a fault, and what the command reads of it has it
abbrev pub IsFaultOfTexts : {A : Type 0} → ℕ → (Bytes → LayoutView → RunFault A → Type 0) → Bytes
    → RunFault A → Type 0
IsFaultOfTexts limit RefusesRead bytes fault =
    ((fault ≡ TooLong) × GivesLongDirectory limit bytes)
    ⊎ (RefusesLayout bytes fault
    ⊎ ((layout : LayoutView) × HasTexts bytes layout × RefusesRead bytes layout fault))

-- ---- what each command has to show

-- of a file that is known, the text of what reads gave is the text that shows the file
abbrev pub ShowsKnown : (List ℕ → List ℕ → Type 0) → (Bytes → LayoutView → List ℕ → Type 0) → Type 0
ShowsKnown Shows ShowsRead =
    (file : List ℕ) (layout : LayoutView) (text : List ℕ) → AreBytes file → HasLayout file layout
    → ShowsRead (stable file) layout text → Shows file text

-- of a file that is known, the fault of what reads gave is the fault of the file
abbrev pub RefusesKnown : {A : Type 0} → (List ℕ → RunFault A → Type 0)
    → (Bytes → LayoutView → RunFault A → Type 0) → Type 0
RefusesKnown {A = A} Refuses RefusesRead =
    (file : List ℕ) (layout : LayoutView) (fault : RunFault A) → AreBytes file
    → HasLayout file layout → RefusesRead (stable file) layout fault → Refuses file fault

-- the first fault of its container is the fault of the file
abbrev pub RefusesUnlaid : {A : Type 0} → (List ℕ → RunFault A → Type 0) → Type 0
RefusesUnlaid Refuses =
    (file : List ℕ) (fault : MsfFault) → AreBytes file
    → first_failing (layout_checks file) ≡ Some fault → Refuses file (Pdb (Msf fault))

-- ---- an input that is opened

-- the input was opened, and a read of it failed
abbrev pub HasFailed : {F : Type 0} → Outcomes → (F → Bytes) → (F → Bool) → Type 0
HasFailed {F = F} outcomes bytes is_broken =
    (opened : Opened F) × outcomes.opens (opened_bytes bytes opened)
    × (is_opened_broken is_broken opened ≡ true)

-- the input was refused with this fault as it was opened or read
abbrev pub IsUnread : {A : Type 0} → Outcomes → RunFault A → Type 0
IsUnread outcomes fault =
    (inner : InputFault) × outcomes.refuses inner × (fault ≡ run_from_input inner)
