-- Bytes that are read by position, of a file that may be known.
use Rattle.std.specs.Prelude.{ℕ, ◌≡◌, ◌⊎◌, ◌+◌, ◌<◌, ◌≤◌, ◌==◌, Bool, true, List, ◌++◌, length, take, drop, get_or, Option, Some, None, Result, IfErr, IfNone}
use Rattle.byte_io.specs.declared.at.AtFault.{AtFault}
use Rattle.byte_io.specs.declared.at.AtFault.TheVariants as at
use Rattle.byte_io.specs.declared.input.ReadFault.{ReadFault}
use Rattle.byte_io.specs.declared.input.ReadFault.TheVariants as reads

-- what is known of bytes that are read by position
pub record Bytes : Type 0 where
  -- all of them, where they are known
  pub known : Option (List ℕ)
  -- how many there are said to be
  pub told : ℕ
  -- whether a read may give this byte at this offset: if the bytes change, reads may give several
  pub gives : ℕ → ℕ → Bool

-- a list of bytes that are known, and do not change
abbrev pub stable : List ℕ → Bytes
stable file =
    record {
      known = Some file;
      told = length file;
      gives = λ offset byte. get_or file offset 256 == byte;
    }

-- this holds of the bytes, where they are known
abbrev pub IfKnown : Bytes → (List ℕ → Type 0) → Type 0
IfKnown bytes P = (file : List ℕ) → bytes ≡ stable file → P file

-- this many bytes of which nothing is known: a read may give any byte at any offset
abbrev pub unknown : ℕ → Bytes
unknown told = record { known = None; told = told; gives = λ _ _. true }

-- reads gave these bytes, from this offset on
abbrev pub AreGiven : Bytes → ℕ → List ℕ → Type 0
AreGiven bytes offset text =
    (i : ℕ) → i < length text → bytes.gives (offset + i) (get_or text i 0) ≡ true

-- the buffer has the bytes that it had, and after them bytes that reads gave from this offset on
abbrev pub GivesBehind : Bytes → ℕ → List ℕ → List ℕ → Type 0
GivesBehind bytes offset before after =
    (more : List ℕ) × (after ≡ before ++ more) × AreGiven bytes offset more

-- these bytes are in the file from this offset on
pub record StandsAt (file : List ℕ) (offset : ℕ) (bytes : List ℕ) : Type 0 where
  pub inside : offset + length bytes ≤ length file
  pub is : bytes ≡ take (length bytes) (drop offset file)

-- how a call that reads by position leaves its reader: the same is known of its bytes, and after a
-- read that failed it is broken
pub record Reads {R T F : Type 0} (bytes : R → Bytes) (is_broken : R → Bool) (before after : R)
    (result : Result T (AtFault F)) : Type 0 where
  pub keeps : bytes after ≡ bytes before
  pub read : IfErr result (λ fault. fault ≡ at.Read → is_broken after ≡ true)

-- the same of a call that answers nothing after a read that failed
pub record ReadsOrNone {R T : Type 0} (bytes : R → Bytes) (is_broken : R → Bool)
    (before after : R) (result : Option T) : Type 0 where
  pub keeps : bytes after ≡ bytes before
  pub read : IfNone result (is_broken after ≡ true)

-- the same of a call that reads into a buffer, for which it may be out of memory
pub record ReadsInto {R T : Type 0} (bytes : R → Bytes) (is_broken : R → Bool)
    (before after : R) (result : Result T ReadFault) : Type 0 where
  pub keeps : bytes after ≡ bytes before
  pub read : IfErr result
      (λ fault. ((fault ≡ reads.Read) × (is_broken after ≡ true)) ⊎ (fault ≡ reads.Memory))

-- if the fault is one of what was read, P holds of it
abbrev pub IfOf : {F : Type 0} → (F → Type 0) → AtFault F → Type 0
IfOf P at.Read = Unit {0}
IfOf P (at.Of fault) = P fault

-- a read that failed as well, or a fault of what was read that is made of this one
abbrev pub WidensTo : {F G : Type 0} → (F → G → Type 0) → AtFault F → AtFault G → Type 0
WidensTo gives at.Read wide = wide ≡ at.Read
WidensTo {G = G} gives (at.Of fault) wide = (other : G) × gives fault other × (wide ≡ at.Of other)
