-- How a call on several files answers: the files are accepted, or they are refused with a fault.
use Rattle.std.specs.Prelude.{ℕ, ◌≡◌, ◌≢◌, Bool, true, List, Option, Result, length, IfSome, IfOk, OnOk, IfErr}
use Rattle.byte_io.specs.Inputs.{Give, CanRead}
use Rattle.byte_io.specs.declared.inputs.InputFault.{InputFault}
use Rattle.pdb_merge.specs.Fault.{NamesFault}
use Rattle.pdb_merge.specs.Union.{AcceptedBelow, SameFiles, CanMerge, IsMergeFault, IsReadingFault, ReadsFirst}
use Rattle.pdb_merge.specs.declared.fault.MergeFault.{MergeFault}
use Rattle.pdb_merge.specs.declared.fault.MergeFault.TheVariants as merge
use Rattle.pdb_merge.specs.declared.fault.OutFault.{OutFault}
use Rattle.pdb_merge.specs.declared.fault.OutFault.TheVariants as out
use Rattle.pdb_merge.specs.declared.summary.Summary.{Summary}

-- the files of the inputs were accepted
pub record AcceptsFiles (known : Option (List (Result (List ℕ) InputFault))) (limit : ℕ) : Type 0
  where
    -- every file was read
    pub read : IfSome known (λ each. CanRead each (length each))
    -- they can be merged
    pub can : (given : List (List ℕ)) → Give known given → CanMerge given limit

-- the files of the inputs were refused with this fault
pub record RefusesFiles {A : Type 0} (known : Option (List (Result (List ℕ) InputFault)))
    (limit : ℕ) (fault : MergeFault A) : Type 0 where
  -- it is the first fault of the files
  pub first : (given : List (List ℕ)) → Give known given → IsMergeFault given limit fault
  -- reading comes first: every file was read, or the fault is that of the first unread file
  pub reads : IfSome known (λ each. ReadsFirst each fault)
  -- out of memory is always `Memory`, whatever is known of the inputs
  pub named : NamesFault fault
  -- files that can be merged are refused only when out of memory
  pub found : (given : List (List ℕ)) → Give known given → CanMerge given limit
      → fault ≡ merge.Memory
  -- files that are refused in one order are refused in any order
  pub any_order : (given : List (List ℕ)) → Give known given → fault ≢ merge.Memory
      → (others : List (List ℕ)) → SameFiles given others → CanMerge others limit → ⊥

-- the types of the inputs were not read, because of this fault
pub record RefusesReading {A : Type 0} (known : Option (List (Result (List ℕ) InputFault)))
    (fault : MergeFault A) : Type 0 where
  -- it is the first fault of the files
  pub first : (given : List (List ℕ)) → Give known given → IsReadingFault given fault
  -- reading comes first: every file was read, or the fault is that of the first unread file
  pub reads : IfSome known (λ each. ReadsFirst each fault)
  -- out of memory is always `Memory`, whatever is known of the inputs
  pub named : NamesFault fault
  -- files that are accepted are refused only when out of memory
  pub found : (given : List (List ℕ)) → Give known given → AcceptedBelow given (length given)
      → fault ≡ merge.Memory

-- what a merge wrote: the bytes of its sink before and after, and the summary of the file
abbrev pub Writes : Type 1
Writes = Option (List ℕ) → Option (List ℕ) → Summary → Type 0

-- what a merge wrote before its sink broke: the bytes of the sink before and after
abbrev pub WritesPart : Type 1
WritesPart = Option (List ℕ) → Option (List ℕ) → Type 0

-- how a call that merges files into a sink answers: `wrote` says what it wrote for which files, and
-- `part` what it wrote of that before the sink broke
pub record MergesTo {A W : Type 0} (known : Option (List (Result (List ℕ) InputFault)))
    (limit : ℕ) (wrote : List (List ℕ) → Writes) (part : List (List ℕ) → WritesPart)
    (taken : W → Option (List ℕ)) (is_broken : W → Bool) (before after : W)
    (result : Result Summary (OutFault A)) : Type 0 where
  pub value : (given : List (List ℕ)) → Give known given →
      IfOk result (wrote given (taken before) (taken after))
  pub accepts : OnOk result (AcceptsFiles known limit)
  pub refuses : IfErr result (λ fault. (inner : MergeFault A) → fault ≡ out.Merge inner →
      RefusesFiles known limit inner)
  -- a fault of writing comes only after every file was read, and where all of them can be merged
  pub late : IfErr result (λ fault. ((inner : MergeFault A) → fault ≢ out.Merge inner) →
      AcceptsFiles known limit)
  pub broken : IfErr result (λ fault. fault ≡ out.Write → is_broken after ≡ true)
  pub write : (given : List (List ℕ)) → Give known given →
      IfErr result (λ fault. fault ≡ out.Write → part given (taken before) (taken after))
  pub untouched : IfErr result (λ fault. fault ≢ out.Write → after ≡ before)
