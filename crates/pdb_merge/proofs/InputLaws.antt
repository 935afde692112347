-- Files that are given by inputs, one after the other.
use Rattle.std.proofs.Common.{◌≡◌, ◌∙◌, ◌<◌, ◌≤◌, ◌+◌, ◌⊎◌, ℕ, List, [], Option, Some, None, length, map, take, get_or, refl, sym, ap, subst, arith, inl, inr}
use Rattle.std.proofs.lemmas.Bool.{cases_lt}
use Rattle.std.specs.Prelude.{Result, Ok, Err, IfOk, OnOk, IfSome, slice_get, option_map}
use Rattle.std.proofs.lemmas.List.{length-map, take_all}
use Rattle.std.proofs.lemmas.Option.{slice_get-map, slice_get_cases, get_or_from_slice_get}
use Rattle.byte_io.specs.At.{Bytes}
use Rattle.byte_io.specs.Inputs.{Give, CanRead, HasBytes}
use Rattle.byte_io.specs.declared.inputs.Opened.{Opened}
use Rattle.byte_io.specs.declared.inputs.InputFault.{InputFault}
use Rattle.byte_io.specs.declared.inputs.InputFault.TheVariants as inputs
use Rattle.byte_io.specs.declared.input.ReadFault.TheVariants as reads
use Rattle.pdb_merge.specs.Fault.{merge_from_input, merge_from_add, AddNamesFault, NamesFault}
use Rattle.pdb_merge.specs.Answer.{RefusesFiles, RefusesReading}
use Rattle.pdb_merge.specs.Union.{AcceptedBelow, IsReadingFault, IsReadingFaultAt, ReadsFirst}
use Rattle.file_types.proofs.ReadLaws.{accepted_unrefused}
use Rattle.pdb_merge.proofs.UnionLaws.{refuses_files}
use Rattle.pdb_merge.specs.declared.fault.AddFault.{AddFault}
use Rattle.pdb_merge.specs.declared.fault.AddFault.TheVariants as add
use Rattle.pdb_merge.specs.declared.fault.MergeFault.{MergeFault}
use Rattle.pdb_merge.specs.declared.fault.MergeFault.TheVariants as merge

-- ---- files that can all be read

-- what is read of an input that gives its file: an input with bytes has those of the file there
pub file_read : (files : List (List ℕ)) (i : ℕ) (entry : Result (List ℕ) InputFault) → slice_get (map Ok files) i ≡ Some entry → (i < length files) × (entry ≡ Ok (get_or files i []))
file_read files i entry is = elim (slice_get_cases files i).1 [
  | inl (bytes, inside, there, at) ↦
      let both : Some entry ≡ Some (Ok bytes) = sym is ∙ slice_get-map Ok files i ∙ ap (option_map Ok) there in
      let same : get_or files i [] ≡ bytes = get_or_from_slice_get files i bytes [] there in
      (inside, cc)
  | inr (past, none) ↦
      let both : Some entry ≡ None = sym is ∙ slice_get-map Ok files i ∙ ap (option_map Ok) none in
      absurd cc
]

-- the input that was read is the file at its position
pub given_file : (known : Option (List (Result (List ℕ) InputFault))) (files : List (List ℕ)) (i : ℕ) (bytes : List ℕ) → Give known files → IfSome known (λ each. slice_get each i ≡ Some (Ok bytes))
    → (i < length files) × (get_or files i [] ≡ bytes)
given_file known files i bytes given is =
    let there = file_read files i (Ok bytes) (rw given at is) in
    let same = there.1 in
    (there.0, cc)

-- this is why an input is not read: its own fault, or it is out of memory
abbrev pub IsUnread : Option (List (Result (List ℕ) InputFault)) → ℕ → InputFault → Type 0
IsUnread known i fault = IfSome known (λ each. (slice_get each i ≡ Some (Err fault)) ⊎ (fault ≡ inputs.Read reads.Memory))

-- an input that was only checked has a fault of its own
pub is_unread : (known : Option (List (Result (List ℕ) InputFault))) (i : ℕ) (fault : InputFault) → IfSome known (λ each. slice_get each i ≡ Some (Err fault)) → IsUnread known i fault
is_unread None i fault is = tt
is_unread (Some each) i fault is = inl is

-- inputs that give files are not read only when out of memory
pub given_unread : {A : Type 0} (known : Option (List (Result (List ℕ) InputFault))) (files : List (List ℕ)) (i : ℕ) (inner : InputFault) (outer : MergeFault A) → Give known files
    → IsUnread known i inner → outer ≡ merge_from_input i inner → outer ≡ merge.Memory
given_unread known files i inner outer given is made = elim (rw given at is) [
  | inl there ↦ let bad = (file_read files i (Err inner) there).1 in absurd cc
  | inr memory ↦ rw (made, memory) refl
]

-- ---- reading comes first

-- the bytes of an input that is read
pub some_bytes : (known : Option (List (Result (List ℕ) InputFault))) (i : ℕ) (bytes : List ℕ) → IfSome known (λ each. slice_get each i ≡ Some (Ok bytes)) → IfSome known (λ each. (b : List ℕ) × (slice_get each i ≡ Some (Ok b)))
some_bytes None i bytes is = tt
some_bytes (Some each) i bytes is = (bytes, is)

-- one more input is read
pub more_read : (known : Option (List (Result (List ℕ) InputFault))) (i : ℕ) → IfSome known (λ each. CanRead each i) → IfSome known (λ each. (bytes : List ℕ) × (slice_get each i ≡ Some (Ok bytes)))
    → IfSome known (λ each. CanRead each (i + 1))
more_read None i before now = tt
more_read (Some each) i before now = λ k below. elim (cases_lt k i) [
  | inl lt ↦ before k lt
  | inr le ↦ let same : i ≡ k = omega (arith, below, le) in subst (λ (n : ℕ). (bytes : List ℕ) × (slice_get each n ≡ Some (Ok bytes))) same now
]

-- where no input is left, every input is read
pub every_read : (known : Option (List (Result (List ℕ) InputFault))) (i end : ℕ) → IfSome known (λ each. CanRead each i) → IfSome known (λ each. end ≡ length each) → end ≤ i
    → IfSome known (λ each. CanRead each (length each))
every_read None i end before count past = tt
every_read (Some each) i end before count past = λ k below. before k (omega (arith, below, count, past))

-- the fault of an input that is not read, where those before it are
pub unread_first : {A : Type 0} (known : Option (List (Result (List ℕ) InputFault))) (i : ℕ) (inner : InputFault) (outer : MergeFault A) → IfSome known (λ each. CanRead each i)
    → IsUnread known i inner → outer ≡ merge_from_input i inner → IfSome known (λ each. ReadsFirst each outer)
unread_first None i inner outer before is made = tt
unread_first (Some each) i inputs.Open outer before (inl is) made = rw made (before, is)
unread_first (Some each) i (inputs.Read reads.Read) outer before (inl is) made = rw made (before, is)
unread_first (Some each) i (inputs.Read reads.TooLong) outer before (inl is) made = rw made (before, is)
unread_first (Some each) i (inputs.Read reads.Memory) outer before is made = rw made tt
unread_first (Some each) i inputs.Open outer before (inr is) made = absurd cc
unread_first (Some each) i (inputs.Read reads.Read) outer before (inr is) made = absurd cc
unread_first (Some each) i (inputs.Read reads.TooLong) outer before (inr is) made = absurd cc

-- the fault of a file, where all are read
pub refused_last : {A : Type 0} (known : Option (List (Result (List ℕ) InputFault))) (i : ℕ) (inner : AddFault A) (outer : MergeFault A) → IfSome known (λ each. CanRead each (length each)) → outer ≡ merge_from_add i inner
    → IfSome known (λ each. ReadsFirst each outer)
refused_last None i inner outer all made = tt
refused_last (Some each) i (add.Refused fault) outer all made = rw made all
refused_last (Some each) i (add.TooLarge bytes) outer all made = rw made all
refused_last (Some each) i add.Memory outer all made = rw made tt

-- ---- out of memory is never inside another fault

-- nor inside a fault of reading
pub input_named : {A : Type 0} (file : ℕ) (inner : InputFault) (outer : MergeFault A) → outer ≡ merge_from_input file inner → NamesFault outer
input_named file inputs.Open outer made = rw made (λ is. cc)
input_named file (inputs.Read reads.Read) outer made = rw made (λ is. cc)
input_named file (inputs.Read reads.TooLong) outer made = rw made (λ is. cc)
input_named file (inputs.Read reads.Memory) outer made = rw made tt

-- nor inside a fault of a file
pub add_named : {A : Type 0} (file : ℕ) (inner : AddFault A) (outer : MergeFault A) → AddNamesFault inner → outer ≡ merge_from_add file inner → NamesFault outer
add_named file (add.Refused fault) outer named made = rw made named
add_named file (add.TooLarge bytes) outer named made = rw made tt
add_named file add.Memory outer named made = rw made tt

-- ---- inputs that were opened

-- an input that was opened is the file at its position
pub opened_file : {F : Type 0} (known : Option (List (Result (List ℕ) InputFault))) (files : List (List ℕ)) (i : ℕ) (bytes : F → Bytes) (opened : Opened F) → Give known files
    → IfSome known (λ each. (b : List ℕ) × (slice_get each i ≡ Some (Ok b)) × HasBytes bytes opened b) → (i < length files) × HasBytes bytes opened (get_or files i [])
opened_file known files i bytes opened given is =
    let here = rw given at is in
    let there = file_read files i (Ok here.0) here.1 in
    let same : get_or files i [] ≡ here.0 = let e = there.1 in cc in
    (there.0, rw same here.2)

-- it can be read
pub opened_read : {F : Type 0} (known : Option (List (Result (List ℕ) InputFault))) (i : ℕ) (bytes : F → Bytes) (opened : Opened F)
    → IfSome known (λ each. (b : List ℕ) × (slice_get each i ≡ Some (Ok b)) × HasBytes bytes opened b) → IfSome known (λ each. (b : List ℕ) × (slice_get each i ≡ Some (Ok b)))
opened_read None i bytes opened is = tt
opened_read (Some each) i bytes opened is = (is.0, is.1)

-- what holds of each value holds where there is one
pub on_ok : {T E : Type 0} (P : Type 0) (answer : Result T E) → IfOk answer (λ _. P) → OnOk answer P
on_ok P (Ok done) is = is
on_ok P (Err fault) is = tt

-- ---- files that are refused

-- the fault of an input that is not read, where those before it are, refuses the files, whatever the limit is
pub unread_refuses : {A : Type 0} (known : Option (List (Result (List ℕ) InputFault))) (i limit : ℕ) (inner : InputFault) (outer : MergeFault A) → IfSome known (λ each. CanRead each i)
    → IsUnread known i inner → outer ≡ merge_from_input i inner → RefusesFiles known limit outer
unread_refuses known i limit inner outer before is made =
    let memory : (given : List (List ℕ)) → Give known given → outer ≡ merge.Memory = λ given gives. given_unread known given i inner outer gives is made in
    refuses_files known limit outer (λ given gives. rw (memory given gives) tt) (unread_first known i inner outer before is made) (input_named i inner outer made) (λ given gives can. memory given gives)

-- ---- inputs whose types are not read

-- where every file is accepted, only out of memory stops the reading
reading_alone : {A : Type 0} (files : List (List ℕ)) (fault : MergeFault A) → IsReadingFault files fault → AcceptedBelow files (length files) → fault ≡ merge.Memory
reading_alone files (merge.Input file inner) stops accepted = absurd stops
reading_alone files (merge.Refused file inner) (inside, below, refused) accepted =
    let has = accepted file inside in
    absurd (accepted_unrefused (get_or files file []) has.0 inner has.1 refused)
reading_alone files (merge.TooLarge file heavy) stops accepted = absurd stops
reading_alone files merge.Memory stops accepted = refl

-- the first fault of the files refuses reading, where reading comes first
refuses_reading : {A : Type 0} (known : Option (List (Result (List ℕ) InputFault))) (fault : MergeFault A) → ((given : List (List ℕ)) → Give known given → IsReadingFault given fault)
    → IfSome known (λ each. ReadsFirst each fault) → NamesFault fault → RefusesReading known fault
refuses_reading known fault first reads named = record {
  first = first;
  reads = reads;
  named = named;
  found = λ given gives accepted. reading_alone given fault (first given gives) accepted;
}

-- an input within the inputs is within the files that they give
pub given_inside : (known : Option (List (Result (List ℕ) InputFault))) (files : List (List ℕ)) (i : ℕ) → Give known files → IfSome known (λ each. i < length each) → i < length files
given_inside known files i given inside = rw length-map at (rw given at inside)

-- past the last input there is no other file
pub take_given : (known : Option (List (Result (List ℕ) InputFault))) (files : List (List ℕ)) (i end : ℕ) → Give known files → IfSome known (λ each. end ≡ length each) → end ≤ i → take i files ≡ files
take_given known files i end given count past =
    let long : end ≡ length files = rw length-map at (rw given at count) in
    take_all i files (omega (arith, long, past))

-- a fault at a position is the first one, where the files before it are accepted
stops_there : {A : Type 0} (files : List (List ℕ)) (i : ℕ) (fault : MergeFault A) → i < length files → AcceptedBelow files i → IsReadingFaultAt files i fault → IsReadingFault files fault
stops_there files i (merge.Refused file inner) inside below (is, refused) = rw is (inside, below, refused)
stops_there files i merge.Memory inside below at = tt
stops_there files i fault inside below at = absurd at

-- it refuses reading
pub at_refuses_reading : {A : Type 0} (known : Option (List (Result (List ℕ) InputFault))) (i : ℕ) (fault : MergeFault A) → IfSome known (λ each. i < length each) → IfSome known (λ each. ReadsFirst each fault) → NamesFault fault
    → ((given : List (List ℕ)) → Give known given → AcceptedBelow given i) → ((given : List (List ℕ)) → Give known given → IsReadingFaultAt given i fault) → RefusesReading known fault
at_refuses_reading known i fault inside reads named below at =
    refuses_reading known fault (λ given gives. stops_there given i fault (given_inside known given i gives inside) (below given gives) (at given gives)) reads named
