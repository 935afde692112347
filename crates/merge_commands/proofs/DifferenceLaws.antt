-- The difference of two inputs: what its text tells, and why they are refused.
use Rattle.std.proofs.Common.{◌≡◌, ◌+◌, ◌↔◌, ◌==◌, ℕ, Bool, IsTrue, List, [], ◌∷◌, length, get_or, refl, sym, ap, ◌∙◌, subst, arith, inl, inr}
use Rattle.std.proofs.lemmas.Bool.{eqb-true, eq-eqb}
use Rattle.std.proofs.lemmas.List.{nil_from_length}
use Rattle.std.specs.Prelude.{◌≢◌, Option, Some, None, Result, IfSome}
use Rattle.byte_io.specs.Inputs.{Give, CanRead}
use Rattle.byte_io.specs.declared.inputs.InputFault.{InputFault}
use Rattle.type_trees.specs.Tree.{Tree, IsType}
use Rattle.type_trees.specs.Types.{AreTypes}
use Rattle.pdb_merge.specs.Answer.{RefusesReading}
use Rattle.pdb_merge.specs.Fault.{NamesFault}
use Rattle.file_types.specs.Read.{IsAccepted}
use Rattle.pdb_merge.specs.Union.{HasType, SameTypes, AcceptedBelow}
use Rattle.pdb_merge.specs.declared.fault.MergeFault.{MergeFault}
use Rattle.pdb_merge.specs.declared.fault.MergeFault.TheVariants as merges
use Rattle.pdb_merge.specs.declared.fault.OutFault.TheVariants as outs
use Rattle.file_types.proofs.ReadLaws.{one_list}
use Rattle.pdb_merge.proofs.FileLaws.{one_merged_file, merged_files_differ}
use Rattle.pdb_merge.proofs.UnionLaws.{types_of_first, accepted_more, none_accepted}
use Rattle.output_lines.specs.Difference.{ShowsDifference}
use Rattle.run_options.specs.declared.scope.Scope.{Scope}
use Rattle.output_lines.proofs.DifferenceLaws.{empty_same}
use Rattle.merge_commands.specs.Difference.{TellsApart, ShowsInputs}
use Rattle.show_commands.specs.Fault.{run_from_merge}
use Rattle.merge_commands.specs.Merge.{IsOfMerging}
use Rattle.show_commands.specs.declared.fault.RunFault.TheVariants.{Merge, Write}
use Rattle.merge_commands.proofs.MergeLaws.{merge_inside, of_merging}

-- ---- what the text tells of two files

-- the types of a list of one file are those of its records
types_of_file : (file : List ℕ) (records : List (List ℕ)) → IsAccepted file records → (t : Tree) → HasType (file ∷ []) t ↔ IsType records t
types_of_file file records accepted t =
    let first = types_of_first file [] t in (
      λ has. elim (first.0 has) [
        | inl here ↦ subst (λ (rs : List (List ℕ)). IsType rs t) (one_list file here.0 records here.1 accepted) here.2
        | inr none ↦ absurd (omega (arith, none.1))
      ],
      λ has. first.1 (inl (records, accepted, has)),
    )

-- two files have the same types exactly if their records do
same_types_of_files : (one other : List ℕ) (records others : List (List ℕ)) → IsAccepted one records → IsAccepted other others
    → ((t : Tree) → IsType records t ↔ IsType others t) ↔ SameTypes (one ∷ []) (other ∷ [])
same_types_of_files one other records others accepted other_accepted =
    let ours = types_of_file one records accepted in
    let theirs = types_of_file other others other_accepted in (
      λ same t. (λ has. (theirs t).1 ((same t).0 ((ours t).0 has)), λ has. (ours t).1 ((same t).1 ((theirs t).0 has))),
      λ same t. (λ has. (theirs t).0 ((same t).0 ((ours t).1 has)), λ has. (ours t).0 ((same t).1 ((theirs t).1 has))),
    )

-- a text that is empty exactly if the records have the same types tells the files apart
tells_apart : (one other text : List ℕ) (records others : List (List ℕ)) → IsAccepted one records → IsAccepted other others
    → (text ≡ []) ↔ ((t : Tree) → IsType records t ↔ IsType others t) → TellsApart one other text
tells_apart one other text records others accepted other_accepted empty =
    let files = same_types_of_files one other records others accepted other_accepted in record {
      types = (λ none. files.0 (empty.0 none), λ same. empty.1 (files.1 same));
      merges = λ settings merged other_merged are within other_within is_merged is_other. (
        λ none. one_merged_file (one ∷ []) (other ∷ []) settings settings merged other_merged refl refl refl (files.0 (empty.0 none)) is_merged is_other,
        λ equal. empty.1 (files.1 (merged_files_differ settings settings are are (one ∷ []) (other ∷ []) merged within other_within is_merged (rw equal is_other))),
      );
    }

-- the difference of the types of two inputs
pub shows_inputs : (scope : Scope) (known : Option (List (Result (List ℕ) InputFault))) (records others : List (List ℕ)) (text : List ℕ) → AreTypes records → AreTypes others
    → ((files : List (List ℕ)) → Give known files → IsAccepted (get_or files 0 []) records) → ((files : List (List ℕ)) → Give known files → IsAccepted (get_or files 1 []) others)
    → ShowsDifference scope records others text → ShowsInputs scope known text
shows_inputs scope known records others text types other_types accepted other_accepted shows =
    let empty = empty_same scope records others text types other_types shows in record {
      records = records;
      others = others;
      are_types = types;
      others_are_types = other_types;
      shows = shows;
      empty = empty;
      accepted = λ one other gives. accepted (one ∷ other ∷ []) gives;
      other_accepted = λ one other gives. other_accepted (one ∷ other ∷ []) gives;
      apart = λ one other gives. tells_apart one other text records others (accepted (one ∷ other ∷ []) gives) (other_accepted (one ∷ other ∷ []) gives) empty;
    }

-- a text is told to be empty exactly if it is
pub empty_text : (text : List ℕ) (empty : Bool) (len : ℕ) → empty ≡ (len == 0) → length text ≡ len → IsTrue empty ↔ (text ≡ [])
empty_text text empty len said long = (
  λ told. nil_from_length text (long ∙ eqb-true len 0 (sym said ∙ told)),
  λ none. said ∙ eq-eqb len 0 (sym long ∙ ap length none),
)

-- ---- two inputs

-- all inputs are read, if two are
pub both_read : (known : Option (List (Result (List ℕ) InputFault))) → IfSome known (λ each. length each ≡ 2) → IfSome known (λ each. CanRead each (1 + 1)) → IfSome known (λ each. CanRead each (length each))
both_read None two can = tt
both_read (Some each) two can = λ i below. can i (omega (arith, below, two))

-- where the first input is accepted, those before the second are
pub one_accepted_before : (known : Option (List (Result (List ℕ) InputFault))) (records : List (List ℕ)) → ((files : List (List ℕ)) → Give known files → IsAccepted (get_or files 0 []) records)
    → (files : List (List ℕ)) → Give known files → AcceptedBelow files 1
one_accepted_before known records accepted files gives = accepted_more files 0 records (accepted files gives) (none_accepted files)

-- ---- faults

-- where the command has a fault of merging, reading the types had this fault
reading_inside : {A : Type 0} (fault inner : MergeFault A) → run_from_merge fault ≡ Merge inner → fault ≡ inner
reading_inside fault inner is =
    let same = merge_inside (outs.Merge fault) inner is in
    cc

-- so the inputs are refused with it
pub refuses_inside : {A : Type 0} (known : Option (List (Result (List ℕ) InputFault))) (fault inner : MergeFault A) → RefusesReading known fault → run_from_merge fault ≡ Merge inner → RefusesReading known inner
refuses_inside {A = A} known fault inner refuses is = subst (λ (f : MergeFault A). RefusesReading known f) (reading_inside fault inner is) refuses

named_inside : {A : Type 0} (fault inner : MergeFault A) → NamesFault fault → outs.Merge fault ≡ outs.Merge inner → NamesFault inner
named_inside {A = A} fault inner named is =
    let same : fault ≡ inner = cc in
    subst (λ (f : MergeFault A). NamesFault f) same named

merge_not_write : {A : Type 0} (fault : MergeFault A) → run_from_merge fault ≢ Write
merge_not_write (merges.Input file unread) is = cc
merge_not_write (merges.Refused file refused) is = cc
merge_not_write (merges.TooLarge file bytes) is = cc
merge_not_write merges.Memory is = cc

-- a fault of reading the types is one that the command can have, and it isn't that of writing
pub of_reading : {A : Type 0} (fault : MergeFault A) → NamesFault fault → IsOfMerging (run_from_merge fault) × (run_from_merge fault ≢ Write)
of_reading fault named = (of_merging (outs.Merge fault) (λ inner is. named_inside fault inner named is), merge_not_write fault)
