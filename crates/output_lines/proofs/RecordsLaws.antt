-- The lines of records, one after the other.
use Rattle.std.proofs.Common.{◌≡◌, ℕ, ◌+◌, List, [], ◌∷◌, ◌++◌, sym, ◌∙◌, append_assoc}
use Rattle.std.proofs.lemmas.List.{append-nil}
use Rattle.std.specs.List.{AllByRecursion}
use Rattle.tpi_records.specs.Records.{IsRecord}
use Rattle.output_lines.specs.Records.{record_line, record_lines}

-- one line more
pub lines_more : (text new : List ℕ) (index : ℕ) (bytes : List ℕ) (left others : List (List ℕ)) (all : List ℕ) → text ++ record_lines index left ≡ all → left ≡ bytes ∷ others → new ≡ text ++ record_line index bytes
    → new ++ record_lines (index + 1) others ≡ all
unfolding record_lines
lines_more text new index bytes left others all so_far split added =
    rw added (append_assoc text (record_line index bytes) (record_lines (index + 1) others)) ∙ rw split at so_far

-- what holds of all records holds of the others
pub each_left : (left others : List (List ℕ)) (bytes : List ℕ) → left ≡ bytes ∷ others → AllByRecursion IsRecord left → AllByRecursion IsRecord others
each_left left others bytes split each = (rw split at each).1

-- where no records are left, the text is complete
pub lines_whole : (text : List ℕ) (index : ℕ) (left : List (List ℕ)) (all : List ℕ) → text ++ record_lines index left ≡ all → left ≡ [] → text ≡ all
unfolding record_lines
lines_whole text index left all so_far none = sym (append-nil text) ∙ rw none at so_far
