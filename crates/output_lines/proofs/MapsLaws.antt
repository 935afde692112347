-- The lines of maps, one after the other.
use Rattle.std.proofs.Common.{◌≡◌, ◌<◌, ◌≤◌, ℕ, ◌+◌, List, ◌++◌, length, drop, get_or, sym, ap, ◌∙◌, append_assoc}
use Rattle.std.proofs.lemmas.List.{append-nil, drop_more, drop_all}
use Rattle.tpi_records.specs.Header.{first_index}
use Rattle.output_lines.specs.Maps.{map_line, map_lines}

-- one line more
pub map_line_more : (text new : List ℕ) (file index k : ℕ) (numbers all : List ℕ) → k < length numbers → text ++ map_lines file index (drop k numbers) ≡ all
    → new ≡ text ++ map_line file index (first_index + get_or numbers k 0) → new ++ map_lines file (index + 1) (drop (k + 1) numbers) ≡ all
unfolding map_lines
map_line_more text new file index k numbers all inside so_far added =
    rw added (append_assoc text (map_line file index (first_index + get_or numbers k 0)) (map_lines file (index + 1) (drop (k + 1) numbers)))
    ∙ ap (λ l. text ++ map_lines file index l) (sym (drop_more numbers k 0 inside)) ∙ so_far

-- where no records are left, the lines are complete
pub map_lines_whole : (text : List ℕ) (file index k : ℕ) (numbers all : List ℕ) → length numbers ≤ k → text ++ map_lines file index (drop k numbers) ≡ all → text ≡ all
unfolding map_lines
map_lines_whole text file index k numbers all past so_far =
    sym (append-nil text) ∙ ap (λ l. text ++ map_lines file index l) (sym (drop_all k numbers past)) ∙ so_far
