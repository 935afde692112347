-- Trees with equal texts are equal.
use Rattle.std.proofs.Common.{◌≡◌, ℕ, ◌+◌, ◌<◌, ◌≤◌, ◌^◌, List, length, get_or, refl, sym, ap, ◌∙◌, arith}
use Rattle.std.specs.List.{AllByRecursion, Contains}
use Rattle.cv_leaves.specs.References.{references, blanked}
use Rattle.type_trees.specs.Tree.{Tree, Branches, tree, no_branch, simple, branch, nothing, blank_of, branches_of, count, trees_in, IsClosed, AreClosed}
use Rattle.type_trees.specs.Canon.{position_in, numbers, text, HoldsBranches}
use Rattle.type_trees.specs.Laws.{TextsDiffer}
use Rattle.cv_leaves.proofs.FilledLaws.{filled_blank, filled_read}
use Rattle.type_trees.proofs.SameLaws.{get_or-position_in, position_in-lt-length}
use Rattle.tpi_records.specs.Header.{first_index}

pub length-numbers : (l : List Tree) (bs : Branches) → length (numbers l bs) ≡ count bs
length-numbers l no_branch = refl
length-numbers l (simple n bs) = let e = length-numbers l bs in omega arith
length-numbers l (branch t bs) = let e = length-numbers l bs in omega arith

-- each number of a branch fits in four bytes
pub numbers-small : (l : List Tree) (bs : Branches) → length l ≤ 4294963200 → AreClosed bs → AllByRecursion (Contains l) (trees_in bs) → AllByRecursion (λ n. n < 2 ^ 32) (numbers l bs)
numbers-small l no_branch few closed held = tt
numbers-small l (simple n bs) few closed held = let small = closed.0 in (omega arith, numbers-small l bs few closed.1 held)
numbers-small l (branch t bs) few closed held = let small = position_in-lt-length l t held.0 in (omega arith, numbers-small l bs few closed.1 held.1)

-- trees that have the same position are equal
pub same_position : (l : List Tree) (t u : Tree) → Contains l t → Contains l u → position_in l t ≡ position_in l u → t ≡ u
same_position l t u ht hu e = sym (get_or-position_in l t (position_in-lt-length l t ht)) ∙ ap (λ (k : ℕ). get_or l k nothing) e ∙ get_or-position_in l u (position_in-lt-length l u hu)

-- branches with the same numbers are equal
pub numbers-same : (l : List Tree) (bs cs : Branches) → AreClosed bs → AreClosed cs → AllByRecursion (Contains l) (trees_in bs) → AllByRecursion (Contains l) (trees_in cs) → numbers l bs ≡ numbers l cs → bs ≡ cs
numbers-same l no_branch no_branch ub uc hb hc e = refl
numbers-same l no_branch (simple m cs) ub uc hb hc e = absurd cc
numbers-same l no_branch (branch u cs) ub uc hb hc e = absurd cc
numbers-same l (simple n bs) no_branch ub uc hb hc e = absurd cc
numbers-same l (branch t bs) no_branch ub uc hb hc e = absurd cc
numbers-same l (simple n bs) (simple m cs) ub uc hb hc e =
    let x : n ≡ m = cc in
    let tail : numbers l bs ≡ numbers l cs = cc in
    let y : bs ≡ cs = numbers-same l bs cs ub.1 uc.1 hb hc tail in
    rw (x, y) refl
numbers-same l (simple n bs) (branch u cs) ub uc hb hc e =
    let x : n ≡ first_index + position_in l u = cc in
    absurd (omega (arith, ub.0))
numbers-same l (branch t bs) (simple m cs) ub uc hb hc e =
    let x : first_index + position_in l t ≡ m = cc in
    absurd (omega (arith, uc.0))
numbers-same l (branch t bs) (branch u cs) ub uc hb hc e =
    let x : first_index + position_in l t ≡ first_index + position_in l u = cc in
    let tail : numbers l bs ≡ numbers l cs = cc in
    let y : bs ≡ cs = numbers-same l bs cs ub.1 uc.1 hb.1 hc.1 tail in
    let z : t ≡ u = same_position l t u hb.0 hc.0 (omega arith) in
    rw (y, z) refl

pub blank-text : (l : List Tree) (t : Tree) → IsClosed t → blanked (text l t) ≡ blank_of t
unfolding text
blank-text l (tree b bs) closed = filled_blank b (numbers l bs) closed.1 ∙ closed.2

pub refs-text : (l : List Tree) (t : Tree) → length l ≤ 4294963200 → IsClosed t → HoldsBranches l t → references (text l t) ≡ numbers l (branches_of t)
unfolding text
refs-text l (tree b bs) few closed held =
    filled_read b (numbers l bs) closed.1 (length-numbers l bs ∙ sym closed.3) (numbers-small l bs few closed.4 held)

of_parts : (t u : Tree) → blank_of t ≡ blank_of u → branches_of t ≡ branches_of u → t ≡ u
of_parts (tree b bs) (tree c cs) x y = rw (x, y) refl

closed_branches : (t : Tree) → IsClosed t → AreClosed (branches_of t)
closed_branches (tree b bs) closed = closed.4

pub texts_differ : TextsDiffer
texts_differ l t u few ct cu ht hu e =
    let x : blank_of t ≡ blank_of u = sym (blank-text l t ct) ∙ ap blanked e ∙ blank-text l u cu in
    let ns : numbers l (branches_of t) ≡ numbers l (branches_of u) = sym (refs-text l t few ct ht) ∙ ap references e ∙ refs-text l u few cu hu in
    of_parts t u x (numbers-same l (branches_of t) (branches_of u) (closed_branches t ct) (closed_branches u cu) ht hu ns)
