-- Laws of the weight of a list of trees.
use Rattle.std.proofs.Common.{◌≡◌, ◌≢◌, ℕ, suc, ◌+◌, ◌-◌, ◌<◌, ◌≤◌, List, [], ◌∷◌, length, get_or, map, refl, sym, ap, ◌∙◌, arith, inl, inr, length-append, ◌++◌}
use Rattle.std.specs.List.{AllPairs, Contains, concat, remove, sum_by}
use Rattle.std.proofs.lemmas.Bool.{cases_order}
use Rattle.std.proofs.lemmas.List.{get_or_default}
use Rattle.std.proofs.lemmas.List.Sums.{sum_by-cons, sum_by-remove}
use Rattle.std.proofs.lemmas.List.Edits.{get_or-remove_below, get_or-remove_above, length-remove}
use Rattle.type_trees.specs.Tree.{Tree, tree, nothing, blank_of, IsClosed}
use Rattle.type_trees.specs.Canon.{numbers, text, weight}
use Rattle.type_trees.specs.Laws.{WeightOfTexts, WeightGrows}
use Rattle.cv_leaves.proofs.FilledLaws.{filled_len}

length-text : (l : List Tree) (t : Tree) → IsClosed t → length (text l t) ≡ length (blank_of t)
unfolding text
length-text l (tree b bs) closed = filled_len b (numbers l bs) closed.1

pub weight-cons : (t : Tree) (l : List Tree) → weight (t ∷ l) ≡ length (blank_of t) + weight l
unfolding weight
weight-cons t l = sum_by-cons (λ u. length (blank_of u)) t l

pub weight-none : weight [] ≡ 0
unfolding weight
weight-none = refl

total : (l part : List Tree) → ((i : ℕ) → i < length part → IsClosed (get_or part i nothing)) → length (concat (map (text l) part)) ≡ weight part
total l [] closed = sym weight-none
total l (t ∷ part) closed =
    let rest : length (concat (map (text l) part)) ≡ weight part = total l part (λ i lt. closed (suc i) (omega arith)) in
    let head : length (text l t) ≡ length (blank_of t) = length-text l t (closed 0 (omega arith)) in
    rw (weight-cons t part, length-append (text l t) (concat (map (text l) part))) (omega arith)

pub weight_of_texts : WeightOfTexts
weight_of_texts l c = total l l c.closed

-- an element that differs from the removed one is still there
Contains-remove : {X : Type 0} (d : X) (m : List X) (k : ℕ) (u : X) → k < length m → Contains m u → get_or m k d ≢ u → Contains (remove m k) u
Contains-remove d m k u lt h ne =
    let j : ℕ = h.0 in
    let j_in : j < length m = h.1 in
    let at : get_or m j u ≡ u = h.2 in
    let long = length-remove m k lt in
    elim (cases_order j k) [
      | inl e ↦ absurd (ne (get_or_default m k d u lt ∙ ap (λ (i : ℕ). get_or m i u) (sym e) ∙ at))
      | inr w ↦ elim w [
        | inl less ↦ (j, omega arith, get_or-remove_below m k u j less lt ∙ at)
        | inr more ↦ let e : j - 1 + 1 ≡ j = omega arith in (j - 1, omega arith, get_or-remove_above m k u (j - 1) (omega arith) lt ∙ ap (λ (i : ℕ). get_or m i u) e ∙ at)
      ]
    ]

-- a sum over distinct elements is at most the sum over a list that contains all of them
pub sum_grows : {X : Type 0} (f : X → ℕ) (d : X) (l m : List X) → AllPairs (λ t u. t ≢ u) l → ((t : X) → Contains l t → Contains m t) → sum_by f l ≤ sum_by f m
sum_grows {X = X} f d [] m distinct within = omega arith
sum_grows {X = X} f d (t ∷ l) m distinct within =
    let held : Contains m t = within t (0, omega arith, refl) in
    let k : ℕ = held.0 in
    let lt : k < length m = held.1 in
    let at : get_or m k d ≡ t = get_or_default m k d t lt ∙ held.2 in
    let still : (u : X) → Contains l u → Contains (remove m k) u = λ u h.
    let ne : t ≢ u = λ e. distinct 0 (suc h.0) u (omega arith) (omega (arith, h.1)) (e ∙ sym h.2) in
    Contains-remove d m k u lt (within u (suc h.0, omega (arith, h.1), h.2)) (λ e. ne (sym at ∙ e)) in
    let rest = sum_grows f d l (remove m k) (λ i j d less j_in. distinct (suc i) (suc j) d (omega (arith, less)) (omega (arith, j_in))) still in
    omega (arith, sum_by-cons f t l, rest, sum_by-remove f m k d lt, ap f at)

pub weight_grows : WeightGrows
unfolding weight
weight_grows l m distinct within = sum_grows (λ t. length (blank_of t)) nothing l m distinct within

-- ---- The numbers of a list of rows

-- one row more adds its numbers
pub concat_push : (rows : List (List ℕ)) (row : List ℕ) → length (concat (rows ++ row ∷ [])) ≡ length (concat rows) + length row
concat_push [] row = omega (arith, length-append row [])
concat_push (r ∷ rows) row = omega (arith, length-append r (concat (rows ++ row ∷ [])), length-append r (concat rows), concat_push rows row)
