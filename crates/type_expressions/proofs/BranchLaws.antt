-- The words of a record follow from those of what it names.
use Rattle.std.proofs.Common.{◌≡◌, ◌≤◌, ◌<◌, ◌+◌, ◌-◌, ◌∙◌, ◌⊎◌, ℕ, zero, suc, List, [], ◌∷◌, length, get_or, codes, refl, sym, ap, subst, arith, inl, inr}
use Rattle.std.proofs.lemmas.List.{get_or-map, length-drop}
use Rattle.std.proofs.lemmas.Bool.{cases_eq, eq-eqb, ne_eqb, le-leb}
use Rattle.std.specs.Prelude.{Some, None, slice_get}
use Rattle.std.specs.List.{AllByRecursion}
use Rattle.tpi_records.specs.Header.{first_index}
use Rattle.cv_leaves.specs.Checks.{places_of, body_of}
use Rattle.cv_leaves.specs.Place.{IsChecked}
use Rattle.cv_leaves.specs.References.{reference_at, references, blanked}
use Rattle.cv_leaves.proofs.FilledLaws.{blanked_places, blanked_kind, own_places, reference_each}
use Rattle.cv_leaves.proofs.PlaceLaws.{places_fit}
use Rattle.type_expressions.specs.Field.{number_in}
use Rattle.type_expressions.proofs.BlankLaws.{told_blank}
use Rattle.type_trees.specs.Tree.{Tree, Branches, tree, no_branch, simple, branch, AreBranches}
use Rattle.type_expressions.specs.Simple.{simple_words}
use Rattle.type_expressions.specs.Told.{told, nothing_words}
use Rattle.type_expressions.specs.Expression.{position_of, expression, branch_text, AreToldAt, IsNamed}

-- this is one of the places
abbrev pub Has : ℕ → List ℕ → Type 0
Has p [] = ⊥
Has p (q ∷ qs) = (q ≡ p) ⊎ Has p qs

pub first_of : (ns rest : List ℕ) (n : ℕ) → ns ≡ n ∷ rest → get_or ns 0 0 ≡ n
first_of ns rest n is = ap (λ (xs : List ℕ). get_or xs 0 0) is

pub next_of : (ns rest : List ℕ) (n i : ℕ) → ns ≡ n ∷ rest → get_or ns (suc i) 0 ≡ get_or rest i 0
next_of ns rest n i is = ap (λ (xs : List ℕ). get_or xs (suc i) 0) is

pub shorter : (ns rest : List ℕ) (n i : ℕ) → ns ≡ n ∷ rest → suc i < length ns → i < length rest
shorter ns rest n i is inside = omega (arith, inside, ap length is)

-- what is told of the reference at a position is the text of the branch there
pub branch_told : (nothing : List ℕ) (records : List (List ℕ)) (deep : ℕ) (ns : List ℕ) (bs : Branches) (i : ℕ) → AreBranches records ns bs → i < length ns → IsNamed nothing records deep (get_or ns i 0) (branch_text nothing deep bs i)
unfolding expression
branch_told nothing records deep ns no_branch i h inside = absurd (omega (arith, inside, ap length h))
branch_told nothing records deep ns (simple m bs) zero h inside =
    subst (λ (k : ℕ). IsNamed nothing records deep k (simple_words nothing m)) (sym (first_of ns h.1 h.0 h.2)) (inl (h.3, ap (simple_words nothing) (sym h.4)))
branch_told nothing records deep ns (simple m bs) (suc i) h inside =
    subst (λ (k : ℕ). IsNamed nothing records deep k (branch_text nothing deep bs i)) (sym (next_of ns h.1 h.0 i h.2)) (branch_told nothing records deep h.1 bs i h.5 (shorter ns h.1 h.0 i h.2 inside))
branch_told nothing records deep ns (branch t bs) zero h inside =
    subst (λ (k : ℕ). IsNamed nothing records deep k (expression deep t)) (sym (first_of ns h.1 h.0 h.2)) (inr (h.3, t, h.4, refl))
branch_told nothing records deep ns (branch t bs) (suc i) h inside =
    subst (λ (k : ℕ). IsNamed nothing records deep k (branch_text nothing deep bs i)) (sym (next_of ns h.1 h.0 i h.2)) (branch_told nothing records deep h.1 bs i h.5 (shorter ns h.1 h.0 i h.2 inside))

later : (p q : ℕ) (qs : List ℕ) → (q ≡ p → ⊥) → (q ≡ p) ⊎ Has p qs → Has p qs
later p q qs other (inl same) = absurd (other same)
later p q qs other (inr rest) = rest

-- a place is at its position
pub at_position : (p : ℕ) (ps : List ℕ) → Has p ps → (position_of p ps < length ps) × (get_or ps (position_of p ps) 0 ≡ p)
unfolding position_of
at_position p [] has = absurd has
at_position p (q ∷ qs) has = elim (cases_eq q p) [
  | inl same ↦ rw (eq-eqb q p same) (omega arith, same)
  | inr other ↦ rw (ne_eqb q p other) (let there = at_position p qs (later p q qs other has) in (omega (arith, there.0), there.1))
]

-- each place is one of them
pub all_have : (ps : List ℕ) (P : ℕ → Type 0) → ((p : ℕ) → Has p ps → P p) → AllByRecursion P ps
all_have [] P each = tt
all_have (p ∷ ps) P each = (each p (inl refl), all_have ps P (λ q has. each q (inr has)))

-- what holds of each holds of this one
pub has_each : (ps : List ℕ) (P : ℕ → Type 0) (p : ℕ) → Has p ps → AllByRecursion P ps → P p
has_each [] P p has each = absurd has
has_each (q ∷ qs) P p (inl same) each = subst P same each.0
has_each (q ∷ qs) P p (inr rest) each = has_each qs P p rest each.1

fits : (x : List ℕ) (q : ℕ) → q + 8 ≤ length x → q + 4 ≤ length (body_of x)
unfolding body_of
fits x q inside = omega (arith, inside, length-drop 4 x)

-- the number at a place is the reference there
pub read_place : (r : List ℕ) (p : ℕ) → IsChecked r → Has p (places_of r) → number_in 4 (body_of r) p ≡ reference_at r p
unfolding number_in
read_place r p checked has =
    rw (le-leb (p + 4) (length (body_of r)) (fits r p (has_each (places_of r) (λ q. q + 8 ≤ length r) p has (places_fit r (places_of r) (own_places r checked))))) refl

told_deep : (deep : ℕ) (b : List ℕ) (bs : Branches) → expression (suc deep) (tree b bs) ≡ told b (λ place. branch_text (nothing_words b) deep bs (position_of place (places_of b)))
unfolding expression
told_deep deep b bs = refl

-- the reference at the position of a place
pub reference_there : (x : List ℕ) (p : ℕ) → (position_of p (places_of x) < length (places_of x)) × (get_or (places_of x) (position_of p (places_of x)) 0 ≡ p) → get_or (references x) (position_of p (places_of x)) 0 ≡ reference_at x p
unfolding references
reference_there x p there = get_or-map (reference_at x) (places_of x) (position_of p (places_of x)) 0 0 there.0 ∙ ap (reference_at x) there.1

-- what is told of the reference at a place is the text of its branch
pub place_told : (nothing : List ℕ) (records : List (List ℕ)) (deep : ℕ) (r : List ℕ) (bs : Branches) (p : ℕ) → IsChecked r → AreBranches records (references r) bs → Has p (places_of r)
    → IsNamed nothing records deep (number_in 4 (body_of r) p) (branch_text nothing deep bs (position_of p (places_of r)))
place_told nothing records deep r bs p checked branches has =
    let there = at_position p (places_of r) has in
    let many : position_of p (places_of r) < length (references r) = omega (arith, there.0, reference_each r) in
    subst (λ (k : ℕ). IsNamed nothing records deep k (branch_text nothing deep bs (position_of p (places_of r)))) (reference_there r p there ∙ sym (read_place r p checked has))
    (branch_told nothing records deep (references r) bs (position_of p (places_of r)) branches many)

-- a record and its blank have the same words for no type
same_nothing : (r : List ℕ) → IsChecked r → nothing_words (blanked r) ≡ nothing_words r
unfolding nothing_words
same_nothing r checked = rw (blanked_kind r checked) refl

-- the words of a record are told of those at its places
words_of : (other : List ℕ) (records : List (List ℕ)) (deep to : ℕ) (r words : List ℕ) → first_index ≤ to → r ≡ get_or records (to - first_index) [] → IsChecked r → IsNamed other records (suc deep) to words
    → (at : ℕ → List ℕ) × AreToldAt records deep r at × (words ≡ told r at)
words_of other records deep to r words large own checked (inl small) = absurd (omega (arith, large, small.0))
words_of other records deep to r words large own checked (inr (_, tree b bs, stands, is)) =
    let blank : b ≡ blanked r = sym stands.1 ∙ ap blanked (sym own) in
    let ps : places_of b ≡ places_of r = ap places_of blank ∙ blanked_places r checked in
    let none : nothing_words b ≡ nothing_words r = ap nothing_words blank ∙ same_nothing r checked in
    let branches = subst (λ (x : List ℕ). AreBranches records (references x) bs) (sym own) stands.2 in
    let at : ℕ → List ℕ = λ p. branch_text (nothing_words r) deep bs (position_of p (places_of r)) in (
      at,
      all_have (places_of r) (λ p. IsNamed (nothing_words r) records deep (number_in 4 (body_of r) p) (at p)) (λ p has. place_told (nothing_words r) records deep r bs p checked branches has),
      is ∙ told_deep deep b bs ∙ ap (λ (xs : List ℕ). told b (λ p. branch_text xs deep bs (position_of p (places_of b)))) none
          ∙ ap (λ (qs : List ℕ). told b (λ p. branch_text (nothing_words r) deep bs (position_of p qs))) ps
          ∙ ap (λ (x : List ℕ). told x at) blank ∙ told_blank r at checked,
    )

-- the words at a place of a record that is told
pub told_place : (records : List (List ℕ)) (deep : ℕ) (r : List ℕ) (at : ℕ → List ℕ) (p : ℕ) → AreToldAt records deep r at → Has p (places_of r) → IsNamed (nothing_words r) records deep (number_in 4 (body_of r) p) (at p)
told_place records deep r at p all has = has_each (places_of r) (λ q. IsNamed (nothing_words r) records deep (number_in 4 (body_of r) q) (at q)) p has all

-- the record at a position
pub got : (records : List (List ℕ)) (k : ℕ) (r : List ℕ) → Some r ≡ slice_get records k → r ≡ get_or records k []
got [] k r is = absurd cc
got (x ∷ xs) zero r is = cc
got (x ∷ xs) (suc k) r is = got xs k r is

-- the words of a record that was got
pub words_got : (other : List ℕ) (records : List (List ℕ)) (deep to position : ℕ) (r words : List ℕ) → (deep ≡ 0 → ⊥) → first_index + position ≡ to → Some r ≡ slice_get records position → IsChecked r → IsNamed other records deep to words
    → (at : ℕ → List ℕ) × AreToldAt records (deep - 1) r at × (words ≡ told r at)
words_got other records deep to position r words some is found checked told_so =
    let place : to - first_index ≡ position = omega (arith, is) in
    let more : deep ≡ suc (deep - 1) = one_more deep some in
    words_of other records (deep - 1) to r words (omega (arith, is)) (got records position r found ∙ ap (λ (k : ℕ). get_or records k []) (sym place)) checked
    (subst (λ (k : ℕ). IsNamed other records k to words) more told_so)
  where
    one_more : (k : ℕ) → (k ≡ 0 → ⊥) → k ≡ suc (k - 1)
    one_more zero none = absurd (none refl)
    one_more (suc k) none = omega arith

pub gone : (records : List (List ℕ)) (k : ℕ) → slice_get records k ≡ None → k < length records → ⊥
gone [] k none inside = omega (arith, inside)
gone (x ∷ xs) zero none inside = absurd cc
gone (x ∷ xs) (suc k) none inside = gone xs k none (omega (arith, inside))

-- nothing is told of a record that is not there
pub not_there : (other : List ℕ) (records : List (List ℕ)) (deep to position : ℕ) (words : List ℕ) → first_index + position ≡ to → slice_get records position ≡ None → IsNamed other records deep to words → ⊥
not_there other records deep to position words is none (inl small) = omega (arith, is, small.0)
not_there other records deep to position words is none (inr (_, tree b bs, stands, _)) =
    let place : to - first_index ≡ position = omega (arith, is) in
    gone records position none (subst (λ (k : ℕ). k < length records) place stands.0)

no_depth : (t : Tree) → expression 0 t ≡ codes ".."
unfolding expression
no_depth (tree b bs) = refl

-- two points at the depth 0
pub words_none : (other : List ℕ) (records : List (List ℕ)) (deep to position : ℕ) (words : List ℕ) → deep ≡ 0 → first_index + position ≡ to → IsNamed other records deep to words → words ≡ codes ".."
words_none other records deep to position words none is (inl small) = absurd (omega (arith, is, small.0))
words_none other records deep to position words none is (inr (_, t, _, told_so)) = told_so ∙ ap (λ (k : ℕ). expression k t) none ∙ no_depth t
