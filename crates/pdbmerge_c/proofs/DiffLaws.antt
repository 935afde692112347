-- There are no rows exactly where both lists have the same types.
use Rattle.std.proofs.Common.{◌≡◌, ◌<◌, ◌+◌, ◌↔◌, ℕ, zero, suc, List, [], ◌∷◌, ◌++◌, length, get_or, refl, sym, ◌∙◌, arith}
use Rattle.type_trees.specs.Tree.{Tree, IsType}
use Rattle.type_trees.specs.Types.{AreTypes}
use Rattle.type_trees.proofs.TreeLaws.{tree_there}
use Rattle.type_difference.specs.Difference.{IsLacked, IsOrigin, HasStanding, HaveStandings}
use Rattle.type_difference.specs.declared.standing.Standing.{Standing}
use Rattle.type_difference.specs.declared.standing.Standing.TheVariants.{Shared, Again, Follows, Origin}
use Rattle.type_difference.proofs.DifferenceLaws.{difference_begins, none_lacked}
use Rattle.pdbmerge_c.specs.Diff.{TellApart, row_of, rows_from}
use Rattle.pdbmerge_c.specs.declared.diff.OneSided.{OneSided}

-- both parts of an empty list are empty
empty_parts : (front back : List OneSided) → front ++ back ≡ [] → (front ≡ []) × (back ≡ [])
empty_parts [] back is = (refl, is)
empty_parts (x ∷ front) back is = absurd cc

-- ---- no rows

-- where there are no rows, no record has one
no_row : (input position : ℕ) (standings : List Standing) (i : ℕ) → rows_from input position standings ≡ [] → i < length standings → (at : ℕ) × (row_of input at (get_or standings i Shared) ≡ [])
no_row input position [] i none inside = absurd (omega (arith, inside))
no_row input position (s ∷ others) zero none inside = (position, (empty_parts (row_of input position s) (rows_from input (position + 1) others) none).0)
no_row input position (s ∷ others) (suc i) none inside =
    no_row input (position + 1) others i (empty_parts (row_of input position s) (rows_from input (position + 1) others) none).1 (omega (arith, inside))

-- the difference begins at no record without a row
no_origin : (input at : ℕ) (s : Standing) (records others : List (List ℕ)) (i : ℕ) → AreTypes records → HasStanding records others i s → row_of input at s ≡ [] → IsOrigin records others i → ⊥
no_origin input at Shared records others i types has none origin =
    let here = tree_there records types.ranked.0 i types.ranked.1 origin.lacked.inside in
    origin.lacked.lacked here.0 here.1 (has here.0 here.1)
no_origin input at Again records others i types has none origin =
    let here = tree_there records types.ranked.0 i types.ranked.1 origin.lacked.inside in
    let before = has.1 here.0 here.1 in
    omega (arith, origin.lacked.first before.0 here.0 here.1 before.2, before.1)
no_origin input at Follows records others i types has none origin = absurd cc
no_origin input at Origin records others i types has none origin = absurd cc

-- so the others have all types of the records
all_held : (input : ℕ) (records others : List (List ℕ)) (standings : List Standing) → AreTypes records → AreTypes others → HaveStandings records others standings → rows_from input 0 standings ≡ []
    → (t : Tree) → IsType records t → IsType others t
all_held input records others standings types others_types have none =
    difference_begins records others types others_types (λ i origin.
    let inside : i < length standings = omega (arith, have.many, origin.lacked.inside) in
    let row = no_row input 0 standings i none inside in
    no_origin input row.0 (get_or standings i Shared) records others i types (have.each i origin.lacked.inside) row.1 origin)

-- ---- the same types

-- a record that is not lacked has no row
hidden : (input at : ℕ) (s : Standing) (records others : List (List ℕ)) (i : ℕ) → HasStanding records others i s → (IsLacked records others i → ⊥) → row_of input at s ≡ []
hidden input at Shared records others i has not = refl
hidden input at Again records others i has not = refl
hidden input at Follows records others i has not = absurd (not has.0)
hidden input at Origin records others i has not = absurd (not has.lacked)

no_rows : (input position : ℕ) (standings : List Standing) → ((i at : ℕ) → i < length standings → row_of input at (get_or standings i Shared) ≡ []) → rows_from input position standings ≡ []
no_rows input position [] each = refl
no_rows input position (s ∷ others) each =
    let here : row_of input position s ≡ [] = each 0 position (omega arith) in
    let behind : rows_from input (position + 1) others ≡ [] = no_rows input (position + 1) others (λ i at inside. each (suc i) at (omega (arith, inside))) in
    rw (here, behind) refl

none_listed : (input : ℕ) (records others : List (List ℕ)) (standings : List Standing) → AreTypes records → HaveStandings records others standings → ((t : Tree) → IsType records t → IsType others t)
    → rows_from input 0 standings ≡ []
none_listed input records others standings types have held =
    no_rows input 0 standings (λ i at inside.
    hidden input at (get_or standings i Shared) records others i (have.each i (omega (arith, have.many, inside))) (none_lacked records others i types held))

-- ---- both lists

pub empty_same : (records others : List (List ℕ)) (rows : List OneSided) → AreTypes records → AreTypes others → TellApart records others rows → (rows ≡ []) ↔ ((t : Tree) → IsType records t ↔ IsType others t)
empty_same records others rows types others_types apart = (
  λ empty t.
      let parts = empty_parts (rows_from 0 0 apart.first) (rows_from 1 0 apart.second) (sym apart.are ∙ empty) in (
        all_held 0 records others apart.first types others_types apart.firsts parts.0 t,
        all_held 1 others records apart.second others_types types apart.seconds parts.1 t,
      ),
  λ same.
      let first = none_listed 0 records others apart.first types apart.firsts (λ t h. (same t).0 h) in
      let second = none_listed 1 others records apart.second others_types apart.seconds (λ t h. (same t).1 h) in
      apart.are ∙ rw (first, second) refl,
)
