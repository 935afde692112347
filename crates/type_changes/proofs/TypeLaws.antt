-- Where others have all types of some records, they have all definitions of them.
use Rattle.std.proofs.Common.{◌≡◌, ◌<◌, ◌∙◌, ◌↔◌, ◌&&◌, ℕ, zero, suc, Bool, true, false, cond, List, [], ◌∷◌, length, get_or, refl, sym, ap, subst, arith, inl, inr, true≢false}
use Rattle.std.specs.Prelude.{Option, Some, None}
use Rattle.std.specs.List.{AllByRecursion, Contains}
use Rattle.std.proofs.lemmas.Cmp.{nat_eq_equiv}
use Rattle.std.proofs.lemmas.List.Elements.{Contains-append_cases, Contains-append_left, Contains-append_right}
use Rattle.std.proofs.lemmas.Map.Views.{list_any-from_Contains}
use Rattle.cv_leaves.specs.Checks.{kind_of}
use Rattle.cv_leaves.specs.Place.{IsChecked}
use Rattle.type_trees.specs.Tree.{Tree, tree, nothing, blank_of, IsTreeAt, IsType}
use Rattle.type_trees.specs.Types.{AreTypes}
use Rattle.type_trees.proofs.TreeLaws.{at_position, one}
use Rattle.type_difference.specs.Difference.{HasStanding, HaveStandings}
use Rattle.type_difference.specs.declared.standing.Standing.{Standing}
use Rattle.type_difference.specs.declared.standing.Standing.TheVariants.{Shared}
use Rattle.type_expressions.specs.Asked.{AreTrees}
use Rattle.type_expressions.specs.Definition.{defined_words, is_definition}
use Rattle.type_expressions.proofs.AskedLaws.{all_trees}
use Rattle.type_expressions.proofs.DefinitionLaws.{defines, tree_undefined}
use Rattle.type_expressions.proofs.LinesLaws.{stands_inside}
use Rattle.type_changes.specs.Changes.{changes_text}
use Rattle.type_changes.specs.Definition.{Definition, defined_by, definition_of, definitions, is_whole, key_of}
use Rattle.type_changes.specs.Lone.{has}
use Rattle.type_changes.specs.Seen.{is_noted}
use Rattle.type_changes.specs.Tells.{TellsChanges}
use Rattle.type_changes.proofs.ChangeLaws.{found, nothing_changed, there}
use Rattle.type_changes.proofs.KeyLaws.{key_same}

one_there : (b : Bool) (d own : Definition) → Contains (cond b (own ∷ []) []) d → (b ≡ true) × (d ≡ own)
one_there true d own (zero, below, is) = (refl, sym is)
one_there true d own (suc k, below, is) = absurd (omega (arith, below))
one_there false d own (k, below, is) = absurd (omega (arith, below))

-- a definition is that of a tree
from_tree : (trees : List Tree) (d : Definition) → Contains (definitions trees) d
    → (k : ℕ) × (k < length trees) × (is_whole (get_or trees k nothing) ≡ true) × (d ≡ definition_of (get_or trees k nothing))
unfolding definitions defined_by
from_tree [] d (k, below, is) = absurd (omega (arith, below))
from_tree (t ∷ ts) d has = elim (Contains-append_cases (cond (is_whole t) (definition_of t ∷ []) []) (definitions ts) d has) [
  | inl first ↦ let own = one_there (is_whole t) d (definition_of t) first in (0, omega arith, own.0, own.1)
  | inr other ↦ let there = from_tree ts d other in (suc there.0, omega (arith, there.1), there.2, there.3)
]

-- the definition of a tree is there
of_tree : (trees : List Tree) (k : ℕ) → k < length trees → is_whole (get_or trees k nothing) ≡ true → Contains (definitions trees) (definition_of (get_or trees k nothing))
unfolding definitions defined_by
of_tree [] k below is = absurd (omega (arith, below))
of_tree (t ∷ ts) zero below is = Contains-append_left (cond (is_whole t) (definition_of t ∷ []) []) (definitions ts) (definition_of t) (rw is (0, omega arith, refl))
of_tree (t ∷ ts) (suc k) below is = Contains-append_right (cond (is_whole t) (definition_of t ∷ []) []) (definitions ts) (definition_of (get_or ts k nothing)) (of_tree ts k (omega (arith, below)) is)

pub types_have_definitions : (records others : List (List ℕ)) (trees other_trees : List Tree) → AreTrees records trees → AreTrees others other_trees → ((t : Tree) → IsType records t → IsType others t)
    → (d : Definition) → Contains (definitions trees) d → Contains (definitions other_trees) d
types_have_definitions records others trees other_trees are other_are types d has =
    let there = from_tree trees d has in
    let t = get_or trees there.0 nothing in
    let other = types t (there.0, are.each there.0 (omega (arith, there.1, are.many))) in
    let inside = stands_inside others other.0 t other.1 in
    let same : t ≡ get_or other_trees other.0 nothing = one others other.0 t (get_or other_trees other.0 nothing) other.1 (other_are.each other.0 inside) in
    rw (there.3, same) (of_tree other_trees other.0 (omega (arith, inside, other_are.many)) (rw same at there.2))

-- where both have the same types, nothing changed
pub same_types : (records others : List (List ℕ)) (trees other_trees : List Tree) → AreTrees records trees → AreTrees others other_trees → ((t : Tree) → IsType records t ↔ IsType others t)
    → changes_text (definitions trees) (definitions other_trees) ≡ []
same_types records others trees other_trees are other_are types =
    (nothing_changed (definitions trees) (definitions other_trees)).1
    (λ d. (types_have_definitions records others trees other_trees are other_are (λ t. (types t).0) d, types_have_definitions others records other_trees trees other_are are (λ t. (types t).1) d))

-- a text that tells it of all trees tells it
pub tells_changes : (records others : List (List ℕ)) (text : List ℕ) → AreTypes records → AreTypes others
    → ((trees other_trees : List Tree) → AreTrees records trees → AreTrees others other_trees → text ≡ changes_text (definitions trees) (definitions other_trees)) → TellsChanges records others text
tells_changes records others text types other_types tells =
    let all = all_trees records types in
    let other_all = all_trees others other_types in
    let is = tells all.0 other_all.0 all.1 other_all.1 in
    let empty = nothing_changed (definitions all.0) (definitions other_all.0) in record {
      trees = all.0;
      other_trees = other_all.0;
      are_trees = all.1;
      others_are_trees = other_all.1;
      tells = is;
      empty = rw is empty;
      same = λ same. is ∙ same_types records others all.0 other_all.0 all.1 other_all.1 same;
    }

-- ---- the names that are noted

both_so : (a b : Bool) → (a && b) ≡ true → a ≡ true
both_so true b e = refl
both_so false b e = absurd (true≢false (sym e))

-- others that lack a definition lack its type
lacks_type : (others : List (List ℕ)) (other_trees : List Tree) (t : Tree) (d : Definition) → AreTrees others other_trees → is_whole t ≡ true → d ≡ definition_of t → has (definitions other_trees) d ≡ false → IsType others t → ⊥
lacks_type others other_trees t d are whole is lacks other =
    let inside = stands_inside others other.0 t other.1 in
    let same : t ≡ get_or other_trees other.0 nothing = one others other.0 t (get_or other_trees other.0 nothing) other.1 (are.each other.0 inside) in
    let has_it : Contains (definitions other_trees) d = rw (is, same) (of_tree other_trees other.0 (omega (arith, inside, are.many)) (rw same at whole)) in
    absurd (true≢false (sym (found (definitions other_trees) d has_it) ∙ lacks))

-- a definition is known by what its record is known by
key_at : (records : List (List ℕ)) (i : ℕ) (t : Tree) → AllByRecursion IsChecked records → i < length records → IsTreeAt records i t → is_definition t ≡ true → key_of (blank_of t) ≡ key_of (get_or records i [])
key_at records i (tree b bs) checked below stands is = by (defined_words (kind_of r)) refl
  where
    r : List ℕ
    r = get_or records i []

    own : IsChecked r
    own = at_position IsChecked records i checked below

    by : (words : Option (List ℕ)) → words ≡ defined_words (kind_of r) → key_of b ≡ key_of r
    by None none = absurd (true≢false (sym is ∙ tree_undefined records i r (tree b bs) refl own none stands))
    by (Some words) some = ap key_of (sym stands.1) ∙ key_same r own (defines r words some)

-- each definition that the others lack has a name that was noted, where that of each record was whose type they lack
pub lacked_noted : (records others : List (List ℕ)) (trees other_trees : List Tree) (standings : List Standing) (h : List ℕ → ℕ) (names : List ℕ) → AreTypes records → AreTrees records trees → AreTrees others other_trees
    → HaveStandings records others standings
    → ((i : ℕ) → i < length records → (get_or standings i Shared ≡ Shared → ⊥) → Contains names (h (key_of (get_or records i [])).name))
    → (d : Definition) → has (definitions trees) d ≡ true → has (definitions other_trees) d ≡ false → is_noted h names d ≡ true
unfolding definition_of
lacked_noted records others trees other_trees standings h names types are other_are have noted d is lacks =
    let from = from_tree trees d (there (definitions trees) d is) in
    let i = from.0 in
    let t = get_or trees i nothing in
    let below : i < length records = omega (arith, from.1, are.many) in
    let stands = are.each i below in
    let defines_it : is_definition t ≡ true = both_so (is_definition t) _ from.2 in
    let name : d.key.name ≡ (key_of (get_or records i [])).name = ap (λ x. x.key.name) from.3 ∙ ap (λ k. k.name) (key_at records i t types.checked below stands defines_it) in
    let has_type = λ (shared : get_or standings i Shared ≡ Shared). lacks_type others other_trees t d other_are from.2 from.3 lacks (subst (λ (s : Standing). HasStanding records others i s) shared (have.each i below) t stands) in
    rw name (list_any-from_Contains nat_eq_equiv (h (key_of (get_or records i [])).name) names (noted i below has_type))
