-- A definition is told in the same words as its tree.
use Rattle.std.proofs.Common.{add_assoc, ◌≡◌, ◌<◌, ◌+◌, ◌∙◌, ◌==◌, ◌⊎◌, ℕ, true, false, List, [], ◌∷◌, ◌++◌, Some, None, length, get_or, codes, refl, sym, ap, subst, arith, inl, inr}
use Rattle.std.proofs.lemmas.Bool.{cases_eq, ne_eqb}
use Rattle.std.proofs.lemmas.List.{append_assoc, length-append}
use Rattle.cv_leaves.specs.Leaf.{leaf_of}
use Rattle.cv_leaves.specs.Checks.{kind_of, body_of, places_of, rest_places}
use Rattle.cv_leaves.specs.Place.{IsChecked}
use Rattle.cv_leaves.specs.References.{references, blanked}
use Rattle.cv_leaves.specs.declared.leaf.Rest.TheVariants.{Nothing}
use Rattle.cv_leaves.proofs.PartLaws.{no_places}
use Rattle.cv_leaves.proofs.FilledLaws.{blanked_kind, blanked_len, blanked_places, reference_each}
use Rattle.type_trees.specs.Tree.{Tree, Branches, tree, blank_of, IsTreeAt, AreBranches}
use Rattle.type_expressions.specs.Definition.{defined_words, only_declares, title, size_text, end_of_head, list_place, title_of, definition_size, members_text, is_definition, definition_text, parts_of}
use Rattle.type_expressions.specs.Expression.{position_of, branch_text, IsTold}
use Rattle.output_words.specs.Bounded.{cut}
use Rattle.type_expressions.specs.Field.{number_in}
use Rattle.type_expressions.specs.Lines.{shown_type, lines_at, lines_text, AreLines, GoOn}
use Rattle.type_expressions.proofs.BlankLaws.{Outside, body_len, two_same, numeric_same, same_name, same_rest, same_in_body}
use Rattle.type_expressions.proofs.BranchLaws.{Has, at_position, reference_there, read_place, place_told}
use Rattle.type_expressions.proofs.LinesLaws.{lines_told}

-- ---- the kinds

-- a record that defines a type: a class, a union or an enumeration, and its places
abbrev pub Defines : List ℕ → Type 0
Defines r =
    ((places_of r ≡ 4 ∷ 8 ∷ 12 ∷ []) × ((kind_of r == 0x1507) ≡ false) × ((kind_of r == 0x1506) ≡ false))
    ⊎ ((places_of r ≡ 4 ∷ []) × (kind_of r ≡ 0x1506))
    ⊎ ((places_of r ≡ 4 ∷ 8 ∷ []) × (kind_of r ≡ 0x1507))

class_places : (r : List ℕ) → (kind_of r ≡ 0x1504) ⊎ (kind_of r ≡ 0x1505) ⊎ (kind_of r ≡ 0x1519) → places_of r ≡ 4 ∷ 8 ∷ 12 ∷ []
unfolding places_of leaf_of rest_places
class_places r (inl kind) = rw kind (ap (λ (ps : List ℕ). 4 ∷ 8 ∷ 12 ∷ ps) (no_places Nothing (body_of r) 0 0 (omega arith)))
class_places r (inr (inl kind)) = rw kind (ap (λ (ps : List ℕ). 4 ∷ 8 ∷ 12 ∷ ps) (no_places Nothing (body_of r) 0 0 (omega arith)))
class_places r (inr (inr kind)) = rw kind (ap (λ (ps : List ℕ). 4 ∷ 8 ∷ 12 ∷ ps) (no_places Nothing (body_of r) 0 0 (omega arith)))

union_places : (r : List ℕ) → kind_of r ≡ 0x1506 → places_of r ≡ 4 ∷ []
unfolding places_of leaf_of rest_places
union_places r kind = rw kind (ap (λ (ps : List ℕ). 4 ∷ ps) (no_places Nothing (body_of r) 0 0 (omega arith)))

enum_places : (r : List ℕ) → kind_of r ≡ 0x1507 → places_of r ≡ 4 ∷ 8 ∷ []
unfolding places_of leaf_of rest_places
enum_places r kind = rw kind (ap (λ (ps : List ℕ). 4 ∷ 8 ∷ ps) (no_places Nothing (body_of r) 0 0 (omega arith)))

pub defines : (r words : List ℕ) → Some words ≡ defined_words (kind_of r) → Defines r
unfolding defined_words
defines r words is = elim (cases_eq (kind_of r) 0x1504) [
  | inl a ↦ inl (class_places r (inl a), rw a refl, rw a refl)
  | inr a ↦ elim (cases_eq (kind_of r) 0x1505) [
    | inl b ↦ inl (class_places r (inr (inl b)), rw b refl, rw b refl)
    | inr b ↦ elim (cases_eq (kind_of r) 0x1506) [
      | inl c ↦ inr (inl (union_places r c, c))
      | inr c ↦ elim (cases_eq (kind_of r) 0x1507) [
        | inl d ↦ inr (inr (enum_places r d, d))
        | inr d ↦ elim (cases_eq (kind_of r) 0x1519) [
          | inl e ↦ inl (class_places r (inr (inr e)), rw e refl, rw e refl)
          | inr e ↦ absurd (let none = rw (ne_eqb (kind_of r) 0x1504 a, ne_eqb (kind_of r) 0x1505 b, ne_eqb (kind_of r) 0x1506 c, ne_eqb (kind_of r) 0x1507 d, ne_eqb (kind_of r) 0x1519 e) at is in cc)
        ]
      ]
    ]
  ]
]

-- ---- a definition and its blank

pub properties_same : (r : List ℕ) → IsChecked r → Defines r → number_in 2 (body_of (blanked r)) 2 ≡ number_in 2 (body_of r) 2
properties_same r checked defined =
    two_same (body_of (blanked r)) (body_of r) 2 (body_len (blanked r) r (blanked_len r checked)) (λ k below. same_in_body r 2 k checked (before r k below defined))
  where
    before : (x : List ℕ) (k : ℕ) → k < 2 → Defines x → Outside (4 + (2 + k)) (places_of x)
    before x k below (inl (places, _, _)) = rw places (inl (omega (arith, below)), (inl (omega (arith, below)), (inl (omega (arith, below)), tt)))
    before x k below (inr (inl (places, _))) = rw places (inl (omega (arith, below)), tt)
    before x k below (inr (inr (places, _))) = rw places (inl (omega (arith, below)), (inl (omega (arith, below)), tt))

size_same : (r : List ℕ) (at : ℕ → List ℕ) → IsChecked r → Defines r → size_text (blanked r) at ≡ size_text r at
unfolding size_text
size_same r at checked (inl (places, a, b)) =
    let rest = same_rest r 16 checked (rw places (omega arith, (omega arith, (omega arith, tt)))) in
    rw (blanked_kind r checked, a, b) (numeric_same (body_of (blanked r)) (body_of r) 16 (body_len (blanked r) r (blanked_len r checked)) rest)
size_same r at checked (inr (inl (places, kind))) =
    let rest = same_rest r 8 checked (rw places (omega arith, tt)) in
    rw (blanked_kind r checked, kind) (numeric_same (body_of (blanked r)) (body_of r) 8 (body_len (blanked r) r (blanked_len r checked)) rest)
size_same r at checked (inr (inr (places, kind))) = rw (blanked_kind r checked, kind) refl

title_same : (words r : List ℕ) → IsChecked r → title words (blanked r) ≡ title words r
unfolding title
title_same words r checked = rw (same_name r checked, blanked_kind r checked) refl

end_same : (r : List ℕ) → IsChecked r → Defines r → end_of_head (blanked r) ≡ end_of_head r
unfolding end_of_head only_declares
end_same r checked defined = rw (properties_same r checked defined) refl

-- the parts of the text of a tree are those of its record
pub record SameParts (r words shown : List ℕ) (lines : List (List ℕ)) (t : Tree) : Type 0 where
  pub is : is_definition t ≡ true
  pub same_title : title_of t ≡ title words r
  pub same_size : definition_size t ≡ size_text r (λ place. cut 400 shown)
  pub same_end : end_of_head (blank_of t) ≡ end_of_head r
  pub same_lines : members_text t ≡ lines_text lines

-- a size names no type but that at the place 4
size_at : (r : List ℕ) (at : ℕ → List ℕ) → size_text r at ≡ size_text r (λ place. at 4)
unfolding size_text
size_at r at = refl

defined : (r b words : List ℕ) (bs : Branches) → IsChecked r → blanked r ≡ b → Some words ≡ defined_words (kind_of r)
    → SameParts r words (branch_text (codes "no type") 8 bs (position_of 4 (places_of r))) (lines_at bs (position_of (list_place (kind_of r)) (places_of r))) (tree b bs)
unfolding title_of definition_size members_text
defined r b words bs checked is some = record {
  is = rw (← is, blanked_kind r checked, ← some) refl;
  same_title = rw (← is, blanked_kind r checked, ← some) (title_same words r checked);
  same_size = rw (← is, blanked_places r checked) (size_same r (λ place. shown_type bs (position_of place (places_of r))) checked (defines r words some) ∙ size_at r (λ place. shown_type bs (position_of place (places_of r))));
  same_end = rw (← is) (end_same r checked (defines r words some));
  same_lines = rw (← is, blanked_kind r checked, blanked_places r checked) refl;
}

-- any other record has no text
undefined : (r b : List ℕ) (bs : Branches) → IsChecked r → blanked r ≡ b → defined_words (kind_of r) ≡ None → is_definition (tree b bs) ≡ false
undefined r b bs checked is none = rw (← is, blanked_kind r checked, none) refl

-- ---- its places

-- it has a type or a list at the place 4
pub has_four : (r : List ℕ) → Defines r → Has 4 (places_of r)
has_four r (inl (places, _, _)) = rw places (inl refl)
has_four r (inr (inl (places, _))) = rw places (inl refl)
has_four r (inr (inr (places, _))) = rw places (inl refl)

-- and its list at its own place
pub has_list : (r : List ℕ) → Defines r → Has (list_place (kind_of r)) (places_of r)
has_list r (inl (places, other, _)) = rw (other, places) (inl refl)
has_list r (inr (inl (places, kind))) = rw (kind, places) (inl refl)
has_list r (inr (inr (places, kind))) = rw (kind, places) (inr (inl refl))

-- the lines of the reference at a place are those of its branch
pub place_lines : (records : List (List ℕ)) (r : List ℕ) (bs : Branches) (p : ℕ) → IsChecked r → AreBranches records (references r) bs → Has p (places_of r)
    → AreLines records (number_in 4 (body_of r) p) (lines_at bs (position_of p (places_of r)))
place_lines records r bs p checked branches has =
    let there = at_position p (places_of r) has in
    let many : position_of p (places_of r) < length (references r) = omega (arith, there.0, reference_each r) in
    let told = lines_told records (references r) bs (position_of p (places_of r)) branches many in
    subst (λ (k : ℕ). AreLines records k (lines_at bs (position_of p (places_of r)))) (reference_there r p there ∙ sym (read_place r p checked has)) (any_depth _ _ _ _ told)
  where
    any_depth : (all : List (List ℕ)) (deep to : ℕ) (lines : List (List ℕ)) → GoOn all deep (Some to) lines → AreLines all to lines
    any_depth all deep to lines (inl none) = inl none
    any_depth all deep to lines (inr (large, t, stands, low, is)) = inr (large, t, stands, is)

-- ---- the tree of a record

-- a record that defines nothing
pub tree_undefined : (records : List (List ℕ)) (i : ℕ) (r : List ℕ) (t : Tree) → r ≡ get_or records i [] → IsChecked r → None ≡ defined_words (kind_of r) → IsTreeAt records i t → is_definition t ≡ false
tree_undefined records i r (tree b bs) own checked none stands = undefined r b bs checked (ap blanked own ∙ stands.1) (sym none)

pub nothing_told : (start : ℕ) (t : Tree) → is_definition t ≡ false → (definition_text t ≡ []) × (parts_of start t ≡ None)
unfolding definition_text parts_of
nothing_told start t none = (rw none refl, rw none refl)

-- a record that defines a type: the text of the type at its place 4, the lines of its list, and its parts
pub tree_defined : (records : List (List ℕ)) (i : ℕ) (r words : List ℕ) (t : Tree) → r ≡ get_or records i [] → IsChecked r → Some words ≡ defined_words (kind_of r) → IsTreeAt records i t
    → (shown : List ℕ) × (lines : List (List ℕ)) × IsTold records 8 (number_in 4 (body_of r) 4) shown × AreLines records (number_in 4 (body_of r) (list_place (kind_of r))) lines × SameParts r words shown lines t
tree_defined records i r words (tree b bs) own checked some stands =
    let d = defines r words some in
    let branches = subst (λ (x : List ℕ). AreBranches records (references x) bs) (sym own) stands.2 in (
      branch_text (codes "no type") 8 bs (position_of 4 (places_of r)),
      lines_at bs (position_of (list_place (kind_of r)) (places_of r)),
      place_told (codes "no type") records 8 r bs 4 checked branches (has_four r d),
      place_lines records r bs (list_place (kind_of r)) checked branches (has_list r d),
      defined r b words bs checked (ap blanked own ∙ stands.1) some,
    )

-- ---- its text

-- a text of four parts
pub record Grows (old a b c d one two three four : List ℕ) : Type 0 where
  pub first : a ≡ old ++ one
  pub second : b ≡ a ++ two
  pub third : c ≡ b ++ three
  pub fourth : d ≡ c ++ four

pub whole_text : (r words shown : List ℕ) (lines : List (List ℕ)) (t : Tree) (old a b c d : List ℕ) → SameParts r words shown lines t
    → Grows old a b c d (title words r) (size_text r (λ place. cut 400 shown)) (end_of_head r) (lines_text lines)
    → (d ≡ old ++ definition_text t) × (Some (record { size = length a; head = length b; lines = length c }) ≡ parts_of (length old) t)
unfolding definition_text parts_of
whole_text r words shown lines t old a b c d same grown =
    rw (same.is, same.same_title, same.same_size, same.same_end, same.same_lines, grown.fourth, grown.third, grown.second, grown.first) (
      simp append_assoc refl,
      simp length-append (simp add_assoc refl),
    )
