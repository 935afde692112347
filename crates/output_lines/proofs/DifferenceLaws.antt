-- The lines of a difference: line by line, which records are shown, and when there are no lines.
use Rattle.std.proofs.Common.{◌≡◌, ◌<◌, ◌+◌, ◌↔◌, ℕ, zero, suc, List, [], ◌∷◌, ◌++◌, length, refl, sym, ◌∙◌, subst, arith, codes, append_assoc, inl, inr}
use Rattle.std.proofs.lemmas.List.{append-nil}
use Rattle.type_trees.specs.Tree.{Tree, IsType}
use Rattle.type_trees.specs.Types.{AreTypes}
use Rattle.type_trees.proofs.TreeLaws.{tree_there}
use Rattle.type_difference.specs.Difference.{IsLacked, IsOrigin, HasStanding, HaveStandings}
use Rattle.type_difference.specs.declared.standing.Standing.{Standing}
use Rattle.type_difference.specs.declared.standing.Standing.TheVariants.{Shared, Again, Follows, Origin}
use Rattle.type_difference.proofs.DifferenceLaws.{difference_begins, none_lacked}
use Rattle.tpi_records.specs.Header.{first_index}
use Rattle.output_lines.specs.Types.{type_line}
use Rattle.output_lines.specs.Difference.{IsSignedLine, AreLinesWhere, IsShown, ShowsStanding, ShowsDifference}
use Rattle.run_options.specs.declared.scope.Scope.{Scope}
use Rattle.run_options.specs.declared.scope.Scope.TheVariants.{All, Origins}

-- ---- Line by line

-- with the lines of these records after it, the text is `before` and the lines of all
abbrev pub BeginsLines : (ℕ → Type 0) → List ℕ → List (List ℕ) → List ℕ → List ℕ → ℕ → List (List ℕ) → Type 0
BeginsLines P sign all before text position left = (back : List ℕ) → AreLinesWhere P sign position left back → (lines : List ℕ) × AreLinesWhere P sign 0 all lines × (text ++ back ≡ before ++ lines)

-- a record that is shown adds its line
pub line_shown : (P : ℕ → Type 0) (sign : List ℕ) (all : List (List ℕ)) (before text new : List ℕ) (position : ℕ) (bytes : List ℕ) (left others : List (List ℕ)) → BeginsLines P sign all before text position left → left ≡ bytes ∷ others → P position
    → (line : List ℕ) × IsSignedLine sign (first_index + position) bytes line × (new ≡ text ++ line) → BeginsLines P sign all before new (position + 1) others
line_shown P sign all before text new position bytes left others so_far split has (line, is_line, added) back lines =
    let whole = so_far (line ++ back) (rw split (line, back, lines, refl, inl (has, is_line))) in
    (whole.0, whole.1, rw (added, append_assoc text line back) whole.2)

-- a record that is not shown adds nothing
pub line_hidden : (P : ℕ → Type 0) (sign : List ℕ) (all : List (List ℕ)) (before text : List ℕ) (position : ℕ) (bytes : List ℕ) (left others : List (List ℕ)) → BeginsLines P sign all before text position left → left ≡ bytes ∷ others → (P position → ⊥)
    → BeginsLines P sign all before text (position + 1) others
line_hidden P sign all before text position bytes left others so_far split hasnt back lines = so_far back (rw split ([], back, lines, refl, inr (hasnt, refl)))

-- where no records are left, the text is complete
pub shown_whole : (P : ℕ → Type 0) (sign : List ℕ) (all : List (List ℕ)) (before text : List ℕ) (position : ℕ) (left : List (List ℕ)) → BeginsLines P sign all before text position left → left ≡ []
    → (lines : List ℕ) × AreLinesWhere P sign 0 all lines × (text ≡ before ++ lines)
shown_whole P sign all before text position left so_far none =
    let whole = so_far [] (rw none refl) in
    (whole.0, whole.1, sym (append-nil text) ∙ whole.2)

-- ---- Which records are shown

-- a record whose type the others have is not lacked
shared_not : (records others : List (List ℕ)) (i : ℕ) → AreTypes records → HasStanding records others i Shared → IsLacked records others i → ⊥
shared_not records others i types has lacked =
    let here = tree_there records types.ranked.0 i types.ranked.1 lacked.inside in
    lacked.lacked here.0 here.1 (has here.0 here.1)

-- a record is not lacked if its type came before
again_not : (records others : List (List ℕ)) (i : ℕ) → AreTypes records → HasStanding records others i Again → IsLacked records others i → ⊥
again_not records others i types has lacked =
    let here = tree_there records types.ranked.0 i types.ranked.1 lacked.inside in
    let before = has.1 here.0 here.1 in
    omega (arith, lacked.first before.0 here.0 here.1 before.2, before.1)

-- a record is shown if its standing is
pub standing_shown : (scope : Scope) (s : Standing) (records others : List (List ℕ)) (i : ℕ) → HasStanding records others i s → ShowsStanding scope s → IsShown scope records others i
standing_shown scope Shared records others i has shows = absurd shows
standing_shown scope Again records others i has shows = absurd shows
standing_shown All Follows records others i has shows = has.0
standing_shown Origins Follows records others i has shows = absurd shows
standing_shown All Origin records others i has shows = has.lacked
standing_shown Origins Origin records others i has shows = has

-- a record is hidden if its standing is
pub standing_hidden : (scope : Scope) (s : Standing) (records others : List (List ℕ)) (i : ℕ) → AreTypes records → HasStanding records others i s → (ShowsStanding scope s → ⊥) → IsShown scope records others i → ⊥
standing_hidden All Shared records others i types has hides shown = shared_not records others i types has shown
standing_hidden Origins Shared records others i types has hides shown = shared_not records others i types has shown.lacked
standing_hidden All Again records others i types has hides shown = again_not records others i types has shown
standing_hidden Origins Again records others i types has hides shown = again_not records others i types has shown.lacked
standing_hidden All Follows records others i types has hides shown = hides tt
standing_hidden Origins Follows records others i types has hides shown = has.1 shown
standing_hidden scope Origin records others i types has hides shown = hides tt

-- a type that is shown is lacked
shown_lacked : (scope : Scope) (records others : List (List ℕ)) (i : ℕ) → IsShown scope records others i → IsLacked records others i
shown_lacked All records others i shown = shown
shown_lacked Origins records others i shown = shown.lacked

-- each scope shows the types where the difference begins
origin_shown : (scope : Scope) (records others : List (List ℕ)) (i : ℕ) → IsOrigin records others i → IsShown scope records others i
origin_shown All records others i origin = origin.lacked
origin_shown Origins records others i origin = origin

-- ---- Both lists

-- the lines of the first list, and then those of the second one, are the text
pub both_shown : (scope : Scope) (records others : List (List ℕ)) (standings theirs : List Standing) (before middle after : List ℕ) → HaveStandings records others standings → HaveStandings others records theirs
    → ((xs : List (List ℕ)) → HaveStandings records xs standings → (lines : List ℕ) × AreLinesWhere (IsShown scope records xs) (codes "- ") 0 records lines × (middle ≡ before ++ lines))
    → ((xs : List (List ℕ)) → HaveStandings others xs theirs → (lines : List ℕ) × AreLinesWhere (IsShown scope others xs) (codes "+ ") 0 others lines × (after ≡ middle ++ lines))
    → (lines : List ℕ) × ShowsDifference scope records others lines × (after ≡ before ++ lines)
both_shown scope records others standings theirs before middle after have their_have removes adds =
    let removed = removes others have in
    let added = adds records their_have in (
      removed.0 ++ added.0,
      record { removed = removed.0; added = added.0; removed_lines = removed.1; added_lines = added.1; whole = refl },
      added.2 ∙ rw removed.2 (append_assoc before removed.0 added.0),
    )

-- ---- No lines

-- both parts of an empty text are empty
empty_parts : (front back : List ℕ) → [] ≡ front ++ back → (front ≡ []) × (back ≡ [])
empty_parts [] back is = (refl, sym is)
empty_parts (x ∷ front) back is = absurd cc

-- where there are no lines, no record has P
none_there : (P : ℕ → Type 0) (c : ℕ) (cs : List ℕ) (position : ℕ) (records : List (List ℕ)) (text : List ℕ) → AreLinesWhere P (c ∷ cs) position records text → text ≡ [] → (i : ℕ) → i < length records → P (position + i) → ⊥
none_there P c cs position [] text lines empty i inside has = omega (arith, inside)
none_there P c cs position (bytes ∷ others) text (line, back, rest, whole, either) empty zero inside has =
    let parts = empty_parts line back (sym empty ∙ whole) in
    let here : position + 0 ≡ position = omega arith in
    elim either [
      | inl shown ↦
          let clash : line ≡ c ∷ (cs ++ type_line (first_index + position) bytes shown.1.0) = shown.1.2 in
          let none : line ≡ [] = parts.0 in
          absurd cc
      | inr hidden ↦ hidden.0 (subst P here has)
    ]
none_there P c cs position (bytes ∷ others) text (line, back, rest, whole, either) empty (suc i) inside has =
    let parts = empty_parts line back (sym empty ∙ whole) in
    let next : position + suc i ≡ position + 1 + i = omega arith in
    none_there P c cs (position + 1) others back rest parts.1 i (omega (arith, inside)) (subst P next has)

-- where no record has P, there are no lines
none_lines : (P : ℕ → Type 0) (sign : List ℕ) (position : ℕ) (records : List (List ℕ)) (text : List ℕ) → ((i : ℕ) → P i → ⊥) → AreLinesWhere P sign position records text → text ≡ []
none_lines P sign position [] text none lines = lines
none_lines P sign position (bytes ∷ others) text none (line, back, rest, whole, either) =
    let behind : back ≡ [] = none_lines P sign (position + 1) others back none rest in
    elim either [
      | inl shown ↦ absurd (none position shown.0)
      | inr hidden ↦ whole ∙ rw (hidden.1, behind) refl
    ]

-- ---- The same types

-- the others have all types of the records, if there are no lines for the records
all_held : (scope : Scope) (c : ℕ) (cs : List ℕ) (records others : List (List ℕ)) (text : List ℕ) → AreTypes records → AreTypes others → AreLinesWhere (IsShown scope records others) (c ∷ cs) 0 records text → text ≡ []
    → (t : Tree) → IsType records t → IsType others t
all_held scope c cs records others text types others_types lines empty t has =
    difference_begins records others types others_types (λ i origin.
    let zero_more : i ≡ 0 + i = omega arith in
    none_there (IsShown scope records others) c cs 0 records text lines empty i origin.lacked.inside (subst (IsShown scope records others) zero_more (origin_shown scope records others i origin))) t has

-- there are no lines for the records, if the others have all their types
none_shown : (scope : Scope) (sign : List ℕ) (records others : List (List ℕ)) (text : List ℕ) → AreTypes records → AreLinesWhere (IsShown scope records others) sign 0 records text → ((t : Tree) → IsType records t → IsType others t) → text ≡ []
none_shown scope sign records others text types lines held = none_lines (IsShown scope records others) sign 0 records text (λ i shown. none_lacked records others i types held (shown_lacked scope records others i shown)) lines

-- the text is empty exactly if both lists have the same types
pub empty_same : (scope : Scope) (records others : List (List ℕ)) (text : List ℕ) → AreTypes records → AreTypes others → ShowsDifference scope records others text → (text ≡ []) ↔ ((t : Tree) → IsType records t ↔ IsType others t)
empty_same scope records others text types others_types shows = (
  λ empty t.
      let parts = empty_parts shows.removed shows.added (sym empty ∙ shows.whole) in (
        all_held scope 45 (32 ∷ []) records others shows.removed types others_types shows.removed_lines parts.0 t,
        all_held scope 43 (32 ∷ []) others records shows.added others_types types shows.added_lines parts.1 t,
      ),
  λ same.
      let removed : shows.removed ≡ [] = none_shown scope (45 ∷ 32 ∷ []) records others shows.removed types shows.removed_lines (λ t h. (same t).0 h) in
      let added : shows.added ≡ [] = none_shown scope (43 ∷ 32 ∷ []) others records shows.added others_types shows.added_lines (λ t h. (same t).1 h) in
      shows.whole ∙ rw (removed, added) refl,
)
