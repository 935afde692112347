-- What is found among types, and the texts that are shown.
use Rattle.std.proofs.Common.{◌≡◌, ◌+◌, ◌<◌, ◌≤◌, ◌∙◌, ℕ, suc, cond, zero, Bool, true, false, List, [], ◌∷◌, ◌++◌, Option, Some, None, length, get_or, take, drop, set, map, refl, sym, ap, subst, arith, inl, inr}
use Rattle.std.proofs.lemmas.List.{append_assoc, append-nil, length-append, get_or_append_left, take_all, drop_all, drop_more}
use Rattle.std.proofs.Math.Seq.{get_or-append_seam}
use Rattle.std.proofs.lemmas.Bool.{cases_lt}
use Rattle.std.proofs.lemmas.List.Elements.{Contains-append_cases, Contains-append_left, Contains-append_right}
use Rattle.std.specs.List.{Contains, concat, list_any}
use Rattle.cv_leaves.specs.Checks.{kind_of}
use Rattle.cv_leaves.specs.Place.{IsChecked}
use Rattle.cv_leaves.specs.References.{blanked}
use Rattle.cv_leaves.proofs.FilledLaws.{blanked_kind}
use Rattle.type_trees.specs.Tree.{Tree, tree, nothing, blank_of, IsTreeAt, IsType}
use Rattle.type_trees.specs.Types.{AreTypes}
use Rattle.type_trees.proofs.DepthLaws.{next_record}
use Rattle.type_trees.proofs.TreeLaws.{at_position, one, tree_there}
use Rattle.type_expressions.specs.Asked.{AreTrees, is_meant, found_in, found_at, better, best, answered, is_best, is_shown, shown_texts}
use Rattle.type_expressions.specs.Definition.{defined_words, only_declares, definition_text}
use Rattle.type_expressions.specs.declared.asked.Asked.{Asked}
use Rattle.type_expressions.specs.declared.asked.Found.{Found}
use Rattle.type_expressions.specs.declared.asked.Found.TheVariants.{Nothing, Declared, Defined}
use Rattle.type_expressions.specs.declared.asked.Query.{Query}
use Rattle.type_expressions.specs.declared.asked.Query.TheVariants.{Index, Name}
use Rattle.type_expressions.proofs.BlankLaws.{same_named}
use Rattle.type_expressions.proofs.LinesLaws.{stands_inside}
use Rattle.type_expressions.proofs.DefinitionLaws.{defines, properties_same}

-- ---- a record and its blank

-- what defines a type is told by its kind
found_by : (r : List ℕ) (words : Option (List ℕ)) → words ≡ defined_words (kind_of r) → IsChecked r → found_in (blanked r) ≡ found_in r
unfolding found_in only_declares
found_by r None is checked = rw (blanked_kind r checked, ← is) refl
found_by r (Some words) is checked = rw (blanked_kind r checked, ← is, properties_same r checked (defines r words is)) refl

same_found : (r : List ℕ) → IsChecked r → found_in (blanked r) ≡ found_in r
same_found r checked = found_by r (defined_words (kind_of r)) refl checked

same_meant : (query : Query) (i : ℕ) (r : List ℕ) → IsChecked r → is_meant query i (blanked r) ≡ is_meant query i r
unfolding is_meant
same_meant (Index n) i r checked = refl
same_meant (Name name) i r checked = rw (same_named r checked) refl

pub same_found_at : (query : Query) (i : ℕ) (r : List ℕ) → IsChecked r → found_at query i (blanked r) ≡ found_at query i r
unfolding found_at
same_found_at query i r checked = rw (same_meant query i r checked, same_found r checked) refl

any_same : (asked : List Asked) (i : ℕ) (r : List ℕ) → IsChecked r → list_any (λ a. is_best a.found (found_at a.query i (blanked r))) asked ≡ list_any (λ a. is_best a.found (found_at a.query i r)) asked
any_same [] i r checked = refl
any_same (a ∷ others) i r checked = rw (same_found_at a.query i r checked, any_same others i r checked) refl

pub same_shown : (asked : List Asked) (i : ℕ) (r : List ℕ) → IsChecked r → is_shown asked i (blanked r) ≡ is_shown asked i r
unfolding is_shown
same_shown [] i r checked = rw (same_found r checked) refl
same_shown (a ∷ others) i r checked = any_same (a ∷ others) i r checked

-- ---- the best of several

better_nothing : (f : Found) → better f Nothing ≡ f
unfolding better
better_nothing Nothing = refl
better_nothing Declared = refl
better_nothing Defined = refl

better_assoc : (f g h : Found) → better (better f g) h ≡ better f (better g h)
unfolding better
better_assoc Nothing g h = refl
better_assoc Declared Nothing h = refl
better_assoc Declared Declared Nothing = refl
better_assoc Declared Declared Declared = refl
better_assoc Declared Declared Defined = refl
better_assoc Declared Defined h = refl
better_assoc Defined g h = refl

-- ---- one record after the other

-- the next of the records that are left, which passes its checks
pub next_checked : (records : List (List ℕ)) (k : ℕ) (left others : List (List ℕ)) (r : List ℕ) → AreTypes records → left ≡ drop k records → left ≡ r ∷ others
    → (k < length records) × (r ≡ get_or records k []) × IsChecked r × (others ≡ drop (k + 1) records)
next_checked records k left others r types is split =
    let next = next_record records k left others r is split in
    (next.1, next.0, rw next.0 (at_position IsChecked records k types.checked next.1), next.2)

-- the trees from a position on begin with that of its record
begins : (records : List (List ℕ)) (trees : List Tree) (k : ℕ) → AreTrees records trees → k < length records → drop k trees ≡ get_or trees k nothing ∷ drop (k + 1) trees
begins records trees k are below = drop_more trees k nothing (omega (arith, below, are.many))

blank_is : (records : List (List ℕ)) (trees : List Tree) (k : ℕ) (r : List ℕ) → AreTrees records trees → k < length records → r ≡ get_or records k [] → blank_of (get_or trees k nothing) ≡ blanked r
blank_is records trees k r are below is = of (get_or trees k nothing) (are.each k below)
  where
    of : (t : Tree) → IsTreeAt records k t → blank_of t ≡ blanked r
    of (tree b bs) stands = sym stands.1 ∙ ap blanked (sym is)

-- nothing is found before the first
pub best_starts : (query : Query) (trees : List Tree) → better Nothing (best query 0 (drop 0 trees)) ≡ best query 0 trees
unfolding better
best_starts query trees = refl

-- what is found so far is bettered by the next record
pub best_goes : (query : Query) (records : List (List ℕ)) (trees : List Tree) (k : ℕ) (r : List ℕ) (found : Found) → AreTrees records trees → k < length records → r ≡ get_or records k [] → IsChecked r
    → better found (best query k (drop k trees)) ≡ best query 0 trees
    → better (better found (found_at query k r)) (best query (k + 1) (drop (k + 1) trees)) ≡ best query 0 trees
unfolding best
best_goes query records trees k r found are below is checked so_far =
    let next : k + 1 ≡ suc k = omega arith in
    better_assoc found (found_at query k r) (best query (k + 1) (drop (k + 1) trees))
    ∙ (rw (begins records trees k are below, blank_is records trees k r are below is, same_found_at query k r checked, ← next) at so_far)

-- behind the last record nothing more is found
pub best_ends : (query : Query) (records : List (List ℕ)) (trees : List Tree) (k : ℕ) (found : Found) → AreTrees records trees → k ≡ length records
    → better found (best query k (drop k trees)) ≡ best query 0 trees → found ≡ best query 0 trees
unfolding best
best_ends query records trees k found are end so_far =
    sym (better_nothing found) ∙ (rw (drop_all k trees (omega (arith, end, are.many))) at so_far)

-- a text that is shown comes first
shown_first : (shown : Bool) (text : List ℕ) (rest : List (List ℕ)) → concat (cond shown (text ∷ []) [] ++ rest) ≡ cond shown text [] ++ concat rest
shown_first true text rest = refl
shown_first false text rest = refl

-- the text of a record that is shown comes next
pub shown_goes : (asked : List Asked) (records : List (List ℕ)) (trees : List Tree) (k : ℕ) (r old text more : List ℕ) → AreTrees records trees → k < length records → r ≡ get_or records k [] → IsChecked r
    → more ≡ text ++ cond (is_shown asked k r) (definition_text (get_or trees k nothing)) []
    → text ++ concat (shown_texts asked k (drop k trees)) ≡ old ++ concat (shown_texts asked 0 trees)
    → more ++ concat (shown_texts asked (k + 1) (drop (k + 1) trees)) ≡ old ++ concat (shown_texts asked 0 trees)
unfolding shown_texts
shown_goes asked records trees k r old text more are below is checked pushed so_far =
    let next : k + 1 ≡ suc k = omega arith in
    let rest = shown_texts asked (k + 1) (drop (k + 1) trees) in
    let here = definition_text (get_or trees k nothing) in
    ap (λ (xs : List ℕ). xs ++ concat rest) pushed
    ∙ append_assoc text (cond (is_shown asked k r) here []) (concat rest)
    ∙ ap (λ (xs : List ℕ). text ++ xs) (sym (shown_first (is_shown asked k r) here rest))
    ∙ (rw (begins records trees k are below, blank_is records trees k r are below is, same_shown asked k r checked, ← next) at so_far)

-- behind the last record there is no more text
pub shown_ends : (asked : List Asked) (records : List (List ℕ)) (trees : List Tree) (k : ℕ) (old text : List ℕ) → AreTrees records trees → k ≡ length records
    → text ++ concat (shown_texts asked k (drop k trees)) ≡ old ++ concat (shown_texts asked 0 trees) → text ≡ old ++ concat (shown_texts asked 0 trees)
unfolding shown_texts
shown_ends asked records trees k old text are end so_far =
    sym (append-nil text) ∙ (rw (drop_all k trees (omega (arith, end, are.many))) at so_far)

-- ---- all that is asked for

-- one more of a list is changed
one_more : {X : Type 0} (f : X → X) (xs : List X) (k : ℕ) (d : X) → k < length xs
    → set (map f (take k xs) ++ drop k xs) k (f (get_or (map f (take k xs) ++ drop k xs) k d)) ≡ map f (take (suc k) xs) ++ drop (suc k) xs
one_more f [] k d below = absurd (omega (arith, below))
one_more f (x ∷ xs) zero d below = refl
one_more f (x ∷ xs) (suc k) d below = ap (λ ys. f x ∷ ys) (one_more f xs k d (omega (arith, below)))

-- one more is answered
pub asked_goes : (trees : List Tree) (asked now : List Asked) (k : ℕ) (d : Asked) (found : Found) → k < length asked → now ≡ map (answered trees) (take k asked) ++ drop k asked → found ≡ best (get_or now k d).query 0 trees
    → set now k (record { query = (get_or now k d).query; found = found }) ≡ map (answered trees) (take (k + 1) asked) ++ drop (k + 1) asked
asked_goes trees asked now k d found below is best_is =
    let next : suc k ≡ k + 1 = omega arith in
    let so_far = map (answered trees) (take k asked) ++ drop k asked in
    rw (best_is, is) (subst (λ (m : ℕ). set so_far k (answered trees (get_or so_far k d)) ≡ map (answered trees) (take m asked) ++ drop m asked) next (one_more (answered trees) asked k d below))

-- behind the last one all are
pub asked_ends : (trees : List Tree) (asked now : List Asked) (k : ℕ) → length asked ≤ k → now ≡ map (answered trees) (take k asked) ++ drop k asked → now ≡ map (answered trees) asked
asked_ends trees asked now k end is =
    is ∙ (rw (take_all k asked end, drop_all k asked end) (append-nil (map (answered trees) asked)))

-- ---- the trees of all records

-- the trees of the first of them
some_trees : (records : List (List ℕ)) (many : ℕ) → AreTypes records → many ≤ length records
    → (trees : List Tree) × (length trees ≡ many) × ((i : ℕ) → i < many → IsTreeAt records i (get_or trees i nothing))
some_trees records zero types inside = ([], refl, λ i below. absurd (omega (arith, below)))
some_trees records (suc many) types inside =
    let fewer = some_trees records many types (omega (arith, inside)) in
    let last = tree_there records types.ranked.0 many types.ranked.1 (omega (arith, inside)) in
    let trees = fewer.0 ++ last.0 ∷ [] in
    let stands : IsTreeAt records many (get_or trees many nothing) = rw (ap (λ (k : ℕ). get_or trees k nothing) (sym fewer.1) ∙ get_or-append_seam fewer.0 last.0 [] nothing) last.1 in (
      trees,
      omega (arith, length-append fewer.0 (last.0 ∷ []), fewer.1),
      λ i below. elim (cases_lt i many) [
        | inl lower ↦ rw (get_or_append_left fewer.0 (last.0 ∷ []) nothing i (omega (arith, lower, fewer.1))) (fewer.2 i lower)
        | inr other ↦ let is : many ≡ i = omega (arith, other, below) in subst (λ (k : ℕ). IsTreeAt records k (get_or trees k nothing)) is stands
      ],
    )

pub all_trees : (records : List (List ℕ)) → AreTypes records → (trees : List Tree) × AreTrees records trees
all_trees records types =
    let all = some_trees records (length records) types (omega arith) in
    (all.0, record { many = all.1; each = all.2 })

-- ---- the definitions of the same types

-- the tree is a definition
abbrev IsShown : Tree → Type 0
IsShown t = is_best Defined (found_in (blank_of t)) ≡ true

one_shown : (shown : Bool) (text x : List ℕ) → Contains (cond shown (x ∷ []) []) text → (shown ≡ true) × (text ≡ x)
one_shown true text x (zero, below, is) = (refl, sym is)
one_shown true text x (suc k, below, is) = absurd (omega (arith, below))
one_shown false text x (k, below, is) = absurd (omega (arith, below))

-- a text that is shown is that of a tree that is a definition
shown_there : (trees : List Tree) (i : ℕ) (text : List ℕ) → Contains (shown_texts [] i trees) text
    → (k : ℕ) × (k < length trees) × IsShown (get_or trees k nothing) × (text ≡ definition_text (get_or trees k nothing))
unfolding shown_texts is_shown
shown_there [] i text (k, below, is) = absurd (omega (arith, below))
shown_there (t ∷ ts) i text has =
    elim (Contains-append_cases (cond (is_shown [] i (blank_of t)) (definition_text t ∷ []) []) (shown_texts [] (suc i) ts) text has) [
      | inl first ↦ let one = one_shown (is_shown [] i (blank_of t)) text (definition_text t) first in (0, omega arith, one.0, one.1)
      | inr other ↦ let there = shown_there ts (suc i) text other in (suc there.0, omega (arith, there.1), there.2, there.3)
    ]

-- the text of a tree that is a definition is shown
shown_here : (trees : List Tree) (i k : ℕ) → k < length trees → IsShown (get_or trees k nothing) → Contains (shown_texts [] i trees) (definition_text (get_or trees k nothing))
unfolding shown_texts is_shown
shown_here [] i k below is = absurd (omega (arith, below))
shown_here (t ∷ ts) i zero below is =
    Contains-append_left (cond (is_shown [] i (blank_of t)) (definition_text t ∷ []) []) (shown_texts [] (suc i) ts) (definition_text t) (rw is (0, omega arith, refl))
shown_here (t ∷ ts) i (suc k) below is =
    Contains-append_right (cond (is_shown [] i (blank_of t)) (definition_text t ∷ []) []) (shown_texts [] (suc i) ts) (definition_text (get_or ts k nothing)) (shown_here ts (suc i) k (omega (arith, below)) is)

pub same_types_same_definitions : (records others : List (List ℕ)) (trees other_trees : List Tree) → AreTrees records trees → AreTrees others other_trees → ((t : Tree) → IsType records t → IsType others t)
    → (text : List ℕ) → Contains (shown_texts [] 0 trees) text → Contains (shown_texts [] 0 other_trees) text
same_types_same_definitions records others trees other_trees are other_are types text has =
    let there = shown_there trees 0 text has in
    let t = get_or trees there.0 nothing in
    let other = types t (there.0, are.each there.0 (omega (arith, there.1, are.many))) in
    let inside = stands_inside others other.0 t other.1 in
    let same : t ≡ get_or other_trees other.0 nothing = one others other.0 t (get_or other_trees other.0 nothing) other.1 (other_are.each other.0 inside) in
    rw (there.3, same) (shown_here other_trees 0 other.0 (omega (arith, inside, other_are.many)) (rw same at there.2))
