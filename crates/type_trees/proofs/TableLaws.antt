-- Laws of tables and of renumbered records.
use Rattle.std.proofs.Common.{◌≡◌, ℕ, ◌+◌, ◌-◌, ◌<◌, ◌≤◌, ◌^◌, List, [], ◌∷◌, ◌++◌, length, get_or, refl, sym, ap, ◌∙◌, subst, arith, inl, inr, length-append}
use Rattle.std.specs.List.{AllByRecursion}
use Rattle.std.proofs.lemmas.Bool.{cases_order, lt-ltb, le-ltb}
use Rattle.std.proofs.Math.ListN.{get_or-append}
use Rattle.cv_leaves.specs.References.{references, blanked, filled}
use Rattle.cv_leaves.specs.Place.{IsChecked}
use Rattle.type_trees.specs.Tree.{Tree, Branches, tree, no_branch, simple, branch, trees_in, IsTreeAt, AreBranches, IsType, branches_of}
use Rattle.type_trees.specs.Canon.{position_in, numbers, text}
use Rattle.byte_fields.specs.Bytes.{AreBytes}
use Rattle.type_trees.specs.Table.{IsTable, renumber_one, renumber}
use Rattle.cv_leaves.specs.Checks.{places_of}
use Rattle.cv_leaves.proofs.FilledLaws.{reference_each, filled_read, filled_blank, fill_blanked, own_fill}
use Rattle.tpi_records.specs.Header.{first_index}

-- P holds of each position that ns name and of each tree at that position
abbrev pub EachNamed : List (List ℕ) → (ℕ → Tree → Type 0) → List ℕ → Type 0
EachNamed r P ns = AllByRecursion (λ n. first_index ≤ n → (u : Tree) → IsTreeAt r (n - first_index) u → P (n - first_index) u) ns

-- a tree is at most at one position of a table
abbrev pub TableIsSet : Type 0
TableIsSet = (r : List (List ℕ)) (i j : ℕ) (t : Tree) → IsTable r → IsTreeAt r i t → IsTreeAt r j t → i ≡ j

-- if a tree is at a position of r, its branches are in r too
abbrev pub BranchesStand : Type 0
BranchesStand = (r : List (List ℕ)) (i : ℕ) (t : Tree) → IsTreeAt r i t → AllByRecursion (IsType r) (trees_in (branches_of t))

-- a renumbered record has the same tree, if it names the same trees
abbrev pub RenumberedStands : Type 0
RenumberedStands =
    (r s : List (List ℕ)) (f : ℕ → ℕ) (i j : ℕ) (t : Tree) → IsChecked (get_or r i []) → j < length s
    → get_or s j [] ≡ filled (get_or r i []) (renumber f (references (get_or r i [])))
    → EachNamed r (λ k u. (f k < 4294963200) × IsTreeAt s (f k) u) (references (get_or r i []))
    → IsTreeAt r i t → IsTreeAt s j t

-- a record is the text of its tree, once it is renumbered by positions in l
abbrev pub RenumberedIsText : Type 0
RenumberedIsText =
    (r : List (List ℕ)) (l : List Tree) (f : ℕ → ℕ) (i : ℕ) (t : Tree) → IsChecked (get_or r i [])
    → EachNamed r (λ k u. f k ≡ position_in l u) (references (get_or r i []))
    → IsTreeAt r i t → filled (get_or r i []) (renumber f (references (get_or r i []))) ≡ text l t

-- a tree stays at its position when more records are added after r
abbrev pub StandsStill : Type 0
StandsStill = (r s : List (List ℕ)) (i : ℕ) (t : Tree) → IsTreeAt r i t → IsTreeAt (r ++ s) i t

-- a tree stays at its position when more records are added after r
mutual
  pub stands_still : StandsStill
  stands_still r s i (tree b bs) h =
      let lt = h.0 in
      let long = length-append r s in
      let at : get_or (r ++ s) i [] ≡ get_or r i [] = get_or-append r s [] i lt in
      (omega arith, ap blanked at ∙ h.1, subst (λ (x : List ℕ). AreBranches (r ++ s) (references x) bs) (sym at) (branches_still r s (references (get_or r i [])) bs h.2))

  branches_still : (r s : List (List ℕ)) (ns : List ℕ) (bs : Branches) → AreBranches r ns bs → AreBranches (r ++ s) ns bs
  branches_still r s ns no_branch h = h
  branches_still r s ns (simple m bs) h = (h.0, h.1, h.2, h.3, h.4, branches_still r s h.1 bs h.5)
  branches_still r s ns (branch t bs) h = (h.0, h.1, h.2, h.3, stands_still r s (h.0 - first_index) t h.4, branches_still r s h.1 bs h.5)

-- the branches of a record that are trees are in r
named_stand : (r : List (List ℕ)) (ns : List ℕ) (bs : Branches) → AreBranches r ns bs → AllByRecursion (IsType r) (trees_in bs)
named_stand r ns no_branch h = tt
named_stand r ns (simple m bs) h = named_stand r h.1 bs h.5
named_stand r ns (branch t bs) h = ((h.0 - first_index, h.4), named_stand r h.1 bs h.5)

pub branches_stand : BranchesStand
branches_stand r i (tree b bs) h = named_stand r (references (get_or r i [])) bs h.2

-- renumbering keeps how many numbers there are
pub length-renumber : (f : ℕ → ℕ) (ns : List ℕ) → length (renumber f ns) ≡ length ns
unfolding renumber
length-renumber f [] = refl
length-renumber f (n ∷ ns) = let e = length-renumber f ns in omega arith

-- there is a number for each place
pub renumber-each : (f : ℕ → ℕ) (x : List ℕ) → length (renumber f (references x)) ≡ length (places_of x)
renumber-each f x = length-renumber f (references x) ∙ reference_each x

pub renumber-none : (f : ℕ → ℕ) → renumber f [] ≡ []
unfolding renumber
renumber-none f = refl

pub renumber-simple : (f : ℕ → ℕ) (n : ℕ) (ns : List ℕ) → n < first_index → renumber f (n ∷ ns) ≡ n ∷ renumber f ns
unfolding renumber renumber_one
renumber-simple f n ns lt = let e = lt-ltb n first_index lt in rw e refl

pub renumber-named : (f : ℕ → ℕ) (n : ℕ) (ns : List ℕ) → first_index ≤ n → renumber f (n ∷ ns) ≡ (first_index + f (n - first_index)) ∷ renumber f ns
unfolding renumber renumber_one
renumber-named f n ns le = let e = le-ltb n first_index le in rw e refl

-- the renumbered references are the numbers of the branches in l
renumber-numbers : (r : List (List ℕ)) (l : List Tree) (f : ℕ → ℕ) (ns : List ℕ) (bs : Branches) → EachNamed r (λ k u. f k ≡ position_in l u) ns → AreBranches r ns bs → renumber f ns ≡ numbers l bs
renumber-numbers r l f ns no_branch each h = ap (renumber f) h ∙ renumber-none f
renumber-numbers r l f ns (simple m bs) each h =
    let tail = subst (EachNamed r (λ k u. f k ≡ position_in l u)) h.2 each in
    let rest : renumber f h.1 ≡ numbers l bs = renumber-numbers r l f h.1 bs tail.1 h.5 in
    ap (renumber f) h.2 ∙ renumber-simple f h.0 h.1 h.3 ∙ ap (λ (k : ℕ). k ∷ renumber f h.1) h.4 ∙ ap (λ (x : List ℕ). m ∷ x) rest
renumber-numbers r l f ns (branch t bs) each h =
    let tail = subst (EachNamed r (λ k u. f k ≡ position_in l u)) h.2 each in
    let rest : renumber f h.1 ≡ numbers l bs = renumber-numbers r l f h.1 bs tail.1 h.5 in
    let at : f (h.0 - first_index) ≡ position_in l t = tail.0 h.3 t h.4 in
    ap (renumber f) h.2 ∙ renumber-named f h.0 h.1 h.3 ∙ ap (λ (k : ℕ). (first_index + k) ∷ renumber f h.1) at ∙ ap (λ (x : List ℕ). (first_index + position_in l t) ∷ x) rest

pub renumbered_is_text : RenumberedIsText
unfolding text
renumbered_is_text r l f i (tree b bs) ok each h =
    let x : List ℕ = get_or r i [] in
    let ns : List ℕ = renumber f (references x) in
    let same : ns ≡ numbers l bs = renumber-numbers r l f (references x) bs each h.2 in
    sym (fill_blanked x ns ok (renumber-each f x)) ∙ ap (λ (y : List ℕ). filled y ns) h.1 ∙ ap (filled b) same

-- a record is its blank filled with its references
own_parts : (x b : List ℕ) → IsChecked x → AreBytes x → blanked x ≡ b → filled b (references x) ≡ x
own_parts x b ok bytes e = ap (λ (y : List ℕ). filled y (references x)) (sym e) ∙ own_fill x ok bytes

-- a renumbered record has the same branches
renumber-branches : (r s : List (List ℕ)) (f : ℕ → ℕ) (ns : List ℕ) (bs : Branches) → EachNamed r (λ k u. (f k < 4294963200) × IsTreeAt s (f k) u) ns → AreBranches r ns bs → AreBranches s (renumber f ns) bs
renumber-branches r s f ns no_branch each h = ap (renumber f) h ∙ renumber-none f
renumber-branches r s f ns (simple m bs) each h =
    let tail = subst (EachNamed r (λ k u. (f k < 4294963200) × IsTreeAt s (f k) u)) h.2 each in
    (h.0, renumber f h.1, ap (renumber f) h.2 ∙ renumber-simple f h.0 h.1 h.3, h.3, h.4, renumber-branches r s f h.1 bs tail.1 h.5)
renumber-branches r s f ns (branch t bs) each h =
    let tail = subst (EachNamed r (λ k u. (f k < 4294963200) × IsTreeAt s (f k) u)) h.2 each in
    let e : first_index + f (h.0 - first_index) - first_index ≡ f (h.0 - first_index) = omega arith in
    let there = tail.0 h.3 t h.4 in
    (first_index + f (h.0 - first_index), renumber f h.1, ap (renumber f) h.2 ∙ renumber-named f h.0 h.1 h.3, omega arith, subst (λ (k : ℕ). IsTreeAt s k t) (sym e) there.1, renumber-branches r s f h.1 bs tail.1 h.5)

renumber-small : (r s : List (List ℕ)) (f : ℕ → ℕ) (ns : List ℕ) (bs : Branches) → EachNamed r (λ k u. (f k < 4294963200) × IsTreeAt s (f k) u) ns → AreBranches r ns bs → AllByRecursion (λ n. n < 2 ^ 32) (renumber f ns)
renumber-small r s f ns no_branch each h = subst (AllByRecursion (λ n. n < 2 ^ 32)) (sym (ap (renumber f) h ∙ renumber-none f)) tt
renumber-small r s f ns (simple m bs) each h =
    let tail = subst (EachNamed r (λ k u. (f k < 4294963200) × IsTreeAt s (f k) u)) h.2 each in
    let lt = h.3 in
    subst (AllByRecursion (λ n. n < 2 ^ 32)) (sym (ap (renumber f) h.2 ∙ renumber-simple f h.0 h.1 h.3)) (omega arith, renumber-small r s f h.1 bs tail.1 h.5)
renumber-small r s f ns (branch t bs) each h =
    let tail = subst (EachNamed r (λ k u. (f k < 4294963200) × IsTreeAt s (f k) u)) h.2 each in
    let there = tail.0 h.3 t h.4 in
    let lt = there.0 in
    subst (AllByRecursion (λ n. n < 2 ^ 32)) (sym (ap (renumber f) h.2 ∙ renumber-named f h.0 h.1 h.3)) (omega arith, renumber-small r s f h.1 bs tail.1 h.5)

pub renumbered_stands : RenumberedStands
renumbered_stands r s f i j (tree b bs) ok j_in same each h =
    let x : List ℕ = get_or r i [] in
    let ns : List ℕ = renumber f (references x) in
    let blanks : blanked (get_or s j []) ≡ b = ap blanked same ∙ filled_blank x ns ok ∙ h.1 in
    let named : references (get_or s j []) ≡ ns = ap references same ∙ filled_read x ns ok (renumber-each f x) (renumber-small r s f (references x) bs each h.2) in
    (j_in, blanks, subst (λ (y : List ℕ). AreBranches s y bs) (sym named) (renumber-branches r s f (references x) bs each h.2))

-- a tree is at most at one position of a table
mutual
  pub table_is_set : TableIsSet
  table_is_set r i j (tree b bs) table h k =
      let x : List ℕ = get_or r i [] in
      let y : List ℕ = get_or r j [] in
      let named : references x ≡ references y = same_refs r (references x) (references y) bs table h.2 k.2 in
      let ex : filled b (references x) ≡ x = own_parts x b (table.good.checked i h.0) (table.bytes i h.0) h.1 in
      let ey : filled b (references y) ≡ y = own_parts y b (table.good.checked j k.0) (table.bytes j k.0) k.1 in
      let same : x ≡ y = sym ex ∙ ap (filled b) named ∙ ey in
      elim (cases_order i j) [
        | inl e ↦ e
        | inr w ↦ elim w [
          | inl less ↦ absurd (table.distinct i j [] less k.0 same)
          | inr more ↦ absurd (table.distinct j i [] more h.0 (sym same))
        ]
      ]

  same_refs : (r : List (List ℕ)) (ns ms : List ℕ) (bs : Branches) → IsTable r → AreBranches r ns bs → AreBranches r ms bs → ns ≡ ms
  same_refs r ns ms no_branch table h k = h ∙ sym k
  same_refs r ns ms (simple m bs) table h k =
      let rest : h.1 ≡ k.1 = same_refs r h.1 k.1 bs table h.5 k.5 in
      let first : h.0 ≡ k.0 = h.4 ∙ sym k.4 in
      h.2 ∙ ap (λ (n : ℕ). n ∷ h.1) first ∙ ap (λ (z : List ℕ). k.0 ∷ z) rest ∙ sym k.2
  same_refs r ns ms (branch t bs) table h k =
      let rest : h.1 ≡ k.1 = same_refs r h.1 k.1 bs table h.5 k.5 in
      let at : h.0 - first_index ≡ k.0 - first_index = table_is_set r (h.0 - first_index) (k.0 - first_index) t table h.4 k.4 in
      let a = h.3 in
      let c = k.3 in
      let first : h.0 ≡ k.0 = omega arith in
      h.2 ∙ ap (λ (n : ℕ). n ∷ h.1) first ∙ ap (λ (z : List ℕ). k.0 ∷ z) rest ∙ sym k.2
