-- The lines of a field list, member by member, and from list to list.
use Rattle.std.proofs.Common.{◌≡◌, ◌≤◌, ◌<◌, ◌+◌, ◌-◌, ◌∙◌, ◌==◌, ℕ, zero, suc, true, cond, max, List, [], ◌∷◌, ◌++◌, Option, Some, None, length, drop, get_or, codes, refl, sym, ap, subst, arith, inl, inr}
use Rattle.std.specs.Prelude.{slice_get}
use Rattle.std.specs.Option.{option_map_or}
use Rattle.std.specs.List.{flat_map}
use Rattle.std.proofs.Math.Nat.{le-max_left, le-max_right}
use Rattle.std.proofs.lemmas.Bool.{cases_eq, eq-eqb, ne_eqb}
use Rattle.std.proofs.lemmas.Grind.{flat_map-append}
use Rattle.std.proofs.lemmas.List.{append_assoc, get_or-drop, drop-drop, drop_at, length-drop}
use Rattle.tpi_records.specs.Header.{first_index}
use Rattle.cv_leaves.specs.Checks.{kind_of}
use Rattle.cv_leaves.specs.Place.{IsChecked}
use Rattle.cv_leaves.specs.References.{references, blanked}
use Rattle.cv_leaves.specs.FieldList.{members_of, indices_of, IsWholeMember, AllDifferInIndices}
use Rattle.cv_leaves.proofs.FieldListLaws.{members_differ, members_name, no_members}
use Rattle.type_trees.specs.Tree.{Tree, Branches, tree, no_branch, simple, branch, IsTreeAt, AreBranches}
use Rattle.type_trees.specs.Depth.{depth, depth_over}
use Rattle.type_expressions.specs.Expression.{branch_text, IsTold}
use Rattle.type_expressions.specs.Field.{number_in}
use Rattle.type_expressions.specs.Member.{member_kind, member_line, names_type}
use Rattle.type_expressions.specs.Lines.{shown_type, member_lines, link_of, own_lines, rest_lines, list_lines, lines_at, lines_text, AreLines, GoOn}
use Rattle.type_expressions.proofs.BranchLaws.{first_of, next_of, shorter, branch_told, got, gone}
use Rattle.type_expressions.proofs.MemberLaws.{kind_same, line_same, many_same, type_index}

-- ---- a record and its blank

lines_same : (bs : Branches) (ms os : List (List ℕ)) (i : ℕ) → AllDifferInIndices ms os → member_lines bs os i ≡ member_lines bs ms i
unfolding member_lines
lines_same bs [] os i all = rw all refl
lines_same bs (m ∷ ms) os i all =
    let d = all.3 in
    rw (all.2, kind_same m all.0 d, line_same m all.0 (shown_type bs i) d, many_same m all.0 d, lines_same bs ms all.1 (i + length (indices_of m)) all.4) refl

link_same : (found : Option ℕ) (ms os : List (List ℕ)) (i : ℕ) → AllDifferInIndices ms os → link_of found os i ≡ link_of found ms i
unfolding link_of
link_same found [] os i all = rw all refl
link_same found (m ∷ ms) os i all =
    let d = all.3 in
    rw (all.2, kind_same m all.0 d, many_same m all.0 d) (link_same (cond (member_kind m == 0x1404) (Some i) found) ms all.1 (i + length (indices_of m)) all.4)

-- the lines of a tree are those of its record, and those in which they go on
pub lines_split : (r b : List ℕ) (bs : Branches) → IsChecked r → blanked r ≡ b → list_lines (tree b bs) ≡ own_lines r bs ++ rest_lines r bs
unfolding list_lines
lines_split r b bs checked is =
    let all = members_differ r checked in
    rw (← is, lines_same bs (members_of r) (members_of (blanked r)) 0 all, link_same None (members_of r) (members_of (blanked r)) 0 all) refl

-- ---- the list in which members go on

-- a list that is less deep is less deep than a greater depth
pub deeper : (records : List (List ℕ)) (deep more : ℕ) (next : Option ℕ) (lines : List (List ℕ)) → deep ≤ more → GoOn records deep next lines → GoOn records more next lines
deeper records deep more None lines le goes = goes
deeper records deep more (Some to) lines le (inl none) = inl none
deeper records deep more (Some to) lines le (inr (large, t, stands, low, is)) = inr (large, t, stands, omega (arith, low, le), is)

-- the lines of the branch at a position are those of the reference there
pub lines_told : (records : List (List ℕ)) (ns : List ℕ) (bs : Branches) (i : ℕ) → AreBranches records ns bs → i < length ns → GoOn records (depth_over bs) (Some (get_or ns i 0)) (lines_at bs i)
unfolding list_lines depth
lines_told records ns no_branch i h inside = absurd (omega (arith, inside, ap length h))
lines_told records ns (simple m bs) zero h inside =
    subst (λ (k : ℕ). GoOn records (depth_over bs) (Some k) []) (sym (first_of ns h.1 h.0 h.2)) (inl (h.3, refl))
lines_told records ns (simple m bs) (suc i) h inside =
    subst (λ (k : ℕ). GoOn records (depth_over bs) (Some k) (lines_at bs i)) (sym (next_of ns h.1 h.0 i h.2)) (lines_told records h.1 bs i h.5 (shorter ns h.1 h.0 i h.2 inside))
lines_told records ns (branch t bs) zero h inside =
    subst (λ (k : ℕ). GoOn records (max (suc (depth t)) (depth_over bs)) (Some k) (list_lines t)) (sym (first_of ns h.1 h.0 h.2)) (inr (h.3, t, h.4, omega (arith, le-max_left (suc (depth t)) (depth_over bs)), refl))
lines_told records ns (branch t bs) (suc i) h inside =
    subst (λ (k : ℕ). GoOn records (max (suc (depth t)) (depth_over bs)) (Some k) (lines_at bs i)) (sym (next_of ns h.1 h.0 i h.2))
    (deeper records (depth_over bs) (max (suc (depth t)) (depth_over bs)) (Some (get_or h.1 i 0)) (lines_at bs i) (le-max_right (suc (depth t)) (depth_over bs))
    (lines_told records h.1 bs i h.5 (shorter ns h.1 h.0 i h.2 inside)))

-- ---- member by member

-- the references that are left begin with the index of this member
pub reference_here : (ns : List ℕ) (m : List ℕ) (ms : List (List ℕ)) (i : ℕ) → flat_map indices_of (m ∷ ms) ≡ drop i ns → IsWholeMember m → names_type m ≡ true → (get_or ns i 0 ≡ number_in 4 m 4) × (i < length ns)
reference_here ns m ms i is whole names =
    let first = type_index m whole names in
    let left : drop i ns ≡ number_in 4 m 4 ∷ (first.0 ++ flat_map indices_of ms) = sym is ∙ ap (λ (xs : List ℕ). xs ++ flat_map indices_of ms) first.1 in
    let none : i + 0 ≡ i = omega arith in (
      ap (λ (k : ℕ). get_or ns k 0) (sym none) ∙ sym (get_or-drop i ns 0 0) ∙ ap (λ (xs : List ℕ). get_or xs 0 0) left,
      omega (arith, length-drop i ns, ap length left),
    )

-- the references that are left after it
pub references_left : (ns : List ℕ) (m : List ℕ) (ms : List (List ℕ)) (i : ℕ) → flat_map indices_of (m ∷ ms) ≡ drop i ns → flat_map indices_of ms ≡ drop (i + length (indices_of m)) ns
references_left ns m ms i is =
    sym (drop_at (indices_of m) (flat_map indices_of ms) (length (indices_of m)) refl) ∙ ap (λ (xs : List ℕ). drop (length (indices_of m)) xs) is ∙ drop-drop (length (indices_of m)) i ns

-- the members that were told so far: what is left, and where the members go on
pub record OwnSoFar (records : List (List ℕ)) (r : List ℕ) (bs : Branches) (left : List (List ℕ)) (old now : List ℕ) (next : Option ℕ) : Type 0 where
  pub at : ℕ
  pub refs : 0 < length left → flat_map indices_of left ≡ drop at (references r)
  pub text : now ++ lines_text (member_lines bs left at) ≡ old ++ lines_text (own_lines r bs)
  pub found : Option ℕ
  pub link : link_of found left at ≡ link_of None (members_of r) 0
  pub goes : GoOn records (depth_over bs) next (option_map_or (lines_at bs) found [])

-- the references of a record that has members are their indices
names_all : (r : List ℕ) → IsChecked r → 0 < length (members_of r) → flat_map indices_of (members_of r) ≡ references r
names_all r checked some = elim (cases_eq (kind_of r) 0x1203) [
  | inl kind ↦ members_name r checked kind
  | inr other ↦ absurd (omega (arith, some, ap length (no_members r other)))
]

-- before the first member
pub own_starts : (records : List (List ℕ)) (r : List ℕ) (bs : Branches) (old : List ℕ) → IsChecked r → OwnSoFar records r bs (members_of r) old old None
own_starts records r bs old checked = record {
  at = 0;
  refs = names_all r checked;
  text = refl;
  found = None;
  link = refl;
  goes = refl;
}

pub more_text : (lines more : List (List ℕ)) → lines_text (lines ++ more) ≡ lines_text lines ++ lines_text more
unfolding lines_text
more_text lines more = flat_map-append (λ (line : List ℕ). 32 ∷ 32 ∷ line ++ 10 ∷ []) lines more

-- a member that names a list
pub own_links : (records : List (List ℕ)) (r : List ℕ) (bs : Branches) (m : List ℕ) (ms : List (List ℕ)) (old now : List ℕ) (next : Option ℕ) → AreBranches records (references r) bs → IsWholeMember m → member_kind m ≡ 0x1404
    → OwnSoFar records r bs (m ∷ ms) old now next → OwnSoFar records r bs ms old now (Some (number_in 4 m 4))
unfolding member_lines link_of
own_links records r bs m ms old now next branches whole kind so_far =
    let names : names_type m ≡ true = rw kind refl in
    let here = reference_here (references r) m ms so_far.at (so_far.refs (omega arith)) whole names in
    let told = lines_told records (references r) bs so_far.at branches here.1 in
    record {
      at = so_far.at + length (indices_of m);
      refs = λ some. references_left (references r) m ms so_far.at (so_far.refs (omega arith));
      text = rw (eq-eqb (member_kind m) 0x1404 kind) at so_far.text;
      found = Some so_far.at;
      link = rw (eq-eqb (member_kind m) 0x1404 kind) at so_far.link;
      goes = subst (λ (k : ℕ). GoOn records (depth_over bs) (Some k) (lines_at bs so_far.at)) here.0 told;
    }

-- a member that has a line
pub own_tells : (records : List (List ℕ)) (r : List ℕ) (bs : Branches) (m : List ℕ) (ms : List (List ℕ)) (old now then_now : List ℕ) (next : Option ℕ) → (member_kind m ≡ 0x1404 → ⊥)
    → (so_far : OwnSoFar records r bs (m ∷ ms) old now next) → then_now ≡ now ++ lines_text (member_line m (shown_type bs so_far.at) ∷ []) → OwnSoFar records r bs ms old then_now next
unfolding member_lines link_of
own_tells records r bs m ms old now then_now next other so_far is =
    let line = member_line m (shown_type bs so_far.at) in
    let later = member_lines bs ms (so_far.at + length (indices_of m)) in
    let before : now ++ lines_text (line ∷ later) ≡ old ++ lines_text (own_lines r bs) = rw (ne_eqb (member_kind m) 0x1404 other) at so_far.text in
    record {
      at = so_far.at + length (indices_of m);
      refs = λ some. references_left (references r) m ms so_far.at (so_far.refs (omega arith));
      text = ap (λ (xs : List ℕ). xs ++ lines_text later) is ∙ append_assoc now (lines_text (line ∷ [])) (lines_text later)
          ∙ ap (λ (xs : List ℕ). now ++ xs) (sym (more_text (line ∷ []) later)) ∙ before;
      found = so_far.found;
      link = rw (ne_eqb (member_kind m) 0x1404 other) at so_far.link;
      goes = so_far.goes;
    }

-- the words of the type of a member
pub type_told : (records : List (List ℕ)) (r : List ℕ) (bs : Branches) (m : List ℕ) (ms : List (List ℕ)) (old now : List ℕ) (next : Option ℕ) → AreBranches records (references r) bs → IsWholeMember m
    → (so_far : OwnSoFar records r bs (m ∷ ms) old now next) → names_type m ≡ true → IsTold records 8 (number_in 4 m 4) (branch_text (codes "no type") 8 bs so_far.at)
type_told records r bs m ms old now next branches whole so_far names =
    let here = reference_here (references r) m ms so_far.at (so_far.refs (omega arith)) whole names in
    subst (λ (k : ℕ). IsTold records 8 k (branch_text (codes "no type") 8 bs so_far.at)) here.0 (branch_told (codes "no type") records 8 (references r) bs so_far.at branches here.1)

nothing_more : (xs : List ℕ) → xs ++ [] ≡ xs
nothing_more [] = refl
nothing_more (x ∷ xs) = ap (λ (ys : List ℕ). x ∷ ys) (nothing_more xs)

-- a tree that stands at a position is within the records
pub stands_inside : (records : List (List ℕ)) (i : ℕ) (t : Tree) → IsTreeAt records i t → i < length records
stands_inside records i (tree b bs) stands = stands.0

-- a list in which nothing goes on
pub nothing_there : (records : List (List ℕ)) (deep to position : ℕ) (lines : List (List ℕ)) → first_index + position ≡ to → slice_get records position ≡ None → GoOn records deep (Some to) lines → lines ≡ []
nothing_there records deep to position lines is none (inl simple_one) = simple_one.1
nothing_there records deep to position lines is none (inr (large, tree b bs, stands, _, _)) =
    let place : to - first_index ≡ position = omega (arith, is) in
    absurd (gone records position none (subst (λ (k : ℕ). k < length records) place stands.0))

-- a list in which members go on
pub list_there : (records : List (List ℕ)) (deep to position : ℕ) (r : List ℕ) (lines : List (List ℕ)) → first_index + position ≡ to → Some r ≡ slice_get records position → IsChecked r → GoOn records deep (Some to) lines
    → (bs : Branches) × AreBranches records (references r) bs × (depth_over bs < deep) × (lines ≡ own_lines r bs ++ rest_lines r bs)
unfolding depth
list_there records deep to position r lines is found checked (inl simple_one) = absurd (omega (arith, is, simple_one.0))
list_there records deep to position r lines is found checked (inr (large, tree b bs, stands, low, same)) =
    let place : to - first_index ≡ position = omega (arith, is) in
    let own : get_or records (to - first_index) [] ≡ r = ap (λ (k : ℕ). get_or records k []) place ∙ sym (got records position r found) in
    (bs, subst (λ (x : List ℕ). AreBranches records (references x) bs) own stands.2, low, same ∙ lines_split r b bs checked (ap blanked (sym own) ∙ stands.1))

-- the lines of what a reference names, as those of a list that is not as deep as this
pub lines_go : (records : List (List ℕ)) (deep to : ℕ) (lines : List (List ℕ)) → ((t : Tree) → first_index ≤ to → IsTreeAt records (to - first_index) t → depth t < deep) → AreLines records to lines → GoOn records deep (Some to) lines
lines_go records deep to lines low (inl none) = inl none
lines_go records deep to lines low (inr (large, t, stands, is)) = inr (large, t, stands, low t large stands, is)

-- where no list may follow, no line does
pub none_left : (records : List (List ℕ)) (deep : ℕ) (next : Option ℕ) (lines : List (List ℕ)) → deep ≤ 0 → GoOn records deep next lines → lines ≡ []
none_left records deep None lines none goes = goes
none_left records deep (Some to) lines none (inl simple_one) = simple_one.1
none_left records deep (Some to) lines none (inr (large, t, stands, low, is)) = absurd (omega (arith, none, low))

-- no list more
pub lists_end : (text old : List ℕ) (rest all : List (List ℕ)) → rest ≡ [] → text ++ lines_text rest ≡ old ++ lines_text all → text ≡ old ++ lines_text all
unfolding lines_text
lists_end text old rest all none so_far = sym (nothing_more text) ∙ (rw none at so_far)

-- after the last member of a list
pub own_ends : (records : List (List ℕ)) (r : List ℕ) (bs : Branches) (old now : List ℕ) (next : Option ℕ) → OwnSoFar records r bs [] old now next
    → (now ≡ old ++ lines_text (own_lines r bs)) × GoOn records (depth_over bs) next (rest_lines r bs)
unfolding member_lines link_of lines_text
own_ends records r bs old now next so_far =
    (sym (nothing_more now) ∙ so_far.text, subst (λ (o : Option ℕ). GoOn records (depth_over bs) next (option_map_or (lines_at bs) o [])) so_far.link so_far.goes)
