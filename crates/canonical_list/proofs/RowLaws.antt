-- How the records of a level continue a canonical list, once they are renumbered and sorted.
use Rattle.std.proofs.Common.{◌≡◌, ◌≢◌, ℕ, ◌+◌, ◌-◌, ◌<◌, ◌≤◌, List, [], ◌∷◌, ◌++◌, length, get_or, map, refl, sym, ap, ◌∙◌, subst, arith, inl, inr, length-append}
use Rattle.std.specs.declared.cmp.Ordering.{Ordering}
use Rattle.std.specs.declared.cmp.Ordering.TheVariants.{Less, Equal, Greater}
use Rattle.std.specs.Ordering.{nat_cmp}
use Rattle.std.specs.Cmp.Lexicographic.{slice_cmp}
use Rattle.std.specs.List.{AllByRecursion, Contains, AllPairs, concat}
use Rattle.std.proofs.lemmas.Bool.{cases_lt}
use Rattle.std.proofs.lemmas.List.{length-map, get_or-map, ext_get_or, get_or_default, get_or-append-add, get_or-append_right}
use Rattle.std.proofs.lemmas.List.Elements.{Contains-get_or}
use Rattle.std.proofs.lemmas.Map.Lookups.{exact_bytes}
use Rattle.std.proofs.Math.ListN.{get_or-append}
use Rattle.cv_leaves.specs.References.{references}
use Rattle.type_trees.specs.Tree.{Tree, Branches, tree, no_branch, simple, branch, nothing, branches_of, trees_in, IsClosed, IsTreeAt, AreBranches}
use Rattle.type_trees.specs.Depth.{depth, depth_over}
use Rattle.type_trees.specs.Canon.{position_in, text, Canonical, texts, HoldsBranches}
use Rattle.type_trees.specs.Table.{IsTable, renumbered}
use Rattle.canonical_list.specs.Rows.{row}
use Rattle.type_trees.proofs.TreeLaws.{one, standing_is_closed}
use Rattle.type_trees.proofs.SameLaws.{position_in-get_or, position_in-lt-length}
use Rattle.type_trees.proofs.TextLaws.{texts_differ}
use Rattle.type_trees.proofs.ReadLaws.{few, holds, text-at}
use Rattle.type_trees.proofs.LevelLaws.{text-more}
use Rattle.type_trees.proofs.CanonLaws.{position_in-below}
use Rattle.type_trees.proofs.TableLaws.{table_is_set, branches_stand, renumbered_is_text, EachNamed}
use Rattle.type_trees.proofs.NextLaws.{HoldsBelow, trees_of_table, next_level, branches_less_deep, all_held, IsLevelOf}
use Rattle.tpi_records.specs.Header.{first_index}
use Rattle.std.specs.Prelude.{suc}

-- f gives the position in l of each tree of r that is less deep than d
abbrev pub Numbers : List (List ℕ) → ℕ → List Tree → (ℕ → ℕ) → Type 0
Numbers r d l f = (k : ℕ) (t : Tree) → IsTreeAt r k t → depth t < d → f k ≡ position_in l t

-- ps are the positions of r whose trees have depth d, each once, in the order of their rows
pub record AreRows (r : List (List ℕ)) (d : ℕ) (f : ℕ → ℕ) (ps : List ℕ) : Type 0 where
  pub within : (k : ℕ) → k < length ps → get_or ps k 0 < length r
  pub deep : (k : ℕ) (t : Tree) → k < length ps → IsTreeAt r (get_or ps k 0) t → depth t ≡ d
  pub all : (i : ℕ) (t : Tree) → IsTreeAt r i t → depth t ≡ d → (k : ℕ) × (k < length ps) × (get_or ps k 0 ≡ i)
  pub distinct : AllPairs (λ i j. i ≢ j) ps
  pub sorted : (k : ℕ) → k + 1 < length ps → slice_cmp nat_cmp (row r f (get_or ps k 0)) (row r f (get_or ps (k + 1) 0)) ≢ Greater

-- the rows at the positions ps are the texts of a level, and the level continues the canonical list l
pub record LevelOf (r : List (List ℕ)) (d : ℕ) (l : List Tree) (f : ℕ → ℕ) (ps : List ℕ) : Type 0 where
  pub trees : List Tree
  pub many : length trees ≡ length ps
  pub stand : (k : ℕ) → k < length ps → IsTreeAt r (get_or ps k 0) (get_or trees k nothing)
  pub canonical : Canonical (l ++ trees)
  pub members : HoldsBelow r (suc d) (l ++ trees)
  pub rows : texts (l ++ trees) ≡ texts l ++ map (row r f) ps

-- the sorted rows of a level continue the canonical list of the levels before it
abbrev pub RowsContinue : Type 0
RowsContinue =
    (r : List (List ℕ)) (d : ℕ) (l : List Tree) (f : ℕ → ℕ) (ps : List ℕ) → IsTable r → length (concat r) ≤ 4294967295
    → Canonical l → HoldsBelow r d l → Numbers r d l f → AreRows r d f ps → LevelOf r d l f ps

-- the numbers are right after a level, if its records are numbered from the length of l on and all others keep their numbers
abbrev pub NumbersContinue : Type 0
NumbersContinue =
    (r : List (List ℕ)) (d : ℕ) (l : List Tree) (f g : ℕ → ℕ) (ps : List ℕ) → IsTable r → Canonical l → HoldsBelow r d l → Numbers r d l f → AreRows r d f ps
    → (level : LevelOf r d l f ps)
    → ((k : ℕ) → k < length ps → g (get_or ps k 0) ≡ length l + k)
    → ((i : ℕ) → (Contains ps i → ⊥) → g i ≡ f i)
    → Numbers r (suc d) (l ++ level.trees) g

-- the trees that a record names are less deep
named_less_deep : (r : List (List ℕ)) (d : ℕ) (ns : List ℕ) (bs : Branches) → AreBranches r ns bs → depth_over bs ≤ d → EachNamed r (λ k u. depth u < d) ns
unfolding depth
named_less_deep r d ns no_branch h le = subst (EachNamed r (λ k u. depth u < d)) (sym h) tt
named_less_deep r d ns (simple m bs) h le =
    let lt = h.3 in
    subst (EachNamed r (λ k u. depth u < d)) (sym h.2) (λ big u s. absurd (omega arith), named_less_deep r d h.1 bs h.5 le)
named_less_deep r d ns (branch t bs) h le =
    let head : depth t < d = omega arith in
    subst (EachNamed r (λ k u. depth u < d)) (sym h.2)
    (λ big u s. subst (λ (x : Tree). depth x < d) (one r (h.0 - first_index) t u h.4 s) head, named_less_deep r d h.1 bs h.5 (omega arith))

named_less : (r : List (List ℕ)) (i : ℕ) (t : Tree) → IsTreeAt r i t → EachNamed r (λ k u. depth u < depth t) (references (get_or r i []))
unfolding depth
named_less r i (tree b bs) h = named_less_deep r (depth_over bs) (references (get_or r i [])) bs h.2 (omega arith)

numbered : (r : List (List ℕ)) (d : ℕ) (l : List Tree) (f : ℕ → ℕ) (ns : List ℕ) → Numbers r d l f → EachNamed r (λ k u. depth u < d) ns → EachNamed r (λ k u. f k ≡ position_in l u) ns
numbered r d l f [] numbers each = tt
numbered r d l f (n ∷ ns) numbers each = (λ big u s. numbers (n - first_index) u s (each.0 big u s), numbered r d l f ns numbers each.1)

-- the row of a record is the text of its tree
pub row-text : (r : List (List ℕ)) (d : ℕ) (l : List Tree) (f : ℕ → ℕ) (i : ℕ) (t : Tree) → IsTable r → i < length r → Numbers r d l f → IsTreeAt r i t → depth t ≡ d → row r f i ≡ text l t
unfolding row renumbered
row-text r d l f i t table lt numbers h e =
    let less : EachNamed r (λ k u. depth u < d) (references (get_or r i [])) = subst (λ (x : ℕ). EachNamed r (λ k u. depth u < x) (references (get_or r i []))) e (named_less r i t h) in
    renumbered_is_text r l f i t (table.good.checked i lt) (numbered r d l f (references (get_or r i [])) numbers less) h

-- an order that is neither greater nor equal is less
strict : (o : Ordering) → o ≢ Greater → o ≢ Equal → o ≡ Less
strict Less a b = refl
strict Equal a b = absurd (b refl)
strict Greater a b = absurd (a refl)

texts-more : (r : List (List ℕ)) (f : ℕ → ℕ) (l m : List Tree) (ps : List ℕ) → length m ≡ length ps → Canonical l
    → ((k : ℕ) → k < length ps → HoldsBranches l (get_or m k nothing))
    → ((k : ℕ) → k < length ps → row r f (get_or ps k 0) ≡ text l (get_or m k nothing))
    → texts (l ++ m) ≡ texts l ++ map (row r f) ps
texts-more r f l m ps many c held row_is =
    let n : ℕ = length l in
    let both : List Tree = l ++ m in
    let a : length both ≡ n + length m = length-append l m in
    let b : length (texts both) ≡ length both = length-map both (text both) in
    let e : length (texts l) ≡ n = length-map l (text l) in
    let g : length (map (row r f) ps) ≡ length ps = length-map ps (row r f) in
    let h : length (texts l ++ map (row r f) ps) ≡ length (texts l) + length (map (row r f) ps) = length-append (texts l) (map (row r f) ps) in
    ext_get_or [] (texts both) (texts l ++ map (row r f) ps) (omega arith) (λ i lt.
    let in_both : i < length both = omega arith in
    let shown : get_or (texts both) i [] ≡ text both (get_or both i nothing) = text-at both i in_both in
    elim (cases_lt i n) [
      | inl low ↦
          let in_texts : i < length (texts l) = omega arith in
          let tree_at : get_or both i nothing ≡ get_or l i nothing = get_or-append l m nothing i low in
          let right : get_or (texts l ++ map (row r f) ps) i [] ≡ get_or (texts l) i [] = get_or-append (texts l) (map (row r f) ps) [] i in_texts in
          shown ∙ ap (text both) tree_at ∙ sym (text-more l m (get_or l i nothing) (holds l c i low)) ∙ sym (text-at l i low) ∙ sym right
      | inr high ↦
          let k : ℕ = i - n in
          let in_ps : k < length ps = omega arith in
          let tree_at : get_or both i nothing ≡ get_or m k nothing = get_or-append_right l m n i nothing refl high in
          let right : get_or (texts l ++ map (row r f) ps) i [] ≡ get_or (map (row r f) ps) k [] = get_or-append_right (texts l) (map (row r f) ps) n i [] e high in
          let at : get_or (map (row r f) ps) k [] ≡ row r f (get_or ps k 0) = get_or-map (row r f) ps k 0 [] in_ps in
          shown ∙ ap (text both) tree_at ∙ sym (text-more l m (get_or m k nothing) (held k in_ps)) ∙ sym (row_is k in_ps) ∙ sym at ∙ sym right
    ])

pub rows_continue : RowsContinue
rows_continue r d l f ps table light c below numbers rows =
    let s = trees_of_table r table in
    let g : ℕ → Tree = λ i. get_or s.0 i nothing in
    let m : List Tree = map g ps in
    let many : length m ≡ length ps = length-map ps g in
    let at : (k : ℕ) → k < length ps → get_or m k nothing ≡ g (get_or ps k 0) = λ k lt. get_or-map g ps k 0 nothing lt in
    let stand : (k : ℕ) → k < length ps → IsTreeAt r (get_or ps k 0) (get_or m k nothing) = λ k lt. rw (at k lt) (s.2 (get_or ps k 0) (rows.within k lt)) in
    let deep : (k : ℕ) → k < length ps → depth (get_or m k nothing) ≡ d = λ k lt. rows.deep k (get_or m k nothing) lt (stand k lt) in
    let row_is : (k : ℕ) → k < length ps → row r f (get_or ps k 0) ≡ text l (get_or m k nothing) = λ k lt. row-text r d l f (get_or ps k 0) (get_or m k nothing) table (rows.within k lt) numbers (stand k lt) (deep k lt) in
    let closed : (k : ℕ) → k < length ps → IsClosed (get_or m k nothing) = λ k lt. standing_is_closed r (get_or ps k 0) (get_or m k nothing) table.good (stand k lt) in
    let held : (k : ℕ) → k < length ps → AllByRecursion (Contains l) (trees_in (branches_of (get_or m k nothing))) = λ k lt.
    let us : List Tree = trees_in (branches_of (get_or m k nothing)) in
    all_held r d l us below (branches_stand r (get_or ps k 0) (get_or m k nothing) (stand k lt))
    (subst (λ (x : ℕ). AllByRecursion (λ u. depth u < x) us) (deep k lt) (branches_less_deep (get_or m k nothing))) in
    let ordered : (k : ℕ) → k + 1 < length m → slice_cmp nat_cmp (text l (get_or m k nothing)) (text l (get_or m (k + 1) nothing)) ≡ Less = λ k lt.
    let here : k < length ps = omega arith in
    let next : k + 1 < length ps = omega arith in
    let x : Tree = get_or m k nothing in
    let y : Tree = get_or m (k + 1) nothing in
    let weak : slice_cmp nat_cmp (text l x) (text l y) ≢ Greater = rw (← row_is k here, ← row_is (k + 1) next) (rows.sorted k next) in
    strict (slice_cmp nat_cmp (text l x) (text l y)) weak (λ e.
    let texts_same : text l x ≡ text l y = exact_bytes (text l x) (text l y) e in
    let same : x ≡ y = texts_differ l x y (few l c) (closed k here) (closed (k + 1) next) (held k here) (held (k + 1) next) texts_same in
    let clash : get_or ps k 0 ≡ get_or ps (k + 1) 0 = table_is_set r (get_or ps k 0) (get_or ps (k + 1) 0) y table (subst (IsTreeAt r (get_or ps k 0)) same (stand k here)) (stand (k + 1) next) in
    rows.distinct k (k + 1) 0 (omega arith) next clash) in
    let level : IsLevelOf r d l m = record {
      members = λ t. (
        λ h.
            let lt : h.0 < length ps = omega (arith, h.1, many) in
            let in_m = h.1 in
            let e : get_or m h.0 nothing ≡ t = get_or_default m h.0 nothing t in_m ∙ h.2 in
            ((get_or ps h.0 0, subst (IsTreeAt r (get_or ps h.0 0)) e (stand h.0 lt)), subst (λ (x : Tree). depth x ≡ d) e (deep h.0 lt)),
        λ h.
            let k = rows.all h.0.0 t h.0.1 h.1 in
            let lt : k.0 < length m = omega (arith, k.1, many) in
            let there : IsTreeAt r h.0.0 (get_or m k.0 nothing) = subst (λ (i : ℕ). IsTreeAt r i (get_or m k.0 nothing)) k.2 (stand k.0 k.1) in
            subst (Contains m) (one r h.0.0 (get_or m k.0 nothing) t there h.0.1) (Contains-get_or m k.0 nothing lt),
      );
      ordered = ordered;
    } in
    let next = next_level r d l m table light c below level in
    record { trees = m; many = many; stand = stand; canonical = next.0; members = next.1; rows = texts-more r f l m ps many c held row_is }

pub numbers_continue : NumbersContinue
numbers_continue r d l f g ps table c below numbers rows level put kept k t h less =
    let m : List Tree = level.trees in
    let both : List Tree = l ++ m in
    let long : length both ≡ length l + length m = length-append l m in
    let many = level.many in
    elim (cases_lt (depth t) d) [
      | inl low ↦
          let apart : Contains ps k → ⊥ = λ w.
          let in_ps = w.1 in
          let e : get_or ps w.0 0 ≡ k = get_or_default ps w.0 0 k in_ps ∙ w.2 in
          let deep = rows.deep w.0 t in_ps (subst (λ (i : ℕ). IsTreeAt r i t) (sym e) h) in
          omega arith in
          let held : position_in l t < length l = position_in-lt-length l t ((below t).1 ((k, h), low)) in
          let still : position_in both t ≡ position_in l t = position_in-below (length l) l both t (λ i lt. sym (get_or-append l m nothing i lt)) (omega arith) (omega arith) held in
          kept k apart ∙ numbers k t h low ∙ sym still
      | inr high ↦
          let deep : depth t ≡ d = omega arith in
          let j = rows.all k t h deep in
          let there : IsTreeAt r k (get_or m j.0 nothing) = subst (λ (i : ℕ). IsTreeAt r i (get_or m j.0 nothing)) j.2 (level.stand j.0 j.1) in
          let same : get_or m j.0 nothing ≡ t = one r k (get_or m j.0 nothing) t there h in
          let in_ps = j.1 in
          let at : get_or both (length l + j.0) nothing ≡ get_or m j.0 nothing = get_or-append-add l m j.0 nothing in
          let where_it_is : position_in both (get_or both (length l + j.0) nothing) ≡ length l + j.0 = position_in-get_or both (length l + j.0) level.canonical.distinct (omega arith) in
          let g_is : g k ≡ length l + j.0 = ap g (sym j.2) ∙ put j.0 j.1 in
          g_is ∙ sym where_it_is ∙ ap (position_in both) (at ∙ same)
    ]
