-- How a table's canonical list is made, level by level.
use Rattle.std.proofs.Common.{◌≡◌, ◌≢◌, ◌≤◌, ◌<◌, ◌^◌, ◌+◌, ◌-◌, ℕ, suc, Option, Some, None, List, [], ◌∷◌, ◌++◌, length, map, set, take, get_or, refl, sym, ap, ◌∙◌, subst, arith, append_assoc, inl, inr, length-append}
use Rattle.std.proofs.lemmas.Bool.{cases_eq, cases_lt, cases_order}
use Rattle.std.proofs.lemmas.List.{get_or_default, get_or_append_left, ext_get_or, length-take-le, map-append, map_push, take_more, length-map, length-set, get_or-map, get_or-set_same, get_or-set_other}
use Rattle.std.proofs.lemmas.List.Elements.{All-append, All-push, Contains-get_or, Contains-append_left, Contains-append_right}
use Rattle.std.proofs.lemmas.List.Quantifiers.{all_pairs_push}
use Rattle.std.proofs.lemmas.List.Sorted.{All-permutation, Contains-permutation, IsPermutation-sym}
use Rattle.std.proofs.lemmas.Map.Keys.{IsDistinct-IsPermutation}
use Rattle.std.proofs.lemmas.Map.Made.{AllPairs-from_IsDistinct, IsDistinct-from_AllPairs}
use Rattle.std.proofs.lemmas.Bool.Decides.{Decides-eqb, eqb_tells}
use Rattle.std.specs.declared.cmp.Ordering.TheVariants.{Greater}
use Rattle.std.specs.Ordering.{nat_cmp}
use Rattle.std.specs.Cmp.Lexicographic.{slice_cmp}
use Rattle.std.proofs.Math.Seq.{get_or-append_seam}
use Rattle.std.specs.Prelude.{IfSome, IfNone, ◌==◌}
use Rattle.std.specs.List.{All, AllByRecursion, AllPairs, Contains, concat}
use Rattle.std.specs.List.Sorted.{IsPermutation}
use Rattle.packed_texts.specs.PackedTexts.{texts_at, IsOrder}
use Rattle.text_set.proofs.TextSetLaws.{four_each}
use Rattle.record_set.specs.RecordSet.{HasNamedPlaces}
use Rattle.record_set.proofs.PlaceLaws.{places_at}
use Rattle.cv_leaves.specs.Place.{IsChecked}
use Rattle.cv_leaves.specs.References.{references}
use Rattle.type_trees.specs.Tree.{Tree, nothing, IsTreeAt, IsType, NamesLower}
use Rattle.type_trees.specs.Depth.{AreDepths, HasLevels, depth}
use Rattle.type_trees.specs.Canon.{position_in, text, texts, Canonical}
use Rattle.type_trees.specs.Table.{IsTable, AreNumbered, renumbered}
use Rattle.canonical_list.specs.Links.{NoneFrom}
use Rattle.canonical_list.specs.declared.row.Row.{Row}
use Rattle.canonical_list.specs.Rows.{row, positions, AreInOrder, HasHead, HaveHeads}
use Rattle.canonical_list.specs.Numbers.{AreNumbers}
use Rattle.canonical_list.specs.Finish.{AtLevel, Numbered, CanRenumber, RowsMade, IsCanonOf}
use Rattle.type_trees.proofs.WeightLaws.{weight-none, weight_of_texts}
use Rattle.type_trees.proofs.RenumberLaws.{renumbered_long}
use Rattle.type_trees.proofs.NextLaws.{HoldsBelow, in_range, table_weighs_all}
use Rattle.canonical_list.proofs.LinkLaws.{bound}
use Rattle.canonical_list.proofs.RowLaws.{rows_continue, numbers_continue, AreRows, LevelOf, Numbers}
use Rattle.type_trees.proofs.ReadLaws.{canonical_reads_back, weight-many}
use Rattle.type_trees.proofs.SameLaws.{get_or-position_in, position_in-lt-length}
use Rattle.tpi_records.specs.Header.{first_index}

-- `out` is the canonical list of those types of r that are less deep than d, and f gives the position of each in it
pub record ListsBelow (r : List (List ℕ)) (d : ℕ) (out : List (List ℕ)) (f : ℕ → ℕ) : Type 0 where
  pub trees : List Tree
  pub canonical : Canonical trees
  pub holds : HoldsBelow r d trees
  pub are : out ≡ texts trees
  pub numbers : Numbers r d trees f

-- a table of fewer than 2^32 bytes has few records
pub table_small : (r : List (List ℕ)) → IsTable r → length (concat r) < 2 ^ 32 → length r < 2 ^ 30
table_small r table short = omega (arith, four_each r (λ k inside. (table.good.framed k inside).long), short)

-- ---- The positions of a level

-- ps are the positions from `from` on that have this depth, each once
pub record Collected (depths : List ℕ) (d from : ℕ) (ps : List ℕ) : Type 0 where
  pub within : (k : ℕ) → k < length ps → (get_or ps k 0 < length depths) × (from ≤ get_or ps k 0) × (get_or depths (get_or ps k 0) 0 ≡ d)
  pub all : (j : ℕ) → from ≤ j → j < length depths → get_or depths j 0 ≡ d → Contains ps j
  pub distinct : AllPairs (λ i j. i ≢ j) ps

none_collected : (depths : List ℕ) (d from : ℕ) → NoneFrom depths d from (length depths) → Collected depths d from []
none_collected depths d from none = record {
  within = λ k inside. absurd (omega (arith, inside));
  all = λ j low inside is. absurd (none j low inside is);
  distinct = λ i j x less inside. absurd (omega (arith, inside));
}

-- nothing is collected before the newest position of this depth
pub collected_first : (depths : List ℕ) (d : ℕ) (o : Option ℕ) → IfSome o (λ k. NoneFrom depths d (k + 1) (length depths)) → IfNone o (NoneFrom depths d 0 (length depths)) → Collected depths d (bound o) []
unfolding bound
collected_first depths d None last none = none_collected depths d 0 none
collected_first depths d (Some k) last none = none_collected depths d (k + 1) last

one_collected : (depths : List ℕ) (d position from : ℕ) (ps : List ℕ) → Collected depths d (position + 1) ps → position < length depths → get_or depths position 0 ≡ d → from ≤ position → NoneFrom depths d from position → Collected depths d from (ps ++ position ∷ [])
one_collected depths d position from ps h inside is low none = record {
  within = λ k k_in. elim (cases_lt k (length ps)) [
    | inl old ↦ let w = h.within k old in rw (get_or_append_left ps (position ∷ []) 0 k old) (w.0, omega (arith, w.1, low), w.2)
    | inr new ↦ let at : k ≡ length ps = omega (arith, new, k_in, length-append ps (position ∷ [])) in rw (at, get_or-append_seam ps position [] 0) (inside, low, is)
  ];
  all = λ j j_low j_in j_is. elim (cases_order j position) [
    | inl same ↦ Contains-append_right ps (position ∷ []) j (0, omega arith, sym same)
    | inr w ↦ elim w [
      | inl less ↦ absurd (none j j_low less j_is)
      | inr more ↦ Contains-append_left ps (position ∷ []) j (h.all j (omega (arith, more)) j_in j_is)
    ]
  ];
  distinct = all_pairs_push (λ i j. i ≢ j) ps position h.distinct (λ k x lt e. let w = h.within k lt in let same : get_or ps k 0 ≡ position = get_or_default ps k 0 x lt ∙ e in omega (arith, w.1, same));
}

-- one more position is collected, and the next one is the one before it
pub collected_next : (depths : List ℕ) (d position : ℕ) (o : Option ℕ) (ps : List ℕ) → Collected depths d (position + 1) ps → position < length depths → get_or depths position 0 ≡ d
    → IfSome o (λ k. (k < position) × (get_or depths k 0 ≡ get_or depths position 0)) → IfSome o (λ k. NoneFrom depths (get_or depths position 0) (k + 1) position) → IfNone o (NoneFrom depths (get_or depths position 0) 0 position)
    → Collected depths d (bound o) (ps ++ position ∷ [])
unfolding bound
collected_next depths d position None ps h inside is found last none = one_collected depths d position 0 ps h inside is (omega arith) (rw (← is) none)
collected_next depths d position (Some k) ps h inside is found last none = one_collected depths d position (k + 1) ps h inside is (omega (arith, found.0)) (rw (← is) last)

pub next_here : (depths : List ℕ) (d position : ℕ) (o : Option ℕ) → position < length depths → get_or depths position 0 ≡ d → IfSome o (λ k. (k < position) × (get_or depths k 0 ≡ get_or depths position 0)) → IfSome o (λ k. (k < length depths) × (get_or depths k 0 ≡ d))
next_here depths d position None inside is found = tt
next_here depths d position (Some k) inside is found = (omega (arith, found.0, inside), found.1 ∙ is)

pub all_collected : (depths : List ℕ) (d : ℕ) (ps : List ℕ) → Collected depths d 0 ps → AtLevel depths d ps
all_collected depths d ps h = record {
  within = λ k inside. let w = h.within k inside in (w.0, w.2);
  all = λ j inside is. h.all j (omega arith) inside is;
  distinct = h.distinct;
}

-- ---- Records that become rows where they lie

pub row_is : (r : List (List ℕ)) (f : ℕ → ℕ) (i : ℕ) → row r f i ≡ renumbered f (get_or r i [])
unfolding row
row_is r f i = refl

-- nothing is done yet
pub rows_none : (r : List (List ℕ)) (f : ℕ → ℕ) → RowsMade r r f []
rows_none r f = record {
  rows = λ k d inside. absurd (omega (arith, inside));
  others = λ k none. refl;
  many = refl;
  long = λ k. refl;
}

-- a record before those that are done is as it was
pub row_untouched : (before now : List (List ℕ)) (f : ℕ → ℕ) (ps : List ℕ) (position : ℕ) → RowsMade before now f ps → ((k : ℕ) → k < length ps → position < get_or ps k 0) → get_or now position [] ≡ get_or before position []
row_untouched before now f ps position made later = made.others position (λ c.
    let at : get_or ps c.0 0 ≡ position = get_or_default ps c.0 0 position c.1 ∙ c.2 in
    omega (arith, later c.0 c.1, at))

-- a record that becomes its row now
pub row_put : (before now : List (List ℕ)) (f : ℕ → ℕ) (ps : List ℕ) (position : ℕ) → RowsMade before now f ps → position < length before → ((k : ℕ) → k < length ps → position < get_or ps k 0)
    → get_or (set now position (renumbered f (get_or now position []))) position [] ≡ row before f position
row_put before now f ps position made inside later =
    let x : List ℕ = renumbered f (get_or now position []) in
    get_or-set_same now position x [] (omega (arith, inside, made.many)) ∙ ap (renumbered f) (row_untouched before now f ps position made later) ∙ sym (row_is before f position)

-- one more record becomes its row
pub rows_more : (before now : List (List ℕ)) (f : ℕ → ℕ) (ps : List ℕ) (position : ℕ) → RowsMade before now f ps → position < length before → ((k : ℕ) → k < length ps → position < get_or ps k 0) → IsChecked (get_or before position [])
    → RowsMade before (set now position (renumbered f (get_or now position []))) f (ps ++ position ∷ [])
rows_more before now f ps position made inside later checked =
    let still : get_or now position [] ≡ get_or before position [] = row_untouched before now f ps position made later in
    let x : List ℕ = renumbered f (get_or now position []) in
    let after : List (List ℕ) = set now position x in
    let here : get_or after position [] ≡ x = get_or-set_same now position x [] (omega (arith, inside, made.many)) in
    record {
      rows = All-push (λ p. get_or after p [] ≡ row before f p) ps position
          (λ k d k_in.
          let p : ℕ = get_or ps k d in
          let same : p ≡ get_or ps k 0 = get_or_default ps k d 0 k_in in
          get_or-set_other now position p x [] (λ e. omega (arith, later k k_in, e, same)) ∙ made.rows k d k_in)
          (row_put before now f ps position made inside later);
      others = λ k none.
          get_or-set_other now position k x [] (λ e. none (Contains-append_right ps (position ∷ []) k (0, omega arith, sym e)))
          ∙ made.others k (λ c. none (Contains-append_left ps (position ∷ []) k c));
      many = length-set now position x ∙ made.many;
      long = λ k. elim (cases_eq k position) [
        | inl same ↦ rw (same, here) (renumbered_long f (get_or now position []) (rw still checked) ∙ ap length still)
        | inr apart ↦ ap length (get_or-set_other now position k x [] apart) ∙ made.long k
      ];
    }

-- a record that is as it was can still become its row
pub still_ready : (before now places : List (List ℕ)) (numbers : List ℕ) (k : ℕ) → get_or now k [] ≡ get_or before k [] → CanRenumber before places numbers k → CanRenumber now places numbers k
still_ready before now places numbers k still ready = record { framed = rw still ready.framed; checked = rw still ready.checked; listed = rw still ready.listed; named = rw still ready.named }

-- all positions that are collected come after the next one
pub later_than : (depths : List ℕ) (d k : ℕ) (ps : List ℕ) → Collected depths d (k + 1) ps → (j : ℕ) → j < length ps → k < get_or ps j 0
later_than depths d k ps found j inside = omega (arith, (found.within j inside).1)

-- rows that have the heads of what their records become have the heads of their bytes
pub heads_made : (before after : List (List ℕ)) (f : ℕ → ℕ) (rows : List Row) → RowsMade before after f (positions rows) → All (λ p. HasHead 0 p.head (row before f p.position)) rows → HaveHeads 0 after rows
heads_made before after f rows made heads k d inside =
    let at : get_or (positions rows) k 0 ≡ (get_or rows k d).position = get_or-map (λ p. p.position) rows k d 0 inside in
    let made_there : get_or after (get_or rows k d).position [] ≡ row before f (get_or rows k d).position =
    subst (λ (i : ℕ). get_or after i [] ≡ row before f i) at (made.rows k 0 (omega (arith, inside, length-map rows (λ p. p.position)))) in
    rw made_there (heads k d inside)

-- one row more
pub positions_more : (rows : List Row) (p : Row) → positions (rows ++ p ∷ []) ≡ positions rows ++ p.position ∷ []
positions_more rows p = map_push (λ p. p.position) rows p

-- the rows of a level are those of records that are there
pub level_inside : (depths : List ℕ) (d n : ℕ) (rows : List Row) → AtLevel depths d (positions rows) → length depths ≡ n → All (λ p. p.position < n) rows
level_inside depths d n rows level many k e inside =
    let at = get_or-map (λ p. p.position) rows k e 0 inside in
    omega (arith, at, (level.within k (omega (arith, inside, length-map rows (λ p. p.position)))).0, many)

-- ---- What records name has numbers

pub names_numbered : (r : List (List ℕ)) (numbers : List ℕ) (i : ℕ) (ns : List ℕ) → length numbers ≡ length r → ((k : ℕ) → get_or numbers k 0 < 2 ^ 31) → AllByRecursion (NamesLower r (λ k. k) i) ns → AreNumbered numbers ns
names_numbered r numbers i [] many bounded lower = tt
names_numbered r numbers i (n ∷ ns) many bounded lower =
    (elim lower.0 [ inl small ↦ inl small | inr low ↦ inr (omega (arith, low.0, many), bounded (n - first_index)) ], names_numbered r numbers i ns many bounded lower.1)

-- ---- Rows in order

-- the next position is numbered
pub numbered_more : (ps : List ℕ) (first end : ℕ) (before numbers after : List ℕ) (position number : ℕ) → Numbered ps first end before numbers → end < length ps → position ≡ get_or ps end 0 → number ≡ first + end
    → get_or after position 0 ≡ number → ((i : ℕ) → i ≢ position → get_or after i 0 ≡ get_or numbers i 0) → Numbered ps first (end + 1) before after
numbered_more ps first end before numbers after position number h inside is counts here others = record {
  put = λ distinct k k_in. elim (cases_lt k end) [
    | inl old ↦ others (get_or ps k 0) (λ e. distinct k end 0 old inside (e ∙ is)) ∙ h.put distinct k old
    | inr new ↦ let at : k ≡ end = omega (arith, new, k_in) in rw (at, ← is, here) counts
  ];
  kept = λ i none. others i (λ e. none end (omega arith) (sym is ∙ sym e)) ∙ h.kept i (λ k old. none k (omega (arith, old)));
}

pub bounded_put : (numbers after : List ℕ) (position number : ℕ) → ((k : ℕ) → get_or numbers k 0 < 2 ^ 31) → number < 2 ^ 31 → get_or after position 0 ≡ number → ((i : ℕ) → i ≢ position → get_or after i 0 ≡ get_or numbers i 0) → (k : ℕ) → get_or after k 0 < 2 ^ 31
bounded_put numbers after position number bounded small here others k = elim (cases_order k position) [
  | inl same ↦ rw (same, here) small
  | inr w ↦ rw (others k (λ e. elim w [ inl less ↦ omega (arith, less, e) | inr more ↦ omega (arith, more, e) ])) (bounded k)
]

-- how many positions the order has, when some rows are in it
pub order_long : (rows : List Row) (before order : List ℕ) (k : ℕ) → order ≡ before ++ positions (take k rows) → k < length rows → length order ≡ length before + k
order_long rows before order k is inside =
    omega (arith, ap length is, length-append before (positions (take k rows)), length-map (take k rows) (λ p. p.position), length-take-le k rows (omega (arith, inside)))

-- the next row is in it
pub order_more : (rows : List Row) (before order : List ℕ) (k : ℕ) (d : Row) → order ≡ before ++ positions (take k rows) → k < length rows → order ++ (get_or rows k d).position ∷ [] ≡ before ++ positions (take (k + 1) rows)
order_more rows before order k d is inside =
    let last : positions (take (k + 1) rows) ≡ positions (take k rows) ++ (get_or rows k d).position ∷ [] = ap positions (take_more rows k d inside) ∙ positions_more (take k rows) (get_or rows k d) in
    ap (λ (x : List ℕ). x ++ (get_or rows k d).position ∷ []) is ∙ append_assoc before (positions (take k rows)) ((get_or rows k d).position ∷ []) ∙ ap (λ (x : List ℕ). before ++ x) (sym last)

-- ---- Rows that are ready for the list

flips : (x y : ℕ) → (x == y) ≡ (y == x)
flips x y = elim (eqb_tells x y) [
  | inl same ↦ rw same.1 refl
  | inr apart ↦ elim (eqb_tells y x) [
    | inl back ↦ absurd (apart.1 (sym back.1))
    | inr too ↦ apart.0 ∙ sym too.0
  ]
]

-- if positions in one order are those of a level, they are in any order
pub moved_level : (depths : List ℕ) (d : ℕ) (ps qs : List ℕ) → AtLevel depths d ps → IsPermutation ps qs → AtLevel depths d qs
moved_level depths d ps qs h moved = record {
  within = λ k inside.
      let c = Contains-permutation qs ps (get_or qs k 0) (IsPermutation-sym ps qs moved) (Contains-get_or qs k 0 inside) in
      let at : get_or ps c.0 0 ≡ get_or qs k 0 = get_or_default ps c.0 0 (get_or qs k 0) c.1 ∙ c.2 in
      let w = h.within c.0 c.1 in
      (rw at at w.0, rw at at w.1);
  all = λ j inside is. Contains-permutation ps qs j moved (h.all j inside is);
  distinct = AllPairs-from_IsDistinct Decides-eqb qs (IsDistinct-IsPermutation (λ x y. x == y) flips ps qs moved (IsDistinct-from_AllPairs Decides-eqb ps h.distinct));
}

-- the rows are those of the level at the positions ps, in order
pub record Ready (r : List (List ℕ)) (d : ℕ) (f : ℕ → ℕ) (rows : List (List ℕ)) (ps : List ℕ) : Type 0 where
  pub fit : rows ≡ map (row r f) ps
  pub are : AreRows r d f ps

level_rows : (r : List (List ℕ)) (d : ℕ) (f : ℕ → ℕ) (depths : List ℕ) (rows : List (List ℕ)) (ps : List ℕ) → rows ≡ map (row r f) ps → AtLevel depths d ps → length depths ≡ length r → AreDepths r depths
    → ((k : ℕ) → k + 1 < length ps → slice_cmp nat_cmp (get_or rows k []) (get_or rows (k + 1) []) ≢ Greater) → AreRows r d f ps
level_rows r d f depths rows ps fit level many known sorted = record {
  within = λ k inside. omega (arith, (level.within k inside).0, many);
  deep = λ k t inside stands. let w = level.within k inside in sym (known (get_or ps k 0) t w.0 stands) ∙ w.1;
  all = λ i t stands deep.
      let inside : i < length depths = omega (arith, in_range r i t stands, many) in
      let c = level.all i inside (known i t inside stands ∙ deep) in
      (c.0, c.1, get_or_default ps c.0 0 i c.1 ∙ c.2);
  distinct = level.distinct;
  sorted = λ k inside.
      let a : get_or rows k [] ≡ row r f (get_or ps k 0) = ap (λ (x : List (List ℕ)). get_or x k []) fit ∙ get_or-map (row r f) ps k 0 [] (omega (arith, inside)) in
      let b : get_or rows (k + 1) [] ≡ row r f (get_or ps (k + 1) 0) = ap (λ (x : List (List ℕ)). get_or x (k + 1) []) fit ∙ get_or-map (row r f) ps (k + 1) 0 [] inside in
      rw (← a, ← b) (sorted k inside);
}

-- the level by which the rows continue the list
level_of : (r : List (List ℕ)) (d : ℕ) (out rows : List (List ℕ)) (f : ℕ → ℕ) (ps : List ℕ) → IsTable r → length (concat r) < 2 ^ 32 → (l : ListsBelow r d out f) → Ready r d f rows ps → LevelOf r d l.trees f ps
level_of r d out rows f ps table short l h = rows_continue r d l.trees f ps table (omega (arith, short)) l.canonical l.holds l.numbers h.are

whole_list : (r : List (List ℕ)) (d : ℕ) (out rows : List (List ℕ)) (f : ℕ → ℕ) (ps : List ℕ) (table : IsTable r) (short : length (concat r) < 2 ^ 32) (l : ListsBelow r d out f) (h : Ready r d f rows ps)
    → out ++ rows ≡ texts (l.trees ++ (level_of r d out rows f ps table short l h).trees)
whole_list r d out rows f ps table short l h =
    let level = level_of r d out rows f ps table short l h in
    ap (λ (x : List (List ℕ)). x ++ rows) l.are ∙ ap (λ (x : List (List ℕ)). texts l.trees ++ x) h.fit ∙ sym level.rows

-- the list stays short
pub ready_count : (r : List (List ℕ)) (d : ℕ) (out rows : List (List ℕ)) (f : ℕ → ℕ) (ps : List ℕ) → IsTable r → length (concat r) < 2 ^ 32 → ListsBelow r d out f → Ready r d f rows ps → length out + length ps < 2 ^ 31
ready_count r d out rows f ps table short l h =
    let level = level_of r d out rows f ps table short l h in
    let both : List Tree = l.trees ++ level.trees in
    let a : length out ≡ length l.trees = ap length l.are ∙ length-map l.trees (text l.trees) in
    omega (arith, a, level.many, length-append l.trees level.trees, weight-many both level.canonical.closed, level.canonical.light)

-- the list and the numbers are right after the level is added
pub ready_listed : (r : List (List ℕ)) (d : ℕ) (out rows : List (List ℕ)) (ps before after : List ℕ) → IsTable r → length (concat r) < 2 ^ 32 → ListsBelow r d out (λ k. get_or before k 0) → Ready r d (λ k. get_or before k 0) rows ps
    → Numbered ps (length out) (length ps) before after → ListsBelow r (d + 1) (out ++ rows) (λ k. get_or after k 0)
ready_listed r d out rows ps before after table short l h numbered =
    let f : ℕ → ℕ = λ k. get_or before k 0 in
    let g : ℕ → ℕ = λ k. get_or after k 0 in
    let level = level_of r d out rows f ps table short l h in
    let a : length out ≡ length l.trees = ap length l.are ∙ length-map l.trees (text l.trees) in
    let next : suc d ≡ d + 1 = omega arith in
    subst (λ (n : ℕ). ListsBelow r n (out ++ rows) g) next (record {
      trees = l.trees ++ level.trees;
      canonical = level.canonical;
      holds = level.members;
      are = whole_list r d out rows f ps table short l h;
      numbers = numbers_continue r d l.trees f g ps table l.canonical l.holds l.numbers h.are level
          (λ k inside. numbered.put h.are.distinct k inside ∙ ap (λ (n : ℕ). n + k) a)
          (λ i none. numbered.kept i (λ k inside e. none (k, inside, get_or_default ps k i 0 inside ∙ e)));
    })

-- ---- From the first level to the last

-- before the first level the canonical list is empty
abbrev pub NothingListed : Type 0
NothingListed = Canonical [] × ((r : List (List ℕ)) → HoldsBelow r 0 []) × ((r : List (List ℕ)) (f : ℕ → ℕ) → Numbers r 0 [] f) × IsTable []

pub nothing_listed : NothingListed
nothing_listed =
    let light = weight-none in (
      record {
        closed = λ i lt. absurd (omega arith);
        distinct = λ i j d lt j_in. absurd (omega arith);
        light = omega arith;
        earlier = λ i lt. absurd (omega arith);
        ordered = λ i lt. absurd (omega arith);
      },
      λ r t. (λ h. let lt = h.1 in absurd (omega arith), λ h. let lt = h.1 in absurd (omega arith)),
      λ r f k t h lt. absurd (omega arith),
      record {
        good = record { framed = λ i lt. absurd (omega arith); checked = λ i lt. absurd (omega arith) };
        bytes = λ i lt. absurd (omega arith);
        lower = λ i lt. absurd (omega arith);
        distinct = λ i j d lt j_in. absurd (omega arith);
      },
    )

pub listed_none : (r : List (List ℕ)) (f : ℕ → ℕ) → ListsBelow r 0 [] f
listed_none r f = record { trees = []; canonical = nothing_listed.0; holds = nothing_listed.1 r; are = refl; numbers = nothing_listed.2 r f }

pub listed_all : (r : List (List ℕ)) (levels : ℕ) (out : List (List ℕ)) (f : ℕ → ℕ) → HasLevels r levels → ListsBelow r levels out f → IsCanonOf out (IsType r)
listed_all r levels out f has l = (
  l.trees,
  l.canonical,
  l.are,
  λ t. (
    λ c. ((l.holds t).0 c).0,
    λ h. (l.holds t).1 (h, has.all h.0 t (in_range r h.0 t h.1) h.1),
  ),
)

-- the number of each record is the position of its tree in the list
listed_stand : (r : List (List ℕ)) (levels : ℕ) (out : List (List ℕ)) (f : ℕ → ℕ) → HasLevels r levels → ListsBelow r levels out f → (i : ℕ) (t : Tree) → IsTreeAt r i t → IsTreeAt out (f i) t
listed_stand r levels out f has l i t at =
    let deep : depth t < levels = has.all i t (in_range r i t at) at in
    let p : ℕ = position_in l.trees t in
    let inside : p < length l.trees = position_in-lt-length l.trees t ((l.holds t).1 ((i, at), deep)) in
    let there : IsTreeAt (texts l.trees) p (get_or l.trees p nothing) = (canonical_reads_back l.trees l.canonical).stand p inside in
    rw (l.are, l.numbers i t at deep) (subst (λ (u : Tree). IsTreeAt (texts l.trees) p u) (get_or-position_in l.trees t inside) there)

-- ---- The order so far

-- the records that are less deep than d are listed: `order` has their positions in canonical order, and `numbers` the position of each in it; they became their rows in `now`, and all others are as they are in the table r
pub record IsListing (r now : List (List ℕ)) (depths : List ℕ) (d : ℕ) (order numbers : List ℕ) : Type 0 where
  pub listed : ListsBelow r d (texts_at now order) (λ k. get_or numbers k 0)
  pub below : All (λ p. (p < length r) × (get_or depths p 0 < d)) order
  pub others : (k : ℕ) → d ≤ get_or depths k 0 → get_or now k [] ≡ get_or r k []
  pub many : length now ≡ length r
  pub long : (k : ℕ) → length (get_or now k []) ≡ length (get_or r k [])
  pub numbered : length numbers ≡ length r
  pub bounded : (k : ℕ) → get_or numbers k 0 < 2 ^ 31

pub listing_none : (r : List (List ℕ)) (depths numbers : List ℕ) → length numbers ≡ length r → ((k : ℕ) → get_or numbers k 0 < 2 ^ 31) → IsListing r r depths 0 [] numbers
listing_none r depths numbers many bounded = record {
  listed = listed_none r (λ k. get_or numbers k 0);
  below = λ k d inside. absurd (omega (arith, inside));
  others = λ k deep. refl;
  many = refl;
  long = λ k. refl;
  numbered = many;
  bounded = bounded;
}

-- each record of the next level can become its row
pub can_renumber : (r now places : List (List ℕ)) (depths : List ℕ) (d : ℕ) (order numbers : List ℕ) (k : ℕ) → IsTable r → HasNamedPlaces r places → IsListing r now depths d order numbers → k < length now → get_or depths k 0 ≡ d → CanRenumber now places numbers k
can_renumber r now places depths d order numbers k table has l k_in deep =
    let inside : k < length r = omega (arith, k_in, l.many) in
    let still : get_or now k [] ≡ get_or r k [] = l.others k (omega (arith, deep)) in
    record {
      framed = rw still (table.good.framed k inside);
      checked = rw still (table.good.checked k inside);
      listed = rw still (places_at r places k has inside);
      named = rw still (names_numbered r numbers k (references (get_or r k [])) l.numbered l.bounded (table.lower k inside));
    }

-- two functions that are the same at these positions
same_at : (g h : ℕ → List ℕ) (ps : List ℕ) → ((k : ℕ) → k < length ps → g (get_or ps k 0) ≡ h (get_or ps k 0)) → map g ps ≡ map h ps
same_at g h ps same = ext_get_or [] (map g ps) (map h ps) (length-map ps g ∙ sym (length-map ps h)) (λ k inside.
    let k_in : k < length ps = omega (arith, inside, length-map ps g) in
    get_or-map g ps k 0 [] k_in ∙ same k k_in ∙ sym (get_or-map h ps k 0 [] k_in))

-- the records of the level became its rows, and stand in the order of their bytes
pub record LevelMade (now after : List (List ℕ)) (depths : List ℕ) (d : ℕ) (f : ℕ → ℕ) (ps qs : List ℕ) : Type 0 where
  pub made : RowsMade now after f ps
  pub level : AtLevel depths d ps
  pub moved : IsPermutation ps qs
  pub sorted : AreInOrder (texts_at after qs)

level_ready : (r now after : List (List ℕ)) (depths : List ℕ) (d : ℕ) (order numbers ps qs : List ℕ) → length depths ≡ length r → AreDepths r depths → IsListing r now depths d order numbers → LevelMade now after depths d (λ k. get_or numbers k 0) ps qs
    → Ready r d (λ k. get_or numbers k 0) (texts_at after qs) qs
level_ready r now after depths d order numbers ps qs many known l h =
    let f : ℕ → ℕ = λ k. get_or numbers k 0 in
    let at_level : AtLevel depths d qs = moved_level depths d ps qs h.level h.moved in
    let rows : All (λ p. get_or after p [] ≡ row now f p) qs = All-permutation (λ p. get_or after p [] ≡ row now f p) ps qs h.moved h.made.rows in
    let fit : texts_at after qs ≡ map (row r f) qs = same_at (λ p. get_or after p []) (row r f) qs (λ k inside.
    let p : ℕ = get_or qs k 0 in
    let still : get_or now p [] ≡ get_or r p [] = l.others p (omega (arith, (at_level.within k inside).1)) in
    rows k 0 inside ∙ row_is now f p ∙ ap (renumbered f) still ∙ sym (row_is r f p)) in
    record {
      fit = fit;
      are = level_rows r d f depths (texts_at after qs) qs fit at_level many known (λ k inside. h.sorted k (omega (arith, inside, length-map qs (λ p. get_or after p []))));
    }

-- the order stays short
pub listing_few : (r now after : List (List ℕ)) (depths : List ℕ) (d : ℕ) (order numbers ps qs : List ℕ) → IsTable r → length (concat r) < 2 ^ 32 → length depths ≡ length r → AreDepths r depths
    → IsListing r now depths d order numbers → LevelMade now after depths d (λ k. get_or numbers k 0) ps qs → length order + length qs < 2 ^ 31
listing_few r now after depths d order numbers ps qs table short many known l h =
    let few = ready_count r d (texts_at now order) (texts_at after qs) (λ k. get_or numbers k 0) qs table short l.listed (level_ready r now after depths d order numbers ps qs many known l h) in
    omega (arith, few, length-map order (λ p. get_or now p []))

-- the level is listed
pub listing_more : (r now after : List (List ℕ)) (depths : List ℕ) (d : ℕ) (order numbers numbers_after ps qs : List ℕ) → IsTable r → length (concat r) < 2 ^ 32 → length depths ≡ length r → AreDepths r depths
    → IsListing r now depths d order numbers → LevelMade now after depths d (λ k. get_or numbers k 0) ps qs → Numbered qs (length order) (length qs) numbers numbers_after
    → length numbers_after ≡ length numbers → ((k : ℕ) → get_or numbers_after k 0 < 2 ^ 31) → IsListing r after depths (d + 1) (order ++ qs) numbers_after
listing_more r now after depths d order numbers numbers_after ps qs table short many known l h numbered same bounded =
    let ready = level_ready r now after depths d order numbers ps qs many known l h in
    let at_level : AtLevel depths d qs = moved_level depths d ps qs h.level h.moved in
    let apart : (p : ℕ) → (get_or depths p 0 ≡ d → ⊥) → ¬ Contains ps p = λ p other c.
    let at : get_or ps c.0 0 ≡ p = get_or_default ps c.0 0 p c.1 ∙ c.2 in
    other (ap (λ (i : ℕ). get_or depths i 0) (sym at) ∙ (h.level.within c.0 c.1).1) in
    let kept : texts_at after order ≡ texts_at now order = same_at (λ p. get_or after p []) (λ p. get_or now p []) order (λ k inside.
    h.made.others (get_or order k 0) (apart (get_or order k 0) (λ e. omega (arith, e, (l.below k 0 inside).1)))) in
    let whole : texts_at after (order ++ qs) ≡ texts_at now order ++ texts_at after qs =
    map-append (λ p. get_or after p []) order qs ∙ ap (λ (x : List (List ℕ)). x ++ texts_at after qs) kept in
    let first : length (texts_at now order) ≡ length order = length-map order (λ p. get_or now p []) in
    record {
      listed = rw whole (ready_listed r d (texts_at now order) (texts_at after qs) qs numbers numbers_after table short l.listed ready (rw first numbered));
      below = All-append (λ p. (p < length r) × (get_or depths p 0 < d + 1)) order qs
          (λ k e inside. let b = l.below k e inside in (b.0, omega (arith, b.1)))
          (λ k e inside. let same_at_k : get_or qs k e ≡ get_or qs k 0 = get_or_default qs k e 0 inside in let w = at_level.within k inside in rw same_at_k (omega (arith, w.0, many), omega (arith, w.1)));
      others = λ k deep. h.made.others k (apart k (λ e. omega (arith, deep, e))) ∙ l.others k (omega (arith, deep));
      many = h.made.many ∙ l.many;
      long = λ k. h.made.long k ∙ l.long k;
      numbered = same ∙ l.numbered;
      bounded = bounded;
    }

-- ---- The whole order

-- the canonical list has as many bytes as the table
pub canon_weighs : (r out : List (List ℕ)) → IsTable r → IsCanonOf out (IsType r) → length (concat out) ≡ length (concat r)
canon_weighs r out table c =
    ap (λ (x : List (List ℕ)). length (concat x)) c.2 ∙ weight_of_texts c.0 c.1 ∙ table_weighs_all r c.0 table c.1.distinct c.3

-- texts that are as long have as many bytes together
as_many : (xs ys : List (List ℕ)) → length xs ≡ length ys → ((k : ℕ) → length (get_or xs k []) ≡ length (get_or ys k [])) → length (concat xs) ≡ length (concat ys)
as_many [] [] many long = refl
as_many [] (y ∷ ys) many long = absurd (omega (arith, many))
as_many (x ∷ xs) [] many long = absurd (omega (arith, many))
as_many (x ∷ xs) (y ∷ ys) many long =
    omega (arith, length-append x (concat xs), length-append y (concat ys), long 0, as_many xs ys (omega (arith, many)) (λ k. long (suc k)))

pub listing_canon : (r now : List (List ℕ)) (depths : List ℕ) (levels : ℕ) (order numbers : List ℕ) → HasLevels r levels → IsListing r now depths levels order numbers → IsCanonOf (texts_at now order) (IsType r)
listing_canon r now depths levels order numbers has l = listed_all r levels (texts_at now order) (λ k. get_or numbers k 0) has l.listed

pub listing_order : (r now : List (List ℕ)) (depths : List ℕ) (levels : ℕ) (order numbers : List ℕ) → IsTable r → HasLevels r levels → IsListing r now depths levels order numbers → IsOrder now order
listing_order r now depths levels order numbers table has l = record {
  inside = λ k d inside. let b = l.below k d inside in omega (arith, b.0, l.many);
  whole = canon_weighs r (texts_at now order) table (listing_canon r now depths levels order numbers has l) ∙ sym (as_many now r l.many l.long);
}

pub listing_numbers : (r now : List (List ℕ)) (depths : List ℕ) (levels : ℕ) (order numbers : List ℕ) → HasLevels r levels → IsListing r now depths levels order numbers → AreNumbers r (texts_at now order) numbers
listing_numbers r now depths levels order numbers has l = record {
  many = l.numbered;
  stand = listed_stand r levels (texts_at now order) (λ k. get_or numbers k 0) has l.listed;
}
