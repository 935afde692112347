-- How a table grows by a record.
use Rattle.std.proofs.Common.{Option, ◌≡◌, ◌≤◌, ◌<◌, ◌⊎◌, ◌^◌, ◌+◌, ◌-◌, ◌↔◌, ℕ, List, [], ◌∷◌, ◌++◌, length, take, drop, get_or, refl, sym, ap, ◌∙◌, subst, arith, inl, inr, length-append}
use Rattle.std.proofs.lemmas.Bool.{cases_lt}
use Rattle.std.proofs.lemmas.List.{take-append-le, take-append-drop, get_or_default}
use Rattle.std.proofs.lemmas.List.Elements.{Contains-get_or}
use Rattle.std.proofs.Math.ListN.{get_or-append}
use Rattle.std.proofs.Math.Seq.{get_or-append_seam}
use Rattle.std.specs.List.{AllByRecursion, Contains, concat}
use Rattle.tpi_records.specs.Records.{IsRecord}
use Rattle.cv_leaves.specs.Place.{IsChecked}
use Rattle.text_set.specs.TextSet.{Holds}
use Rattle.cv_leaves.specs.References.{references, blanked, filled}
use Rattle.type_trees.specs.Tree.{Tree, Branches, tree, no_branch, simple, branch, nothing, IsTreeAt, AreBranches, IsType, IsRanked, NamesLower}
use Rattle.type_trees.specs.Canon.{weight}
use Rattle.byte_fields.specs.Bytes.{AreBytes}
use Rattle.type_trees.specs.Table.{IsTable, IsUnion, renumber, renumbered}
use Rattle.canonical_list.specs.Numbers.{AreNumbers}
use Rattle.type_table.specs.Maps.{with_map}
use Rattle.type_table.specs.Merge.{StartsWith, IsAdded, IsAddedWithin}
use Rattle.type_table.specs.declared.fault.JoinFault.TheVariants as JoinFault
use Rattle.text_set.proofs.TextSetLaws.{four_each}
use Rattle.cv_leaves.proofs.FilledLaws.{filled_checked, filled_framed, filled_read}
use Rattle.type_trees.proofs.TreeLaws.{one}
use Rattle.type_trees.proofs.WeightLaws.{concat_push}
use Rattle.checked_types.proofs.OrderLaws.{NamesDone}
use Rattle.type_trees.proofs.TableLaws.{stands_still, renumbered_stands, renumber-each, renumber-none, renumber-simple, renumber-named, EachNamed}
use Rattle.type_table.proofs.PushLaws.{table_grows}
use Rattle.type_trees.proofs.NextLaws.{in_range, trees_of_table, table_weight, apart_of_table}
use Rattle.tpi_records.specs.Header.{first_index}

-- `after` is a table that begins with `before` and also has the types of the records that are done, and f gives the position of each of these in it
pub record Adds (records before after : List (List ℕ)) (f : ℕ → ℕ) (done : ℕ → Type 0) : Type 0 where
  pub table : IsTable after
  pub inside : (k : ℕ) → done k → f k < length after
  pub stand : (k : ℕ) (t : Tree) → done k → IsTreeAt records k t → IsTreeAt after (f k) t
  pub front : StartsWith after before
  pub others : (t : Tree) → IsType after t → IsType before t ⊎ IsType records t

-- ---- A renumbered record

renumbered_framed : (f : ℕ → ℕ) (r : List ℕ) → IsRecord r → IsChecked r → IsRecord (renumbered f r)
unfolding renumbered
renumbered_framed f r framed checked = filled_framed r (renumber f (references r)) checked framed

renumbered_checked : (f : ℕ → ℕ) (r : List ℕ) → IsChecked r → IsChecked (renumbered f r)
unfolding renumbered
renumbered_checked f r checked = filled_checked r (renumber f (references r)) checked

-- n is simple, or f gives it a position of the table
abbrev pub HasPosition : (List (List ℕ)) → (ℕ → ℕ) → ℕ → Type 0
HasPosition after f n = (n < first_index) ⊎ (f (n - first_index) < length after)

numbers_small : (after : List (List ℕ)) (f : ℕ → ℕ) (ns : List ℕ) → length after ≤ 4294963200 → AllByRecursion (HasPosition after f) ns → AllByRecursion (λ n. n < 2 ^ 32) (renumber f ns)
numbers_small after f [] few h = rw (renumber-none f) tt
numbers_small after f (n ∷ ns) few h = elim (cases_lt n first_index) [
  | inl small ↦ rw (renumber-simple f n ns small) (omega (arith, small), numbers_small after f ns few h.1)
  | inr large ↦ rw (renumber-named f n ns large) (elim h.0 [ inl small ↦ absurd (omega (arith, small, large)) | inr low ↦ omega (arith, low, few) ], numbers_small after f ns few h.1)
]

numbers_in : (after : List (List ℕ)) (f : ℕ → ℕ) (ns : List ℕ) → AllByRecursion (HasPosition after f) ns → AllByRecursion (λ n. (n < first_index) ⊎ (n - first_index < length after)) (renumber f ns)
numbers_in after f [] h = rw (renumber-none f) tt
numbers_in after f (n ∷ ns) h = elim (cases_lt n first_index) [
  | inl small ↦ rw (renumber-simple f n ns small) (inl small, numbers_in after f ns h.1)
  | inr large ↦ rw (renumber-named f n ns large) (inr (elim h.0 [ inl small ↦ absurd (omega (arith, small, large)) | inr low ↦ omega (arith, low) ]), numbers_in after f ns h.1)
]

pub renumbered-is : (f : ℕ → ℕ) (r : List ℕ) → renumbered f r ≡ filled r (renumber f (references r))
unfolding renumbered
renumbered-is f r = refl

-- the references of a renumbered record name records of the table
renumbered_names : (after : List (List ℕ)) (f : ℕ → ℕ) (r : List ℕ) → IsChecked r → length after ≤ 4294963200 → AllByRecursion (HasPosition after f) (references r) → references (renumbered f r) ≡ renumber f (references r)
renumbered_names after f r checked few h =
    ap references (renumbered-is f r) ∙ filled_read r (renumber f (references r)) checked (renumber-each f r) (numbers_small after f (references r) few h)

-- ---- The first records of a longer table

mutual
  -- a tree at a position of the first records is also there without the others
  pub stands_within : (r s : List (List ℕ)) (i : ℕ) (t : Tree) → IsRanked r (λ k. k) → i < length r → IsTreeAt (r ++ s) i t → IsTreeAt r i t
  stands_within r s i (tree b bs) ranked lt h =
      let at : get_or (r ++ s) i [] ≡ get_or r i [] = get_or-append r s [] i lt in
      (lt, ap blanked (sym at) ∙ h.1, branches_within r s i (references (get_or r i [])) bs ranked (ranked i lt) (subst (λ (x : List ℕ). AreBranches (r ++ s) (references x) bs) at h.2))

  branches_within : (r s : List (List ℕ)) (i : ℕ) (ns : List ℕ) (bs : Branches) → IsRanked r (λ k. k) → AllByRecursion (NamesLower r (λ k. k) i) ns → AreBranches (r ++ s) ns bs → AreBranches r ns bs
  branches_within r s i ns no_branch ranked lower h = h
  branches_within r s i ns (simple m bs) ranked lower h =
      let tail = subst (AllByRecursion (NamesLower r (λ k. k) i)) h.2 lower in
      (h.0, h.1, h.2, h.3, h.4, branches_within r s i h.1 bs ranked tail.1 h.5)
  branches_within r s i ns (branch t bs) ranked lower h =
      let tail = subst (AllByRecursion (NamesLower r (λ k. k) i)) h.2 lower in
      let below : h.0 - first_index < length r = elim tail.0 [ inl small ↦ absurd (omega (arith, small, h.3)) | inr low ↦ low.0 ] in
      (h.0, h.1, h.2, h.3, stands_within r s (h.0 - first_index) t ranked below h.4, branches_within r s i h.1 bs ranked tail.1 h.5)

-- a list begins with itself
pub starts_same : {A : Type 0} (xs : List A) → StartsWith xs xs
starts_same xs = (omega arith, all_taken xs)
  where
    all_taken : {A : Type 0} (ys : List A) → take (length ys) ys ≡ ys
    all_taken [] = refl
    all_taken (y ∷ ys) = ap (λ zs. y ∷ zs) (all_taken ys)

-- the front stays when an element is added at the end
pub starts_more : {A : Type 0} (front list : List A) (x : A) → StartsWith list front → StartsWith (list ++ x ∷ []) front
starts_more front list x starts = (omega (arith, starts.0, length-append list (x ∷ [])), take-append-le (length front) list (x ∷ []) starts.0 ∙ starts.1)

-- the front stays when a text is put in that may have been there already
pub front_holds : (before after grown : List (List ℕ)) (y : List ℕ) → Holds after grown y → StartsWith after before → StartsWith grown before
front_holds before after grown y holds front = elim holds [ inl same ↦ rw same front | inr more ↦ rw more.0 (starts_more before after y front) ]

-- the front and the rest are the whole list
pub starts_whole : {A : Type 0} (front list : List A) → StartsWith list front → front ++ drop (length front) list ≡ list
starts_whole front list starts = ap (λ xs. xs ++ drop (length front) list) (sym starts.1) ∙ take-append-drop (length front) list

-- a type of the first records is a type of all
pub front_stands : (before after : List (List ℕ)) (t : Tree) → StartsWith after before → IsType before t → IsType after t
front_stands before after t front (i, stands) =
    (i, subst (λ (x : List (List ℕ)). IsTreeAt x i t) (starts_whole before after front) (stands_still before (drop (length before) after) i t stands))

-- ---- One more record

done_placed : (records before after : List (List ℕ)) (f : ℕ → ℕ) (done : ℕ → Type 0) (ns : List ℕ) → Adds records before after f done → NamesDone done ns → AllByRecursion (HasPosition after f) ns
done_placed records before after f done [] adds names = tt
done_placed records before after f done (n ∷ ns) adds names = (elim names.0 [ inl small ↦ inl small | inr there ↦ inr (adds.inside (n - first_index) there) ], done_placed records before after f done ns adds names.1)

done_stands : (records before after grown : List (List ℕ)) (f : ℕ → ℕ) (done : ℕ → Type 0) (ns : List ℕ) → Adds records before after f done → length after ≤ 4294963200
    → ((k : ℕ) (t : Tree) → IsTreeAt after k t → IsTreeAt grown k t) → NamesDone done ns → EachNamed records (λ k u. (f k < 4294963200) × IsTreeAt grown (f k) u) ns
done_stands records before after grown f done [] adds few still names = tt
done_stands records before after grown f done (n ∷ ns) adds few still names = (
  λ large u stands. elim names.0 [
    | inl small ↦ absurd (omega (arith, small, large))
    | inr there ↦ (omega (arith, adds.inside (n - first_index) there, few), still (f (n - first_index)) u (adds.stand (n - first_index) u there stands))
  ],
  done_stands records before after grown f done ns adds few still names.1,
)

-- the tree of a record is where its renumbered record is in the grown table
row_stands : (records before after grown : List (List ℕ)) (f : ℕ → ℕ) (done : ℕ → Type 0) (i j : ℕ) (t : Tree) → IsChecked (get_or records i []) → Adds records before after f done → length after ≤ 4294963200
    → ((k : ℕ) (u : Tree) → IsTreeAt after k u → IsTreeAt grown k u) → NamesDone done (references (get_or records i [])) → j < length grown → get_or grown j [] ≡ renumbered f (get_or records i []) → IsTreeAt records i t → IsTreeAt grown j t
row_stands records before after grown f done i j t checked adds few still names inside at stands =
    renumbered_stands records grown f i j t checked inside (at ∙ renumbered-is f (get_or records i [])) (done_stands records before after grown f done (references (get_or records i [])) adds few still names) stands

-- the table is still a table after it has grown
grown_table : (records before after grown : List (List ℕ)) (f : ℕ → ℕ) (done : ℕ → Type 0) (r : List ℕ) → Adds records before after f done → length after ≤ 4294963200 → IsRecord r → IsChecked r → AreBytes (renumbered f r)
    → NamesDone done (references r) → Holds after grown (renumbered f r) → IsTable grown
grown_table records before after grown f done r adds few framed checked bytes names holds = elim holds [
  | inl same ↦ rw same adds.table
  | inr more ↦
      let placed = done_placed records before after f done (references r) adds names in
      rw more.0 (table_grows after (renumbered f r) adds.table (renumbered_framed f r framed checked) (renumbered_checked f r checked) bytes
      (rw (renumbered_names after f r checked few placed) (numbers_in after f (references r) placed)) more.1)
]

-- each tree stays at its position after the table has grown
still_stands : (after grown : List (List ℕ)) (y : List ℕ) → Holds after grown y → (k : ℕ) (t : Tree) → IsTreeAt after k t → IsTreeAt grown k t
still_stands after grown y holds k t stands = elim holds [ inl same ↦ rw same stands | inr more ↦ rw more.0 (stands_still after (y ∷ []) k t stands) ]

grown_long : (after grown : List (List ℕ)) (y : List ℕ) → Holds after grown y → length after ≤ length grown
grown_long after grown y holds = elim holds [ inl same ↦ rw same (omega arith) | inr more ↦ rw more.0 (omega (arith, length-append after (y ∷ []))) ]

-- one more record is done, if all that it names was done before
pub adds_more : (records before after grown : List (List ℕ)) (f g : ℕ → ℕ) (done more : ℕ → Type 0) (i j : ℕ) → Adds records before after f done → length after ≤ 4294963200 → IsRecord (get_or records i []) → IsChecked (get_or records i [])
    → ((t : Tree) × IsTreeAt records i t) → NamesDone done (references (get_or records i [])) → AreBytes (renumbered f (get_or records i [])) → Holds after grown (renumbered f (get_or records i []))
    → j < length grown → get_or grown j [] ≡ renumbered f (get_or records i []) → ((k : ℕ) → done k → g k ≡ f k) → g i ≡ j → ((k : ℕ) → more k → done k ⊎ (k ≡ i)) → Adds records before grown g more
adds_more records before after grown f g done more i j adds few framed checked there names bytes holds inside at kept put either =
    let still = still_stands after grown (renumbered f (get_or records i [])) holds in
    let long = grown_long after grown (renumbered f (get_or records i [])) holds in
    let row : (p : ℕ) (t : Tree) → p < length grown → get_or grown p [] ≡ renumbered f (get_or records i []) → IsTreeAt records i t → IsTreeAt grown p t = λ p t p_in p_at stands.
    row_stands records before after grown f done i p t checked adds few still names p_in p_at stands in
    record {
      table = grown_table records before after grown f done (get_or records i []) adds few framed checked bytes names holds;
      inside = λ k m. elim (either k m) [
        | inl old ↦ rw (kept k old) (omega (arith, adds.inside k old, long))
        | inr new ↦ rw (new, put) inside
      ];
      stand = λ k t m stands. elim (either k m) [
        | inl old ↦ rw (kept k old) (still (f k) t (adds.stand k t old stands))
        | inr new ↦ rw (new, put) (row j t inside at (rw new at stands))
      ];
      front = front_holds before after grown (renumbered f (get_or records i [])) holds adds.front;
      others = λ t h. elim holds [
        | inl same ↦ adds.others t (rw same at h)
        | inr new ↦ elim (cases_lt h.0 (length after)) [
          | inl low ↦ adds.others t (h.0, stands_within after (renumbered f (get_or records i []) ∷ []) h.0 t adds.table.lower low (rw new.0 at h.1))
          | inr high ↦
              let len : length grown ≡ length after + 1 = rw new.0 (length-append after (renumbered f (get_or records i []) ∷ [])) in
              let last : h.0 ≡ length after = omega (arith, high, len, in_range grown h.0 t h.1) in
              let here : get_or grown (length after) [] ≡ renumbered f (get_or records i []) = rw new.0 (get_or-append_seam after (renumbered f (get_or records i [])) [] []) in
              let own : IsTreeAt grown (length after) there.0 = row (length after) there.0 (omega (arith, len)) here there.1 in
              let same : there.0 ≡ t = one grown (length after) there.0 t own (subst (λ (k : ℕ). IsTreeAt grown k t) last h.1) in
              inr (i, subst (IsTreeAt records i) same there.1)
        ]
      ];
    }

-- ---- All records

-- nothing is added before the first record
pub adds_none : (records before : List (List ℕ)) (f : ℕ → ℕ) (done : ℕ → Type 0) → IsTable before → ((k : ℕ) → done k → ⊥) → Adds records before before f done
adds_none records before f done table none = record {
  table = table;
  inside = λ k d. absurd (none k d);
  stand = λ k t d stands. absurd (none k d);
  front = starts_same before;
  others = λ t h. inl h;
}

-- the table has the types of both after the last record
pub adds_all : (records before after : List (List ℕ)) (f : ℕ → ℕ) (done : ℕ → Type 0) → Adds records before after f done → ((k : ℕ) → k < length records → done k) → (t : Tree) → IsType after t ↔ (IsType before t ⊎ IsType records t)
adds_all records before after f done adds all t = (
  adds.others t,
  λ h. elim h [
    | inl old ↦ front_stands before after t adds.front old
    | inr new ↦ (f new.0, adds.stand new.0 t (all new.0 (in_range records new.0 t new.1)) new.1)
  ],
)

-- the trees of the table are the union, and they weigh as much as the table has bytes
pub union_weighs : (before types after : List (List ℕ)) → IsTable after → ((t : Tree) → IsType after t ↔ (IsType before t ⊎ IsType types t)) → (l : List Tree) × IsUnion l before types × (weight l ≡ length (concat after))
union_weighs before types after table same =
    let s = trees_of_table after table in (
      s.0,
      record {
        distinct = apart_of_table after table;
        members = λ t. (
          λ h.
              let e : get_or s.0 h.0 nothing ≡ t = get_or_default s.0 h.0 nothing t h.1 ∙ h.2 in
              (same t).0 (h.0, subst (IsTreeAt after h.0) e (s.2 h.0 (omega (arith, h.1, s.1)))),
          λ h.
              let w = (same t).1 h in
              let lt = in_range after w.0 t w.1 in
              let e : get_or s.0 w.0 nothing ≡ t = one after w.0 (get_or s.0 w.0 nothing) t (s.2 w.0 lt) w.1 in
              subst (Contains s.0) e (Contains-get_or s.0 w.0 nothing (omega (arith, lt, s.1))),
        );
      },
      table_weight after table,
    )

-- ---- How many records and bytes a table has

-- a table has few records
pub table_few : (after : List (List ℕ)) → IsTable after → length (concat after) < 2 ^ 33 → length after < 2 ^ 31
table_few after table short = omega (arith, four_each after (λ k inside. (table.good.framed k inside).long), short)

-- a table grows by at most the bytes of the record that is added
pub holds_short : (after grown : List (List ℕ)) (y : List ℕ) → Holds after grown y → length (concat grown) ≤ length (concat after) + length y
holds_short after grown y holds = elim holds [ inl same ↦ rw same (omega arith) | inr more ↦ rw more.0 (omega (arith, concat_push after y)) ]

-- if a table has more bytes than the limit, their number is the weight of the union
pub too_large : (before types after : List (List ℕ)) (found limit : ℕ) → (l : List Tree) × IsUnion l before types × (weight l ≡ length (concat after)) → found ≡ length (concat after) → limit < found
    → (bytes : ℕ) → JoinFault.TooLarge found ≡ JoinFault.TooLarge bytes → (limit < bytes) × ((l : List Tree) × IsUnion l before types × (weight l ≡ bytes))
too_large before types after found limit u is more bytes named =
    let same : found ≡ bytes = cc in
    (omega (arith, more, same), (u.0, u.1, u.2 ∙ sym is ∙ same))

-- ---- Types that were added

-- where the table is light enough, and the map was kept
pub added_within : (records before after : List (List ℕ)) (limit : ℕ) (numbers : List ℕ) (old new : Option (List (List ℕ))) → IsAdded records before after → StartsWith after before → AreNumbers records after numbers → length (concat after) ≤ limit
    → new ≡ with_map old numbers → IsAddedWithin records limit before after old new
added_within records before after limit numbers old new added front are light kept =
    let u = union_weighs before records after added.table added.value in
    record {
      value = added.value;
      front = front;
      within = (u.0, u.1, omega (arith, u.2, light));
      bytes = light;
      mapped = record { numbers = numbers; are = are; kept = kept };
    }
