-- How the records of a stream are added to a table one by one, as they stand there.
use Rattle.std.proofs.Common.{◌≡◌, ◌≤◌, ◌<◌, ◌+◌, ◌^◌, ℕ, List, [], ◌∷◌, ◌++◌, length, drop, get_or, refl, sym, ap, ◌∙◌, subst, arith, inl, inr, length-append}
use Rattle.std.proofs.lemmas.Bool.{cases_lt}
use Rattle.std.proofs.lemmas.List.{drop_at}
use Rattle.std.proofs.Math.ListN.{get_or-append}
use Rattle.std.proofs.Math.Seq.{get_or-append_seam}
use Rattle.std.specs.List.{AllByRecursion, concat}
use Rattle.tpi_records.specs.Header.{first_index}
use Rattle.tpi_records.specs.Records.{IsRecord, Begins, BeginsWith}
use Rattle.tpi_records.proofs.FramingLaws.{begins_next}
use Rattle.cv_leaves.specs.Place.{IsChecked}
use Rattle.cv_leaves.specs.References.{references}
use Rattle.type_trees.specs.Tree.{IsRanked}
use Rattle.type_trees.specs.Types.{AreTypes, NamesThere}
use Rattle.type_trees.specs.Table.{IsTable, renumbered}
use Rattle.type_trees.proofs.NextLaws.{in_range}
use Rattle.type_trees.proofs.TreeLaws.{tree_there}
use Rattle.type_trees.proofs.TableLaws.{stands_still}
use Rattle.type_trees.proofs.RenumberLaws.{renumbered_long}
use Rattle.checked_types.proofs.CheckLaws.{by_position, lower_names}
use Rattle.checked_types.proofs.OrderLaws.{NamesDone}
use Rattle.type_table.specs.Merge.{IsPut, AreFramedAdded}
use Rattle.type_table.proofs.AddLaws.{Adds, adds_more, adds_none, adds_all, stands_within, table_few, holds_short}

-- the record at this position has places, and names only earlier records
pub record IsEarly (records : List (List ℕ)) (k : ℕ) : Type 0 where
  pub checked : IsChecked (get_or records k [])
  pub earlier : NamesThere k (references (get_or records k []))

-- each record is such a one
abbrev pub AreEarly : List (List ℕ) → Type 0
AreEarly records = (k : ℕ) → k < length records → IsEarly records k

-- then each has a rank: its position
early_ranked : (records : List (List ℕ)) → AreEarly records → IsRanked records (λ k. k)
early_ranked records early k inside = lower_names records k (references (get_or records k [])) inside (early k inside).earlier

-- and the records are types
early_types : (records : List (List ℕ)) → AllByRecursion IsRecord records → AreEarly records → AreTypes records
early_types records framed early = record {
  framed = framed;
  checked = by_position IsChecked records (λ k inside. (early k inside).checked);
  ranked = (λ k. k, early_ranked records early);
}

-- one more record that names only those before it
early_more : (records : List (List ℕ)) (r : List ℕ) → AreEarly records → IsChecked r → NamesThere (length records) (references r) → AreEarly (records ++ r ∷ [])
early_more records r early checked there k inside = elim (cases_lt k (length records)) [
  | inl low ↦
      let at : get_or (records ++ r ∷ []) k [] ≡ get_or records k [] = get_or-append records (r ∷ []) [] k low in
      record { checked = rw at (early k low).checked; earlier = rw at (early k low).earlier }
  | inr high ↦
      let last : length records ≡ k = omega (arith, high, inside, length-append records (r ∷ [])) in
      let at : get_or (records ++ r ∷ []) (length records) [] ≡ r = get_or-append_seam records r [] [] in
      subst (IsEarly (records ++ r ∷ [])) last (record { checked = rw at checked; earlier = rw at there })
]

-- what names only the first n positions names those below n
names_below : (n : ℕ) (ns : List ℕ) → NamesThere n ns → NamesDone (λ k. k < n) ns
names_below n [] there = tt
names_below n (m ∷ ns) there = (elim (cases_lt m first_index) [ inl small ↦ inl small | inr large ↦ inr (omega (arith, large, there.0)) ], names_below n ns there.1)

-- what is added of the first records is added of a longer list
adds_longer : (records more before after : List (List ℕ)) (f : ℕ → ℕ) → AreEarly records → Adds records before after f (λ k. k < length records) → Adds (records ++ more) before after f (λ k. k < length records)
adds_longer records more before after f early adds = record {
  table = adds.table;
  inside = adds.inside;
  stand = λ k t low stands. adds.stand k t low (stands_within records more k t (early_ranked records early) low stands);
  front = adds.front;
  others = λ t h. elim (adds.others t h) [ inl old ↦ inl old | inr (i, stands) ↦ inr (i, stands_still records more i t stands) ];
}

-- the first records of the bytes are added, each has a number, and these bytes are left
pub record IsAddingFramed (bytes left : List ℕ) (before after : List (List ℕ)) (numbers : List ℕ) : Type 0 where
  pub front : List (List ℕ)
  pub begins : Begins bytes front left
  pub many : length numbers ≡ length front
  pub early : AreEarly front
  pub adds : Adds front before after (λ p. get_or numbers p 0) (λ k. k < length front)
  pub light : length (concat after) + length left ≤ length (concat before) + length bytes

-- at the start none is added
pub framed_starts : (bytes : List ℕ) (before : List (List ℕ)) (numbers : List ℕ) → IsTable before → numbers ≡ [] → IsAddingFramed bytes bytes before before numbers
framed_starts bytes before numbers table none = record {
  front = [];
  begins = record { parts = refl; each = tt };
  many = ap length none;
  early = λ k inside. absurd (omega (arith, inside));
  adds = adds_none [] before (λ p. get_or numbers p 0) (λ k. k < 0) table (λ k inside. omega (arith, inside));
  light = omega arith;
}

-- the next record and those of the table have few bytes
pub framed_few : (bytes left r rest : List ℕ) (before after : List (List ℕ)) (numbers : List ℕ) → IsAddingFramed bytes left before after numbers → length (concat before) < 2 ^ 32 → length bytes < 2 ^ 32 → left ≡ r ++ rest
    → length (concat after) + length r < 2 ^ 33
framed_few bytes left r rest before after numbers a short few split = omega (arith, a.light, short, few, ap length split, length-append r rest)

-- the bytes begin with the record, and the rest comes behind it
pub split_front : (left r : List ℕ) → BeginsWith left r → left ≡ r ++ drop (length r) left
split_front left r begins =
    let rest : drop (length r) left ≡ begins.rest = ap (drop (length r)) begins.parts ∙ drop_at r begins.rest (length r) refl in
    begins.parts ∙ ap (λ (xs : List ℕ). r ++ xs) (sym rest)

-- one more record is added
pub framed_more : (bytes left r rest : List ℕ) (before after grown : List (List ℕ)) (numbers : List ℕ) (last : ℕ) → length (concat before) < 2 ^ 32 → length bytes < 2 ^ 32 → IsAddingFramed bytes left before after numbers
    → IsRecord r → left ≡ r ++ rest → IsPut after grown numbers r last → IsAddingFramed bytes rest before grown (numbers ++ last ∷ [])
framed_more bytes left r rest before after grown numbers last short few a framed split put =
    let front : List (List ℕ) = a.front in
    let more : List (List ℕ) = front ++ r ∷ [] in
    let n : ℕ = length front in
    let f : ℕ → ℕ = λ k. get_or numbers k 0 in
    let g : ℕ → ℕ = λ k. get_or (numbers ++ last ∷ []) k 0 in
    let long : length more ≡ n + 1 = length-append front (r ∷ []) in
    let at : get_or more n [] ≡ r = get_or-append_seam front r [] [] in
    let there : NamesThere n (references r) = subst (λ (m : ℕ). NamesThere m (references r)) a.many put.there in
    let early : AreEarly more = early_more front r a.early put.checked there in
    let small : length after < 2 ^ 31 = table_few after a.adds.table (omega (arith, framed_few bytes left r rest before after numbers a short few split)) in
    record {
      front = more;
      begins = begins_next bytes front left r rest a.begins split framed;
      many = omega (arith, length-append numbers (last ∷ []), a.many, long);
      early = early;
      adds = adds_more more before after grown f g (λ k. k < n) (λ k. k < length more) n last (adds_longer front (r ∷ []) before after f a.early a.adds)
          (omega (arith, small)) (rw at framed) (rw at put.checked)
          (tree_there more (λ k. k) n (early_ranked more early) (omega (arith, long))) (rw at (names_below n (references r) there))
          (rw at put.bytes) (rw at put.holds) put.inside (rw at put.at)
          (λ k low. get_or-append numbers (last ∷ []) 0 k (omega (arith, low, a.many)))
          (subst (λ (m : ℕ). get_or (numbers ++ last ∷ []) m 0 ≡ last) a.many (get_or-append_seam numbers last [] 0))
          (λ k low. elim (cases_lt k n) [ inl old ↦ inl old | inr high ↦ inr (omega (arith, high, low, long)) ]);
      light = omega (arith, a.light, ap length split, length-append r rest, holds_short after grown (renumbered f r) put.holds, renumbered_long f r put.checked);
    }

-- at the end the table has the types of both
pub framed_ends : (bytes left : List ℕ) (before after : List (List ℕ)) (numbers : List ℕ) (count : ℕ) → length (concat before) < 2 ^ 32 → length bytes < 2 ^ 32 → IsAddingFramed bytes left before after numbers
    → length left ≡ 0 → length numbers ≡ count → count < 2 ^ 30 → AreFramedAdded count bytes before after numbers
framed_ends bytes left before after numbers count short few a none counted less = record {
  records = a.front;
  framed = subst (Begins bytes a.front) (no_bytes left none) a.begins;
  counted = sym a.many ∙ counted;
  few = omega (arith, a.many, counted, less);
  numbered = record { many = a.many; stand = λ i t at. a.adds.stand i t (in_range a.front i t at) at };
  added = record {
    types = early_types a.front a.begins.each a.early;
    table = a.adds.table;
    value = adds_all a.front before after (λ k. get_or numbers k 0) (λ k. k < length a.front) a.adds (λ k inside. inside);
    few = table_few after a.adds.table (omega (arith, a.light, short, few));
  };
}
  where
    no_bytes : (xs : List ℕ) → length xs ≡ 0 → xs ≡ []
    no_bytes [] none = refl
    no_bytes (x ∷ xs) none = absurd (omega (arith, none))
