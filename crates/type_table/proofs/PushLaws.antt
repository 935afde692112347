-- How a table starts and grows.
use Rattle.std.proofs.Common.{◌≡◌, ◌≢◌, ℕ, ◌+◌, ◌-◌, ◌<◌, ◌≤◌, ◌⊎◌, List, [], ◌∷◌, ◌++◌, length, get_or, sym, ap, ◌∙◌, subst, arith, inl, inr, length-append}
use Rattle.std.specs.List.{AllByRecursion, Contains}
use Rattle.std.proofs.lemmas.Bool.{cases_lt}
use Rattle.std.proofs.lemmas.List.{get_or_default}
use Rattle.std.proofs.lemmas.List.Quantifiers.{all_pairs_push}
use Rattle.std.proofs.Math.ListN.{get_or-append}
use Rattle.std.proofs.Math.Seq.{get_or-append_seam}
use Rattle.cv_leaves.specs.References.{references}
use Rattle.cv_leaves.specs.Place.{IsChecked}
use Rattle.tpi_records.specs.Records.{IsRecord}
use Rattle.type_trees.specs.Tree.{NamesLower}
use Rattle.byte_fields.specs.Bytes.{AreBytes}
use Rattle.type_trees.specs.Table.{IsTable}
use Rattle.tpi_records.specs.Header.{first_index}
use Rattle.canonical_list.proofs.FinishLaws.{nothing_listed}

-- a table stays a table when a good record is added that isn't there yet and names only records of the table
abbrev pub TableGrows : Type 0
TableGrows =
    (r : List (List ℕ)) (y : List ℕ) → IsTable r → IsRecord y → IsChecked y → AreBytes y
    → AllByRecursion (λ n. (n < first_index) ⊎ (n - first_index < length r)) (references y) → (Contains r y → ⊥) → IsTable (r ++ y ∷ [])

-- what holds of each old record and of the new one holds of each record
each_pushed : (P : List ℕ → Type 0) (r : List (List ℕ)) (y : List ℕ) → ((i : ℕ) → i < length r → P (get_or r i [])) → P y → (i : ℕ) → i < length (r ++ y ∷ []) → P (get_or (r ++ y ∷ []) i [])
each_pushed P r y each new i lt =
    let long : length (r ++ y ∷ []) ≡ length r + 1 = length-append r (y ∷ []) in
    elim (cases_lt i (length r)) [
      | inl low ↦ subst P (sym (get_or-append r (y ∷ []) [] i low)) (each i low)
      | inr high ↦
          let e : length r ≡ i = omega arith in
          let at : get_or (r ++ y ∷ []) (length r) [] ≡ y = get_or-append_seam r y [] [] in
          subst P (sym (ap (λ (k : ℕ). get_or (r ++ y ∷ []) k []) (sym e) ∙ at)) new
    ]

still_lower : (r s : List (List ℕ)) (i : ℕ) (ns : List ℕ) → length r ≤ length s → AllByRecursion (NamesLower r (λ j. j) i) ns → AllByRecursion (NamesLower s (λ j. j) i) ns
still_lower r s i [] le h = tt
still_lower r s i (n ∷ ns) le h = (elim h.0 [ inl small ↦ inl small | inr low ↦ let a = low.0 in inr (omega arith, low.1) ], still_lower r s i ns le h.1)

new_lower : (r s : List (List ℕ)) (ns : List ℕ) → length r ≤ length s → AllByRecursion (λ n. (n < first_index) ⊎ (n - first_index < length r)) ns → AllByRecursion (NamesLower s (λ j. j) (length r)) ns
new_lower r s [] le h = tt
new_lower r s (n ∷ ns) le h = (elim h.0 [ inl small ↦ inl small | inr low ↦ inr (omega arith, low) ], new_lower r s ns le h.1)

pub table_grows : TableGrows
table_grows r y table framed ok bytes named new =
    let more : List (List ℕ) = r ++ y ∷ [] in
    let long : length more ≡ length r + 1 = length-append r (y ∷ []) in
    record {
      good = record {
        framed = each_pushed IsRecord r y table.good.framed framed;
        checked = each_pushed (λ x. IsChecked x) r y table.good.checked ok;
      };
      bytes = each_pushed AreBytes r y table.bytes bytes;
      lower = λ i lt. elim (cases_lt i (length r)) [
        | inl low ↦
            let at : get_or more i [] ≡ get_or r i [] = get_or-append r (y ∷ []) [] i low in
            subst (λ (x : List ℕ). AllByRecursion (NamesLower more (λ j. j) i) (references x)) (sym at) (still_lower r more i (references (get_or r i [])) (omega arith) (table.lower i low))
        | inr high ↦
            let e : length r ≡ i = omega arith in
            let at : get_or more (length r) [] ≡ y = get_or-append_seam r y [] [] in
            let there : get_or more i [] ≡ y = ap (λ (k : ℕ). get_or more k []) (sym e) ∙ at in
            let low : AllByRecursion (NamesLower more (λ j. j) i) (references y) = subst (λ (k : ℕ). AllByRecursion (NamesLower more (λ j. j) k) (references y)) e (new_lower r more (references y) (omega arith) named) in
            subst (λ (x : List ℕ). AllByRecursion (NamesLower more (λ j. j) i) (references x)) (sym there) low
      ];
      distinct = all_pairs_push (λ x z. x ≢ z) r y table.distinct (λ k d lt e. new (k, lt, get_or_default r k y d lt ∙ e));
    }

pub no_table : IsTable []
no_table = nothing_listed.3
