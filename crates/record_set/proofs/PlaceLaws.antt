-- The places of records, as the records come and go.
use Rattle.std.proofs.Common.{◌≡◌, ◌≤◌, ◌<◌, ◌*◌, ℕ, suc, List, [], ◌∷◌, ◌++◌, length, map, take, get_or, refl, sym, ap, arith, inl, inr, length-append}
use Rattle.std.specs.List.{concat}
use Rattle.std.proofs.lemmas.Bool.{cases_lt}
use Rattle.std.proofs.lemmas.List.{length-map, get_or-map, map-append, take-map, get_or-take, get_or_append_left, length-take-le}
use Rattle.std.proofs.Math.Seq.{get_or-append_seam}
use Rattle.text_set.specs.TextSet.{Holds, IsInterned}
use Rattle.cv_leaves.specs.Named.{named_places}
use Rattle.record_set.specs.RecordSet.{HasNamedPlaces}

-- before the first record
pub no_places : HasNamedPlaces [] []
no_places = record { listed = refl; fit = λ k inside. absurd (omega (arith, inside)) }

-- there is a list for each record
pub places_each : (records places : List (List ℕ)) → HasNamedPlaces records places → length places ≡ length records
places_each records places has = rw has.listed (length-map records named_places)

-- the list at a position is that of the record there
pub places_at : (records places : List (List ℕ)) (k : ℕ) → HasNamedPlaces records places → k < length records → get_or places k [] ≡ named_places (get_or records k [])
places_at records places k has inside = rw has.listed (get_or-map named_places records k [] [] inside)

-- the first records have the first lists
pub places_first : (records places : List (List ℕ)) (n : ℕ) → n ≤ length records → HasNamedPlaces records places → HasNamedPlaces (take n records) (take n places)
places_first records places n inside has =
    let many : length (take n records) ≡ n = length-take-le n records inside in
    record {
      listed = rw has.listed (take-map named_places n records);
      fit = λ k k_in. rw (get_or-take n records k [] (omega (arith, k_in, many))) (has.fit k (omega (arith, k_in, many, inside)));
    }

-- one record more
pub places_more : (records places : List (List ℕ)) (r list : List ℕ) → HasNamedPlaces records places → list ≡ named_places r → 4 * length list ≤ length r → HasNamedPlaces (records ++ r ∷ []) (places ++ list ∷ [])
places_more records places r list has own short = record {
  listed = rw (has.listed, own) (sym (map-append named_places records (r ∷ [])));
  fit = λ k inside. elim (cases_lt k (length records)) [
    | inl old ↦ rw (get_or_append_left records (r ∷ []) [] k old) (has.fit k old)
    | inr new ↦ let at : k ≡ length records = omega (arith, new, inside, length-append records (r ∷ [])) in rw (at, get_or-append_seam records r [] []) (rw own at short)
  ];
}

sum_of : (records : List (List ℕ)) → ((k : ℕ) → k < length records → 4 * length (named_places (get_or records k [])) ≤ length (get_or records k [])) → 4 * length (concat (map named_places records)) ≤ length (concat records)
sum_of [] each = omega arith
sum_of (r ∷ records) each =
    let rest = sum_of records (λ k inside. each (suc k) (omega (arith, inside))) in
    let first : 4 * length (named_places r) ≤ length r = each 0 (omega arith) in
    omega (arith, rest, first, length-append r (concat records), length-append (named_places r) (concat (map named_places records)))

-- all lists together are short
pub places_few : (records places : List (List ℕ)) → HasNamedPlaces records places → 4 * length (concat places) ≤ length (concat records)
places_few records places has = rw has.listed (sum_of records has.fit)

-- ---- a record that is put in

-- a record behind the others is new
placed_last : (before after : List (List ℕ)) (r : List ℕ) (k : ℕ) → Holds before after r → k < length after → k ≡ length before → after ≡ before ++ r ∷ []
placed_last before after r k holds inside last = elim holds [ inl same ↦ absurd (omega (arith, ap length same, inside, last)) | inr more ↦ more.0 ]

-- the record that was made of the given bytes is the last one, and gets its list
pub interned_more : (P : List ℕ → Type 0) (before after places : List (List ℕ)) (list bytes : List ℕ) (k : ℕ) → HasNamedPlaces before places → IsInterned P before after k → length (get_or after k []) ≡ length bytes → k ≡ length before
    → ((text : List ℕ) → P text → list ≡ named_places text) → 4 * length list ≤ length bytes → HasNamedPlaces after (places ++ list ∷ [])
interned_more P before after places list bytes k has found same last listed short =
    rw (placed_last before after found.text k found.holds found.inside last)
    (places_more before places found.text list has (listed found.text found.made) (omega (arith, short, same, ap length found.at)))
