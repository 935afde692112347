-- Maps of files, one after the other.
use Rattle.std.proofs.Common.{◌≡◌, ◌<◌, ◌+◌, ℕ, zero, suc, List, [], ◌∷◌, ◌++◌, length, map, take, get_or, refl, sym, ap, ◌∙◌, arith, append_assoc}
use Rattle.std.proofs.lemmas.List.{append-nil}
use Rattle.tpi_records.specs.Header.{first_index}
use Rattle.pdbmerge_c.specs.MergeMap.{indices_of}

-- the type indices of one map more
pub indices_more : (maps : List (List ℕ)) (k : ℕ) → k < length maps → indices_of (take (k + 1) maps) ≡ indices_of (take k maps) ++ map (λ n. first_index + n) (get_or maps k [])
indices_more [] k inside = absurd (omega (arith, inside))
indices_more (m ∷ maps) zero inside = append-nil (map (λ n. first_index + n) m)
indices_more (m ∷ maps) (suc k) inside =
    let one : suc k + 1 ≡ suc (k + 1) = omega arith in
    let of_m = map (λ n. first_index + n) m in
    let of_next = map (λ n. first_index + n) (get_or maps k []) in
    rw one (ap (λ (rest : List ℕ). of_m ++ rest) (indices_more maps k (omega (arith, inside))) ∙ sym (append_assoc of_m (indices_of (take k maps)) of_next))

-- the length of one map more
pub lengths_more : (maps : List (List ℕ)) (k : ℕ) → k < length maps → map length (take (k + 1) maps) ≡ map length (take k maps) ++ length (get_or maps k []) ∷ []
lengths_more [] k inside = absurd (omega (arith, inside))
lengths_more (m ∷ maps) zero inside = refl
lengths_more (m ∷ maps) (suc k) inside =
    let one : suc k + 1 ≡ suc (k + 1) = omega arith in
    rw one (ap (λ (rest : List ℕ). length m ∷ rest) (lengths_more maps k (omega (arith, inside))))
