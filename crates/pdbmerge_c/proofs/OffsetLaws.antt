-- Records one after the other: each begins where the one before it ends.
use Rattle.std.proofs.Common.{◌≡◌, ℕ, zero, suc, ◌+◌, ◌-◌, ◌<◌, ◌++◌, ◌∷◌, [], List, length, take, get_or, refl, sym, ap, ◌∙◌, arith}
use Rattle.std.specs.List.{concat}
use Rattle.std.proofs.lemmas.List.{append-nil, length-append}
use Rattle.tpi_records.specs.Records.{start_of}

-- the offsets at which these records begin, where the first one begins at this offset
abbrev pub offsets_from : ℕ → List (List ℕ) → List ℕ
offsets_from at [] = []
offsets_from at (r ∷ others) = at ∷ offsets_from (at + length r) others

pub offsets_many : (at : ℕ) (records : List (List ℕ)) → length (offsets_from at records) ≡ length records
offsets_many at [] = refl
offsets_many at (r ∷ others) = ap suc (offsets_many (at + length r) others)

pub offset_at : (at : ℕ) (records : List (List ℕ)) (i : ℕ) → i < length records → get_or (offsets_from at records) i 0 ≡ at + start_of records i
offset_at at [] i inside = absurd (omega (arith, inside))
offset_at at (r ∷ others) zero inside = omega arith
offset_at at (r ∷ others) (suc i) inside =
    let next = offset_at (at + length r) others i (omega (arith, inside)) in
    omega (arith, next, length-append r (concat (take i others)))

-- where no record is left, all offsets are listed
pub all_listed : (items : List ℕ) (at : ℕ) (left records : List (List ℕ)) → items ++ offsets_from at left ≡ offsets_from 56 records → left ≡ [] → items ≡ offsets_from 56 records
all_listed items at left records so_far none = sym (append-nil items) ∙ rw none at so_far

-- a record begins behind the first one, and those between them
pub start_behind : (r : List ℕ) (records : List (List ℕ)) (position : ℕ) → 0 < position → start_of (r ∷ records) position ≡ length r + start_of records (position - 1)
start_behind r records zero inside = absurd (omega (arith, inside))
start_behind r records (suc n) inside =
    let before : suc n - 1 ≡ n = omega arith in
    rw before (length-append r (concat (take n records)))
