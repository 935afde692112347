-- Counts over the blocks of a file.
use Rattle.std.proofs.Common.{◌≡◌, ℕ, ◌+◌, ◌<◌, ◌≤◌, Bool, true, false, List, length, take, get_or, sym, ap, ◌∙◌, arith}
use Rattle.std.specs.Prelude.{count_by}
use Rattle.std.specs.List.{range_with_len}
use Rattle.std.proofs.lemmas.List.{map-id, take_all}
use Rattle.std.proofs.lemmas.List.FromFn.{get_or-map-range_with_len, length-map-range_with_len}
use Rattle.std.proofs.lemmas.List.Sums.{count_by_more_yes, count_by_more_no}

range_at : (n i : ℕ) → i < n → get_or (range_with_len 0 n) i 0 ≡ i
range_at n i lt = ap (λ (xs : List ℕ). get_or xs i 0) (sym (map-id (range_with_len 0 n))) ∙ get_or-map-range_with_len (λ (k : ℕ). k) 0 n i i 0 lt (omega arith)

range_long : (n : ℕ) → length (range_with_len 0 n) ≡ n
range_long n = ap length (sym (map-id (range_with_len 0 n))) ∙ length-map-range_with_len (λ (k : ℕ). k) 0 n

-- a number that counts
pub count_yes : (p : ℕ → Bool) (n i : ℕ) → i < n → p i ≡ true → count_by p (take (i + 1) (range_with_len 0 n)) ≡ count_by p (take i (range_with_len 0 n)) + 1
count_yes p n i lt e = count_by_more_yes p (range_with_len 0 n) i 0 (omega (arith, range_long n)) (rw (range_at n i lt) e)

-- a number that does not count
pub count_no : (p : ℕ → Bool) (n i : ℕ) → i < n → p i ≡ false → count_by p (take (i + 1) (range_with_len 0 n)) ≡ count_by p (take i (range_with_len 0 n))
count_no p n i lt e = count_by_more_no p (range_with_len 0 n) i 0 (omega (arith, range_long n)) (rw (range_at n i lt) e)

-- all numbers were looked at
pub count_whole : (p : ℕ → Bool) (n i count : ℕ) → count ≡ count_by p (take i (range_with_len 0 n)) → n ≤ i → count ≡ count_by p (range_with_len 0 n)
count_whole p n i count so_far all =
    let whole : take i (range_with_len 0 n) ≡ range_with_len 0 n = take_all i (range_with_len 0 n) (omega (arith, range_long n)) in
    rw whole at so_far
