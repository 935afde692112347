-- Lists that are made from ranges of numbers, and offsets that are counted in blocks.
use Rattle.std.proofs.Common.{◌≡◌, ℕ, zero, suc, ◌+◌, ◌*◌, ◌/◌, ◌%◌, ◌<◌, ◌≤◌, List, ◌∷◌, ◌++◌, length, map, take, drop, get_or, refl, sym, ap, ◌∙◌, arith}
use Rattle.std.specs.List.{range_with_len}
use Rattle.std.proofs.lemmas.Nat.{div-mul-add, mod-mul-add, div-add-mod', mod_below}
use Rattle.std.proofs.lemmas.List.{get_or-take, get_or-drop, length-take, length-drop}
use Rattle.std.proofs.lemmas.List.FromFn.{fill_by_all}

-- a range in two parts
pub map-range_with_len_parts : {X : Type 0} (f : ℕ → X) (first m n : ℕ) → map f (range_with_len first (m + n)) ≡ map f (range_with_len first m) ++ map f (range_with_len (first + m) n)
map-range_with_len_parts {X = X} f first zero n =
    let none : 0 + n ≡ n = omega arith in
    let here : first + 0 ≡ first = omega arith in
    rw (none, here) refl
map-range_with_len_parts {X = X} f first (suc m) n =
    let one : suc m + n ≡ suc (m + n) = omega arith in
    let next : first + suc m ≡ (first + 1) + m = omega arith in
    rw (one, next) (ap (λ (xs : List X). f first ∷ xs) (map-range_with_len_parts f (first + 1) m n))

-- two functions give the same list over two ranges if they agree at each position
pub map-same_ranges : {X : Type 0} (f g : ℕ → X) (a b n : ℕ) → ((i : ℕ) → i < n → f (a + i) ≡ g (b + i)) → map f (range_with_len a n) ≡ map g (range_with_len b n)
map-same_ranges f g a b zero same = refl
map-same_ranges {X = X} f g a b (suc n) same =
    let here : f a ≡ g b =
    let at_a : a + 0 ≡ a = omega arith in
    let at_b : b + 0 ≡ b = omega arith in
    rw (at_a, at_b) at (same 0 (omega arith)) in
    let others = map-same_ranges f g (a + 1) (b + 1) n (λ i below.
    let at_a : a + 1 + i ≡ a + (i + 1) = omega arith in
    let at_b : b + 1 + i ≡ b + (i + 1) = omega arith in
    rw (at_a, at_b) (same (i + 1) (omega arith))) in
    rw (here, others) refl

-- the bytes of a file at consecutive offsets are a part of the file
pub part_by_places : (file : List ℕ) (start n : ℕ) → start + n ≤ length file → map (λ i. get_or file (start + i) 0) (range_with_len 0 n) ≡ take n (drop start file)
part_by_places file start n fits =
    sym (fill_by_all (λ i. get_or file (start + i) 0) (take n (drop start file)) n 0 (omega (arith, length-take n (drop start file), length-drop start file))
    (λ i below. get_or-take n (drop start file) i 0 below ∙ get_or-drop start file i 0))

-- an offset that is one block further is in the next block, at the same offset there
pub next_block : (block_size place : ℕ) → 0 < block_size → ((place + block_size) / block_size ≡ place / block_size + 1) × ((place + block_size) % block_size ≡ place % block_size)
next_block block_size place some =
    let q = place / block_size in
    let r = place % block_size in
    let below : r < block_size = mod_below place block_size some in
    let whole : place + block_size ≡ (q + 1) * block_size + r = omega (arith, div-add-mod' place block_size) in
    (rw whole (div-mul-add (q + 1) block_size r below), rw whole (mod-mul-add (q + 1) block_size r below))

-- an offset below the size of a block is in the first block
pub first_block : (block_size place : ℕ) → place < block_size → (place / block_size ≡ 0) × (place % block_size ≡ place)
first_block block_size place below =
    let whole : place ≡ 0 * block_size + place = omega arith in
    (ap (λ (n : ℕ). n / block_size) whole ∙ div-mul-add 0 block_size place below, ap (λ (n : ℕ). n % block_size) whole ∙ mod-mul-add 0 block_size place below)
