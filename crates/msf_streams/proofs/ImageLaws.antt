-- Where the parts of an image are.
use Rattle.std.proofs.Common.{◌≡◌, ℕ, zero, suc, ◌+◌, ◌-◌, ◌*◌, ◌/◌, ◌%◌, ◌<◌, ◌≤◌, ◌^◌, false, nat_eq, List, [], ◌∷◌, ◌++◌, length, map, take, drop, get_or, refl, ap, ◌∙◌, subst, arith, append_assoc, inl, inr}
use Rattle.std.specs.List.{range_with_len, flat_map, sum_by}
use Rattle.std.proofs.lemmas.Nat.{div-add-mod', mod_below, mul-le, div-mul-add}
use Rattle.std.proofs.lemmas.Bool.{cases_lt, cases_Bool}
use Rattle.std.proofs.lemmas.List.{get_or-take, get_or-drop, get_or_append_left, get_or-append_right, length-take, length-drop, length-append, length-replicate, drop_at, take_at, map-append}
use Rattle.std.proofs.lemmas.List.FromFn.{length-map-range_with_len, get_or-map-range_with_len}
use Rattle.std.proofs.lemmas.List.Concat.{flat_map-append}
use Rattle.std.proofs.lemmas.List.Sums.{sum_by-cons, sum_by-append}
use Rattle.msf_superblock.specs.BlockNumber.{IsBlockSize, blocks_for, is_map_block, nth_block, data_blocks}
use Rattle.msf_superblock.proofs.BlockLaws.{rank_is, nth_is_data, nth_onto, nth_monotone, nth_few}
use Rattle.msf_superblock.proofs.SizeLaws.{size_facts, big_enough, ceil_ge, place_below}
use Rattle.msf_blocks.specs.Blocks.{in_blocks}
use Rattle.msf_blocks.specs.FreeMap.{map_block, map_byte}
use Rattle.msf_streams.specs.Image.{padded, data_block, image_block, laid_out, blocks_of_all, directory_len, directory_count, data_count}
use Rattle.msf_blocks.proofs.RangeLaws.{map-same_ranges, part_by_places}
use lib.ListN.{replicate}

-- ---- lists of blocks of the same length

pub length_blocks : (f : ℕ → List ℕ) (b a n : ℕ) → ((k : ℕ) → a ≤ k → k < a + n → length (f k) ≡ b) → length (flat_map f (range_with_len a n)) ≡ n * b
length_blocks f b a zero h = omega arith
length_blocks f b a (suc n) h =
    let e : suc n * b ≡ b + n * b = omega arith in
    let here : length (f a) ≡ b = h a (omega arith) (omega arith) in
    length-append (f a) (flat_map f (range_with_len (a + 1) n)) ∙ rw (here, length_blocks f b (a + 1) n (λ k lo hi. h k (omega arith) (omega arith)), e) refl

pub get_or-blocks : (f : ℕ → List ℕ) (b a n k i : ℕ) → ((k : ℕ) → a ≤ k → k < a + n → length (f k) ≡ b) → k < n → i < b
    → get_or (flat_map f (range_with_len a n)) (k * b + i) 0 ≡ get_or (f (a + k)) i 0
get_or-blocks f b a zero k i h lt in' = absurd (omega arith)
get_or-blocks f b a (suc n) zero i h lt in' =
    let here : length (f a) ≡ b = h a (omega arith) (omega arith) in
    let e : 0 * b + i ≡ i = omega arith in
    let z : a + 0 ≡ a = omega arith in
    rw (e, z) (get_or_append_left (f a) (flat_map f (range_with_len (a + 1) n)) 0 i (omega arith))
get_or-blocks f b a (suc n) (suc k) i h lt in' =
    let here : length (f a) ≡ b = h a (omega arith) (omega arith) in
    let e : suc k * b + i - b ≡ k * b + i = omega arith in
    let z : a + suc k ≡ a + 1 + k = omega arith in
    get_or-append_right (f a) (flat_map f (range_with_len (a + 1) n)) b (suc k * b + i) 0 here (omega arith)
    ∙ rw (e, z) (get_or-blocks f b (a + 1) n k i (λ j lo hi. h j (omega arith) (omega arith)) (omega arith) in')

-- ---- the blocks of an image

pub length_map_block : (b n k : ℕ) → length (map_block b n k) ≡ b
unfolding map_block
length_map_block b n k = elim (cases_Bool (nat_eq (k % b) 1)) [
  | inl one ↦ rw one (length-map-range_with_len (λ i. map_byte n (8 * (b * (k / b) + i))) 0 b)
  | inr other ↦ rw other (length-replicate b 255)
]

pub length_data_block : (b j : ℕ) (t : List ℕ) → (j + 1) * b ≤ length t → length (data_block b t j) ≡ b
unfolding data_block
length_data_block b j t fits = omega (arith, length-take b (drop (j * b) t), length-drop (j * b) t)

-- each data block before the end of the file has a block of the data
pub rank_below : (b m k : ℕ) → 3 < b → is_map_block b k ≡ false → k < nth_block b m + 1 → length (data_blocks b k) < m + 1
rank_below b m k big e lt =
    let h = nth_onto b k big e in
    let r : length (data_blocks b k) ≡ h.0 = subst (λ (x : ℕ). length (data_blocks b x) ≡ h.0) h.1 (rank_is b h.0 big) in
    elim (cases_lt h.0 (m + 1)) [
      | inl below ↦ omega (arith, r)
      | inr past ↦ absurd (omega (arith, nth_monotone b m h.0 big (omega arith), h.1))
    ]

pub length_image_block : (b m k : ℕ) (t : List ℕ) → 3 < b → length t ≡ (m + 1) * b → k < nth_block b m + 1 → length (image_block b (nth_block b m + 1) t k) ≡ b
unfolding image_block
length_image_block b m k t big long lt = elim (cases_Bool (is_map_block b k)) [
  | inl one ↦ rw one (length_map_block b (nth_block b m + 1) k)
  | inr other ↦
      let r = rank_below b m k big other lt in
      let f = mul-le (length (data_blocks b k) + 1) b (m + 1) b (omega (arith, r)) (omega arith) in
      rw other (length_data_block b (length (data_blocks b k)) t (omega (arith, f, long)))
]

pub nth_below : (b m j : ℕ) → 3 < b → j < m + 1 → nth_block b j < nth_block b m + 1
nth_below b m j big lt = elim (cases_lt j m) [
  | inl less ↦ omega (arith, nth_monotone b j m big less)
  | inr more ↦ let same : j ≡ m = omega arith in rw same (omega arith)
]

-- data block j of an image is block j of the data
pub image_at : (b m j i : ℕ) (t : List ℕ) → 3 < b → length t ≡ (m + 1) * b → j < m + 1 → i < b
    → get_or (laid_out b (nth_block b m + 1) t) (nth_block b j * b + i) 0 ≡ get_or t (j * b + i) 0
unfolding laid_out image_block data_block
image_at b m j i t big long lt in' =
    let n = nth_block b m + 1 in
    let below : nth_block b j < n = nth_below b m j big lt in
    let z : 0 + nth_block b j ≡ nth_block b j = omega arith in
    get_or-blocks (image_block b n t) b 0 n (nth_block b j) i (λ k lo hi. length_image_block b m k t big long (omega arith)) below in'
    ∙ rw (z, nth_is_data b j big, rank_is b j big) (get_or-take b (drop (j * b) t) i 0 in' ∙ get_or-drop (j * b) t i 0)

pub image_long : (b m : ℕ) (t : List ℕ) → 3 < b → length t ≡ (m + 1) * b → length (laid_out b (nth_block b m + 1) t) ≡ (nth_block b m + 1) * b
unfolding laid_out
image_long b m t big long = length_blocks (image_block b (nth_block b m + 1) t) b 0 (nth_block b m + 1) (λ k lo hi. length_image_block b m k t big long (omega arith))

-- ---- several blocks of the data are read through their numbers

pub stretch : (b m f len : ℕ) (t : List ℕ) → 3 < b → length t ≡ (m + 1) * b → f + blocks_for b len ≤ m + 1 → f * b + len ≤ length t
    → in_blocks (laid_out b (nth_block b m + 1) t) b (map (nth_block b) (range_with_len f (blocks_for b len))) len ≡ take len (drop (f * b) t)
unfolding in_blocks
stretch b m f len t big long within fits =
    let x = laid_out b (nth_block b m + 1) t in
    let ks = map (nth_block b) (range_with_len f (blocks_for b len)) in
    map-same_ranges (λ i. get_or x (get_or ks (i / b) 0 * b + i % b) 0) (λ i. get_or t (f * b + i) 0) 0 0 len (λ i lt.
    let z : 0 + i ≡ i = omega arith in
    let below = place_below b len i (omega arith) lt in
    let number : get_or ks (i / b) 0 ≡ nth_block b (f + i / b) = get_or-map-range_with_len (nth_block b) f (blocks_for b len) (i / b) (f + i / b) 0 below refl in
    let at : (f + i / b) * b + i % b ≡ f * b + i = omega (arith, div-add-mod' i b) in
    rw (z, number) (image_at b m (f + i / b) (i % b) t big long (omega arith) (mod_below i b (omega arith)) ∙ rw at refl))
    ∙ part_by_places t (f * b) len fits

-- ---- parts that are padded to whole blocks, one after the other

pub length_filled : (b : ℕ) (t : List ℕ) → 0 < b → length (padded b t) ≡ blocks_for b (length t) * b
unfolding padded
length_filled b t pos = length-append t (replicate (blocks_for b (length t) * b - length t) 0)
    ∙ rw (length-replicate (blocks_for b (length t) * b - length t) (zero)) (omega (arith, ceil_ge b (length t) pos))

pub length_parts : (b : ℕ) (ps : List (List ℕ)) → 0 < b → length (flat_map (padded b) ps) ≡ sum_by (blocks_for b) (map length ps) * b
length_parts b [] pos = omega arith
length_parts b (p ∷ ps) pos =
    length-append (padded b p) (flat_map (padded b) ps)
    ∙ rw (length_filled b p pos, length_parts b ps pos, sum_by-cons (blocks_for b) (length p) (map length ps)) (omega arith)

-- where a part begins in the data
pub part_at : (b : ℕ) (front : List (List ℕ)) (t : List ℕ) (back : List (List ℕ)) → 0 < b
    → drop (sum_by (blocks_for b) (map length front) * b) (flat_map (padded b) (front ++ t ∷ back)) ≡ padded b t ++ flat_map (padded b) back
part_at b front t back pos =
    rw (flat_map-append (padded b) front (t ∷ back)) (drop_at (flat_map (padded b) front) (flat_map (padded b) (t ∷ back)) _ (length_parts b front pos))

pub bytes_back : (b : ℕ) (t rest : List ℕ) → take (length t) (padded b t ++ rest) ≡ t
unfolding padded
bytes_back b t rest = rw (append_assoc t (replicate (blocks_for b (length t) * b - length t) 0) rest) (take_at t _ (length t) refl)

-- each part of an image reads back through the blocks that follow those of the earlier parts
pub part_back : (b m : ℕ) (front : List (List ℕ)) (t : List ℕ) (back : List (List ℕ)) → 3 < b
    → sum_by (blocks_for b) (map length (front ++ t ∷ back)) ≡ m + 1
    → in_blocks (laid_out b (nth_block b m + 1) (flat_map (padded b) (front ++ t ∷ back))) b (map (nth_block b) (range_with_len (sum_by (blocks_for b) (map length front)) (blocks_for b (length t)))) (length t) ≡ t
part_back b m front t back big count =
    let all = flat_map (padded b) (front ++ t ∷ back) in
    let f = sum_by (blocks_for b) (map length front) in
    let long : length all ≡ (m + 1) * b = length_parts b (front ++ t ∷ back) (omega arith) ∙ rw count refl in
    let sums : sum_by (blocks_for b) (map length (front ++ t ∷ back)) ≡ f + (blocks_for b (length t) + sum_by (blocks_for b) (map length back)) =
    ap (sum_by (blocks_for b)) (map-append length front (t ∷ back)) ∙ sum_by-append (blocks_for b) (map length front) (map length (t ∷ back))
    ∙ rw (sum_by-cons (blocks_for b) (length t) (map length back)) refl in
    let within : f + blocks_for b (length t) ≤ m + 1 = omega (arith, count, sums) in
    let ends : (f + blocks_for b (length t)) * b ≤ (m + 1) * b = mul-le (f + blocks_for b (length t)) b (m + 1) b within (omega arith) in
    let fits : f * b + length t ≤ length all = omega (arith, long, ends, ceil_ge b (length t) (omega arith)) in
    stretch b m f (length t) all big long within fits ∙ rw (part_at b front t back (omega arith)) (bytes_back b t (flat_map (padded b) back))

-- ---- the length of an image

-- if the block map can list the directory of five streams, then the file has fewer than 2 ^ 28 blocks
pub few_blocks : (b directory blocks : ℕ) → IsBlockSize b → directory ≤ b / 4 → blocks ≤ 5 * 2 ^ 23 → nth_block b (1 + directory + blocks) + 1 < 2 ^ 28
few_blocks b directory blocks size le few =
    let facts = size_facts b size in
    omega (arith, facts.most, facts.fours, nth_few b (1 + directory + blocks) (big_enough b size))

-- the blocks of the directory of five streams, and the number of the last data block
pub five_streams : (b blocks directory : ℕ) (sizes : List ℕ) → length sizes ≡ 5 → blocks ≡ blocks_of_all b sizes → directory ≡ blocks_for b (4 * (6 + blocks))
    → (directory ≡ directory_count b sizes) × (1 + directory + blocks ≡ data_count b sizes - 1)
five_streams b blocks directory sizes five all is =
    let same : 4 * (6 + blocks) ≡ directory_len b sizes = omega (arith, five, all) in
    let e : directory ≡ directory_count b sizes = is ∙ ap (blocks_for b) same in
    (e, omega (arith, e, all))

-- the length of a file of whole blocks gives the number of its blocks
pub count_back : (b n len : ℕ) → 0 < b → len ≡ n * b → len / b ≡ n
count_back b n len some is =
    let whole : len ≡ n * b + 0 = omega arith in
    ap (λ (k : ℕ). k / b) whole ∙ div-mul-add n b 0 some
