-- The data with map blocks between its bytes is the same list of bytes as the blocks one after the other.
use Rattle.std.proofs.Common.{◌≡◌, ◌⊎◌, ℕ, zero, suc, ◌+◌, ◌-◌, ◌*◌, ◌/◌, ◌%◌, ◌<◌, ◌≤◌, nat_lt, nat_le, nat_eq, true, false, List, [], ◌∷◌, ◌++◌, length, map, take, drop, refl, sym, ap, ◌∙◌, arith, append_assoc, inl, inr}
use Rattle.std.specs.List.{range_with_len, flat_map}
use Rattle.std.proofs.lemmas.Nat.{div-mul-add, mod-mul-add, div-add-mod', mod_below, mul-le}
use Rattle.std.proofs.lemmas.Bool.{cases_lt}
use Rattle.std.proofs.lemmas.Bool.Decides.{nat_tests}
use Rattle.std.proofs.lemmas.List.{append-nil, length-take, length-drop, take-append-drop, take-take, drop-take, take_all}
use Rattle.std.proofs.lemmas.List.Concat.{flat_map-append}
use Rattle.msf_superblock.specs.BlockNumber.{IsBlockSize, is_map_block, nth_block}
use Rattle.msf_superblock.proofs.SizeLaws.{size_facts, big_enough}
use Rattle.msf_superblock.proofs.BlockLaws.{nth_first, nth_other, nth_zero, nth_is_data, map_at, rank_is, range_more}
use Rattle.msf_blocks.specs.FreeMap.{map_block}
use Rattle.msf_streams.specs.Image.{padded, data_block, image_block, laid_out, parts, image, image_blocks, data_count, Fits}
use Rattle.msf_streams.specs.Put.{stretch, follows_maps, maps_of, maps_before, woven, room}
use Rattle.msf_streams.proofs.ImageLaws.{length_parts}
use Rattle.msf_streams.proofs.BackLaws.{all_blocks, image_is}

-- ---- the data, byte by byte

-- data in two parts
pub woven_parts : (b n p : ℕ) (front back : List ℕ) → woven b n p (front ++ back) ≡ woven b n p front ++ woven b n (p + length front) back
unfolding woven
woven_parts b n p [] back = let e : p + 0 ≡ p = omega arith in rw e refl
woven_parts b n p (byte ∷ front) back =
    let e : p + suc (length front) ≡ p + 1 + length front = omega arith in
    rw (e, woven_parts b n (p + 1) front back) (sym (append_assoc (maps_before b n p) (byte ∷ woven b n (p + 1) front) _))

-- ---- the distance to the next map blocks

room_early : (b p : ℕ) → p < b → room b p ≡ b - p
unfolding room
room_early b p lt = let e : nat_lt p b ≡ true = grind (arith, nat_tests) in rw e refl

room_late : (b p : ℕ) → b ≤ p → room b p ≡ stretch b - (p - b) % stretch b
unfolding room
room_late b p le = let e : nat_lt p b ≡ false = grind (arith, nat_tests) in rw e refl

behind_early : (b p : ℕ) → p < b → follows_maps b p ≡ false
behind_early b p lt = let e : nat_le b p ≡ false = grind (arith, nat_tests) in rw e refl

behind_late : (b p : ℕ) → b ≤ p → 0 < (p - b) % stretch b → follows_maps b p ≡ false
behind_late b p le more =
    let e : nat_le b p ≡ true = grind (arith, nat_tests) in
    let f : nat_eq ((p - b) % stretch b) 0 ≡ false = grind (arith, nat_tests) in
    rw (e, f) refl

-- from every position there is at least one byte before the next map blocks
pub some_room : (b p : ℕ) → 0 < stretch b → 0 < room b p
some_room b p long = elim (cases_lt p b) [
  | inl lt ↦ omega (arith, room_early b p lt)
  | inr le ↦ omega (arith, room_late b p le, mod_below (p - b) (stretch b) long)
]

-- one byte further, if there are at least two bytes before the next map blocks
next_room : (b p : ℕ) → 0 < b → 0 < stretch b → 1 < room b p → (follows_maps b (p + 1) ≡ false) × (room b (p + 1) + 1 ≡ room b p)
next_room b p some long more = elim (cases_lt p b) [
  | inl lt ↦
      let next : p + 1 < b = omega (arith, room_early b p lt) in
      (behind_early b (p + 1) next, omega (arith, room_early b p lt, room_early b (p + 1) next))
  | inr le ↦
      let l = stretch b in
      let x = p - b in
      let below : x % l + 1 < l = omega (arith, room_late b p le) in
      let split : p + 1 - b ≡ x / l * l + (x % l + 1) = omega (arith, div-add-mod' x l) in
      let m : (p + 1 - b) % l ≡ x % l + 1 = rw split (mod-mul-add (x / l) l (x % l + 1) below) in
      (behind_late b (p + 1) (omega arith) (omega (arith, m)), omega (arith, room_late b p le, room_late b (p + 1) (omega arith), m))
]

-- bytes without map blocks before or between them
plain : (b n p : ℕ) (bytes : List ℕ) → 0 < b → 0 < stretch b → follows_maps b p ≡ false → length bytes ≤ room b p → woven b n p bytes ≡ bytes
unfolding woven maps_before
plain b n p [] some long first fits = refl
plain b n p (byte ∷ []) some long first fits = rw first refl
plain b n p (byte ∷ next ∷ bytes) some long first fits =
    let step = next_room b p some long (omega arith) in
    rw first (ap (λ (t : List ℕ). byte ∷ t) (plain b n (p + 1) (next ∷ bytes) some long step.0 (omega (arith, step.1))))

-- the bytes up to the next map blocks are next to each other
pub woven_run : (b n p : ℕ) (bytes : List ℕ) → 0 < b → 0 < stretch b → 0 < length bytes → length bytes ≤ room b p → woven b n p bytes ≡ maps_before b n p ++ bytes
unfolding woven
woven_run b n p [] some long more fits = absurd (omega arith)
woven_run b n p (byte ∷ []) some long more fits = refl
woven_run b n p (byte ∷ next ∷ bytes) some long more fits =
    let step = next_room b p some long (omega arith) in
    ap (λ (t : List ℕ). maps_before b n p ++ byte ∷ t) (plain b n (p + 1) (next ∷ bytes) some long step.0 (omega (arith, step.1)))

-- ---- block by block

-- where the data block after the j-th begins: after the two map blocks of an interval, or right after the j-th data block
abbrev Begins : ℕ → ℕ → ℕ → Type 0
Begins b n j =
    ((nth_block b (j + 1) ≡ nth_block b j + 1) × (maps_before b n ((j + 1) * b) ≡ []))
    ⊎ ((q : ℕ) × (nth_block b j ≡ q * b) × (nth_block b (j + 1) ≡ q * b + 3) × (maps_before b n ((j + 1) * b) ≡ maps_of b n q))

row_place : (q r b c : ℕ) → (q * c + r + 1) * b - b ≡ q * (b * c) + r * b
row_place q r b c = omega arith

row_fits : (r b c : ℕ) → r < c → r * b + b ≤ b * c
row_fits r b c lt = omega (arith, mul-le (r + 1) b c b (omega arith) (omega arith))

-- the position of a block of the data within its stretch
pub block_place : (b q r : ℕ) → 3 < b → r < b - 2 → let x = (q * (b - 2) + r + 1) * b - b in
    (b ≤ (q * (b - 2) + r + 1) * b) × (x % stretch b ≡ r * b) × (x / stretch b ≡ q) × (r * b + b ≤ stretch b)
unfolding stretch
block_place b q r big lt =
    let place : (q * (b - 2) + r + 1) * b - b ≡ q * (b * (b - 2)) + r * b = row_place q r b (b - 2) in
    let fits = row_fits r b (b - 2) lt in
    let row : r * b < b * (b - 2) = omega (arith, fits) in
    (omega arith, rw place (mod-mul-add q (b * (b - 2)) (r * b) row), rw place (div-mul-add q (b * (b - 2)) (r * b) row), fits)

begins_in : (b n q r : ℕ) → 3 < b → r < b - 2 → Begins b n (q * (b - 2) + r)
unfolding maps_before
begins_in b n q zero big lt =
    let at = block_place b q 0 big lt in
    let late : nat_le b ((q * (b - 2) + 0 + 1) * b) ≡ true = grind (arith, nat_tests, at.0) in
    let none : 0 * b ≡ 0 = omega arith in
    let this : nth_block b (q * (b - 2) + 0) ≡ q * b = nth_first b q (q * (b - 2) + 0) big (omega arith) in
    let next : nth_block b (q * (b - 2) + 0 + 1) ≡ q * b + 1 + 2 = nth_other b q 1 (q * (b - 2) + 0 + 1) big (omega arith) (omega arith) (omega arith) in
    inr (q, this, next ∙ omega arith, rw (late, at.1, at.2, none) refl)
begins_in b n q (suc r) big lt =
    let at = block_place b q (suc r) big lt in
    let late : nat_le b ((q * (b - 2) + suc r + 1) * b) ≡ true = grind (arith, nat_tests, at.0) in
    let some : nat_eq (suc r * b) 0 ≡ false = let more : 0 < suc r * b = omega arith in grind (arith, nat_tests) in
    let this : nth_block b (q * (b - 2) + suc r) ≡ q * b + suc r + 2 = nth_other b q (suc r) (q * (b - 2) + suc r) big (omega arith) lt refl in
    let next : nth_block b (q * (b - 2) + suc r + 1) ≡ q * b + suc r + 2 + 1 = elim (cases_lt (suc r + 1) (b - 2)) [
      | inl inside ↦ nth_other b q (suc r + 1) (q * (b - 2) + suc r + 1) big (omega arith) inside (omega arith) ∙ omega arith
      | inr last ↦
          let e : suc r + 1 ≡ b - 2 = omega arith in
          nth_first b (q + 1) (q * (b - 2) + suc r + 1) big (omega (arith, e)) ∙ omega (arith, e)
    ] in
    inl (next ∙ omega (arith, this), rw (late, at.1, some) refl)

begins_at : (b n j : ℕ) → 3 < b → Begins b n j
begins_at b n j big =
    let split : j ≡ j / (b - 2) * (b - 2) + j % (b - 2) = omega (arith, div-add-mod' j (b - 2)) in
    rw split (begins_in b n (j / (b - 2)) (j % (b - 2)) big (mod_below j (b - 2) (omega arith)))

-- a block of the data ends within its stretch
block_room : (b j : ℕ) → 3 < b → b ≤ room b ((j + 1) * b)
block_room b j big =
    let q = j / (b - 2) in
    let r = j % (b - 2) in
    let split : j ≡ q * (b - 2) + r = omega (arith, div-add-mod' j (b - 2)) in
    let at = block_place b q r big (mod_below j (b - 2) (omega arith)) in
    rw split (omega (arith, room_late b ((q * (b - 2) + r + 1) * b) at.0, at.1, at.3))

pub some_stretch : (b : ℕ) → 3 < b → 0 < stretch b
unfolding stretch
some_stretch b big = omega (arith, mul-le 1 1 b (b - 2) (omega arith) (omega arith))

-- a stretch has at least four blocks
pub stretch_long : (b : ℕ) → IsBlockSize b → 4 * b ≤ b * (b - 2)
stretch_long b size = let facts = size_facts b size in omega (arith, mul-le b 4 b (b - 2) (omega arith) (omega (arith, facts)))

-- one more block
blocks_more : (f : ℕ → List ℕ) (k : ℕ) → flat_map f (range_with_len 0 (k + 1)) ≡ flat_map f (range_with_len 0 k) ++ f k
blocks_more f k = ap (flat_map f) (range_more k) ∙ flat_map-append f (range_with_len 0 k) (k ∷ []) ∙ rw (append-nil (f k)) refl

-- three more blocks
three_more : (f : ℕ → List ℕ) (k : ℕ) → flat_map f (range_with_len 0 (k + 3 + 1)) ≡ flat_map f (range_with_len 0 (k + 1)) ++ ((f (k + 1) ++ f (k + 2)) ++ f (k + 3))
three_more f k =
    let two : k + 3 ≡ k + 2 + 1 = omega arith in
    let one : k + 2 ≡ k + 1 + 1 = omega arith in
    let third : flat_map f (range_with_len 0 (k + 3)) ≡ flat_map f (range_with_len 0 (k + 2)) ++ f (k + 2) = rw two (blocks_more f (k + 2)) in
    let second : flat_map f (range_with_len 0 (k + 2)) ≡ flat_map f (range_with_len 0 (k + 1)) ++ f (k + 1) = rw one (blocks_more f (k + 1)) in
    blocks_more f (k + 3) ∙ rw (third, second) (simp append_assoc)

data_here : (b n j : ℕ) (bytes : List ℕ) → 3 < b → image_block b n bytes (nth_block b j) ≡ data_block b bytes j
unfolding image_block
data_here b n j bytes big = rw (nth_is_data b j big, rank_is b j big) refl

map_here : (b n k : ℕ) (bytes : List ℕ) → is_map_block b k ≡ true → image_block b n bytes k ≡ map_block b n k
unfolding image_block
map_here b n k bytes is = rw is refl

take_more : (m n : ℕ) (bytes : List ℕ) → take (m + n) bytes ≡ take m bytes ++ take n (drop m bytes)
take_more m n bytes =
    let front : take m (take (m + n) bytes) ≡ take m bytes = take-take m (m + n) bytes (omega arith) in
    sym (take-append-drop m (take (m + n) bytes)) ∙ rw (front, drop-take m n bytes) refl

-- the next block of the data
one_more : (b n j : ℕ) (bytes : List ℕ) → 3 < b → (j + 2) * b ≤ length bytes
    → woven b n 0 (take ((j + 2) * b) bytes) ≡ woven b n 0 (take ((j + 1) * b) bytes) ++ (maps_before b n ((j + 1) * b) ++ data_block b bytes (j + 1))
unfolding data_block
one_more b n j bytes big long =
    let split : (j + 2) * b ≡ (j + 1) * b + b = omega arith in
    let front : length (take ((j + 1) * b) bytes) ≡ (j + 1) * b = omega (arith, length-take ((j + 1) * b) bytes) in
    let size : length (take b (drop ((j + 1) * b) bytes)) ≡ b = omega (arith, length-take b (drop ((j + 1) * b) bytes), length-drop ((j + 1) * b) bytes) in
    let at : 0 + length (take ((j + 1) * b) bytes) ≡ (j + 1) * b = omega (arith, front) in
    let run = woven_run b n ((j + 1) * b) (take b (drop ((j + 1) * b) bytes)) (omega arith) (some_stretch b big) (omega (arith, size)) (omega (arith, size, block_room b j big)) in
    rw split (ap (woven b n 0) (take_more ((j + 1) * b) b bytes) ∙ woven_parts b n 0 (take ((j + 1) * b) bytes) (take b (drop ((j + 1) * b) bytes)) ∙ rw (at, run) refl)

first_block : (b n : ℕ) (bytes : List ℕ) → 3 < b → b ≤ length bytes → flat_map (image_block b n bytes) (range_with_len 0 (nth_block b 0 + 1)) ≡ woven b n 0 (take ((0 + 1) * b) bytes)
unfolding data_block
first_block b n bytes big long =
    let zeroth = nth_zero b big in
    let here : image_block b n bytes 0 ≡ take b (drop (0 * b) bytes) = rw zeroth at (data_here b n 0 bytes big) in
    let none : 0 * b ≡ 0 = omega arith in
    let one : (0 + 1) * b ≡ b = omega arith in
    let run = plain b n 0 (take b bytes) (omega arith) (some_stretch b big) (behind_early b 0 (omega arith)) (omega (arith, room_early b 0 (omega arith), length-take b bytes)) in
    rw (zeroth, one, here, none, run) (append-nil (take b bytes))

-- the blocks of the file up to a data block are the data so far, with its map blocks
woven_blocks : (b n j : ℕ) (bytes : List ℕ) → 3 < b → (j + 1) * b ≤ length bytes
    → flat_map (image_block b n bytes) (range_with_len 0 (nth_block b j + 1)) ≡ woven b n 0 (take ((j + 1) * b) bytes)
woven_blocks b n zero bytes big long = first_block b n bytes big (omega arith)
woven_blocks b n (suc j) bytes big long =
    let f = image_block b n bytes in
    let before = woven_blocks b n j bytes big (omega arith) in
    let one : suc j ≡ j + 1 = omega arith in
    let two : j + 1 + 1 ≡ j + 2 = omega arith in
    let here = data_here b n (j + 1) bytes big in
    let next : flat_map f (range_with_len 0 (nth_block b (j + 1) + 1)) ≡ woven b n 0 (take ((j + 2) * b) bytes) = elim (begins_at b n j big) [
      | inl beside ↦
          blocks_more f (nth_block b (j + 1)) ∙ rw (here, beside.0, before) (sym (one_more b n j bytes big (omega arith) ∙ rw beside.1 refl))
      | inr behind ↦
          let k = behind.0 * b in
          let last : f (k + 3) ≡ data_block b bytes (j + 1) = rw behind.2 at here in
          let map_1 : f (k + 1) ≡ map_block b n (k + 1) = map_here b n (k + 1) bytes (map_at b behind.0 1 (omega arith) (inl refl)) in
          let map_2 : f (k + 2) ≡ map_block b n (k + 2) = map_here b n (k + 2) bytes (map_at b behind.0 2 (omega arith) (inr refl)) in
          let so_far : flat_map f (range_with_len 0 (k + 1)) ≡ woven b n 0 (take ((j + 1) * b) bytes) = rw behind.1 at before in
          rw behind.2 (three_more f k ∙ rw (last, map_1, map_2, so_far) (sym (one_more b n j bytes big (omega arith) ∙ rw behind.3 refl)))
    ] in
    rw one (rw two next)

-- the file that is made block by block is the data with map blocks between its bytes
pub woven_is : (b m : ℕ) (bytes : List ℕ) → 3 < b → length bytes ≡ (m + 1) * b → laid_out b (nth_block b m + 1) bytes ≡ woven b (nth_block b m + 1) 0 bytes
unfolding laid_out
woven_is b m bytes big long = woven_blocks b (nth_block b m + 1) m bytes big (omega (arith, long)) ∙ rw (← long) (ap (woven b (nth_block b m + 1) 0) (take_all (length bytes) bytes (omega arith)))

-- ---- the image

-- an image is the data of its parts, with map blocks between the bytes
pub image_woven : (b : ℕ) (ts : List (List ℕ)) → IsBlockSize b → Fits b (map length ts)
    → image b ts ≡ woven b (image_blocks b (map length ts)) 0 (flat_map (padded b) (parts b ts))
image_woven b ts size fits =
    let m = data_count b (map length ts) - 1 in
    let big = big_enough b size in
    let long : length (flat_map (padded b) (parts b ts)) ≡ (m + 1) * b = length_parts b (parts b ts) (omega (arith, big)) ∙ rw (all_blocks b ts size fits) refl in
    image_is b ts ∙ woven_is b m (flat_map (padded b) (parts b ts)) big long
