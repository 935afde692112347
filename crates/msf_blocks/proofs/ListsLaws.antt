-- The streams that are read from a directory are the streams that it lists.
use Rattle.std.proofs.Common.{◌≡◌, ℕ, zero, suc, ◌+◌, ◌*◌, ◌<◌, ◌≤◌, true, List, [], ◌∷◌, ◌++◌, None, length, map, take, drop, get_or, refl, sym, ap, ◌∙◌, subst, arith}
use Rattle.std.specs.List.{range_with_len, flat_map}
use Rattle.std.proofs.lemmas.Bool.Decides.{nat_tests}
use Rattle.std.proofs.lemmas.Grind.{flat_map-append}
use Rattle.std.proofs.lemmas.List.{append-nil, take-append-drop}
use Rattle.std.proofs.lemmas.List.FromFn.{get_or-map-range_with_len, length-map-range_with_len}
use Rattle.std.proofs.lemmas.List.Elements.{All-from_get_or}
use Rattle.byte_fields.specs.Bytes.{AreBytes}
use Rattle.byte_fields.specs.Number.{nth_u32, u32s}
use Rattle.byte_fields.specs.Check.{first_failing, checks_below}
use Rattle.byte_fields.proofs.NumberLaws.{u32s-nth_u32, number_at-small}
use Rattle.byte_fields.proofs.CheckLaws.{checks_below-each, check_held}
use Rattle.msf_superblock.specs.BlockNumber.{IsBlockSize, IsOrdinary, is_ordinary}
use Rattle.msf_superblock.specs.Superblock.{Fields}
use Rattle.msf_blocks.specs.Directory.{Listed, IsListed, ListsStreams, stream_checks, stream_block_check, stream_blocks, list_start, listed_at, listed_below}
use Rattle.msf_blocks.specs.Layout.{IsLayout}
use Rattle.msf_superblock.specs.declared.fault.MsfFault.TheVariants.{StreamBlock}
use Rattle.msf_blocks.proofs.DirectoryLaws.{map_range_more, list_start_zero, list_start_more}

-- ---- what is read is what the directory lists

range_split : {X : Type 0} (f : ℕ → X) (a m n : ℕ) → map f (range_with_len a (m + n)) ≡ map f (range_with_len a m) ++ map f (range_with_len (a + m) n)
range_split {X = X} f a zero n = let e : 0 + n ≡ n = omega arith in let g : a + 0 ≡ a = omega arith in rw (e, g) refl
range_split {X = X} f a (suc m) n =
    let e : suc m + n ≡ suc (m + n) = omega arith in
    let g : a + suc m ≡ (a + 1) + m = omega arith in
    rw (e, g) (ap (λ (xs : List X). f a ∷ xs) (range_split f (a + 1) m n))

shifted : (f : ℕ → ℕ) (a c n : ℕ) → map (λ k. f (a + k)) (range_with_len c n) ≡ map f (range_with_len (a + c) n)
shifted f a c zero = refl
shifted f a c (suc n) = let e : a + (c + 1) ≡ a + c + 1 = omega arith in ap (λ (xs : List ℕ). f (a + c) ∷ xs) (shifted f a (c + 1) n ∙ rw e refl)

sizes_from : (b : ℕ) (contents : List ℕ) (a n : ℕ) → map (λ s. s.size) (map (listed_at b contents) (range_with_len a n)) ≡ map (nth_u32 contents) (range_with_len (1 + a) n)
unfolding listed_at
sizes_from b contents a zero = refl
sizes_from b contents a (suc n) = let e : 1 + (a + 1) ≡ 1 + a + 1 = omega arith in ap (λ (xs : List ℕ). nth_u32 contents (1 + a) ∷ xs) (sizes_from b contents (a + 1) n ∙ rw e refl)

-- the lists of the first n streams are the numbers after the sizes, up to the position where the next list begins
lists_are : (b : ℕ) (contents : List ℕ) (n : ℕ) → (extra : ℕ) × (list_start b contents n ≡ (1 + nth_u32 contents 0) + extra) × (flat_map (λ s. s.blocks) (listed_below b contents n) ≡ map (nth_u32 contents) (range_with_len (1 + nth_u32 contents 0) extra))
unfolding listed_at
lists_are b contents zero = (0, omega (arith, list_start_zero b contents), refl)
lists_are b contents (suc n) =
    let before = lists_are b contents n in
    let c = stream_blocks b contents n in
    let one : suc n ≡ n + 1 = omega arith in
    let zeros : list_start b contents n + 0 ≡ (1 + nth_u32 contents 0) + before.0 = omega (arith, before.1) in
    let next : (listed_at b contents n).blocks ≡ map (nth_u32 contents) (range_with_len ((1 + nth_u32 contents 0) + before.0) c) = shifted (nth_u32 contents) (list_start b contents n) 0 c ∙ rw zeros refl in
    let single : flat_map (λ s. s.blocks) (listed_at b contents n ∷ []) ≡ (listed_at b contents n).blocks = append-nil (listed_at b contents n).blocks in
    let both : flat_map (λ s. s.blocks) (listed_below b contents (n + 1)) ≡ map (nth_u32 contents) (range_with_len (1 + nth_u32 contents 0) (before.0 + c)) =
    ap (flat_map (λ s. s.blocks)) (map_range_more (listed_at b contents) n) ∙ flat_map-append (λ s. s.blocks) (listed_below b contents n) (listed_at b contents n ∷ [])
    ∙ rw (before.2, single, next) (sym (range_split (nth_u32 contents) (1 + nth_u32 contents 0) before.0 c)) in (
      before.0 + c,
      rw one (omega (arith, list_start_more b contents n, before.1)),
      subst (λ (m : ℕ). flat_map (λ s. s.blocks) (listed_below b contents m) ≡ map (nth_u32 contents) (range_with_len (1 + nth_u32 contents 0) (before.0 + c))) (sym one) both,
    )

-- the directory is the numbers of what was read, then any rest
listing : (b : ℕ) (contents : List ℕ) → AreBytes contents → 4 * list_start b contents (nth_u32 contents 0) ≤ length contents
    → let streams = listed_below b contents (nth_u32 contents 0) in
    (rest : List ℕ) × (contents ≡ u32s (length streams ∷ map (λ s. s.size) streams ++ flat_map (λ s. s.blocks) streams) ++ rest)
listing b contents bytes long =
    let n = nth_u32 contents 0 in
    let lists = lists_are b contents n in
    let streams = listed_below b contents n in
    let sizes : map (λ s. s.size) streams ≡ map (nth_u32 contents) (range_with_len 1 n) = sizes_from b contents 0 n in
    let all = n ∷ map (λ s. s.size) streams ++ flat_map (λ s. s.blocks) streams in
    let numbers : all ≡ map (nth_u32 contents) (range_with_len 0 (1 + (n + lists.0))) =
    rw (sizes, lists.2) (sym (range_split (nth_u32 contents) 0 1 (n + lists.0) ∙ ap (λ (xs : List ℕ). n ∷ xs) (range_split (nth_u32 contents) 1 n lists.0))) in
    let counted : length streams ≡ n = length-map-range_with_len (listed_at b contents) 0 n in
    let front : u32s all ≡ take (4 * (1 + (n + lists.0))) contents = ap u32s numbers ∙ u32s-nth_u32 contents 0 (1 + (n + lists.0)) bytes (omega (arith, lists.1)) in
    (drop (4 * (1 + (n + lists.0))) contents, sym (rw counted (ap (λ (xs : List ℕ). xs ++ drop (4 * (1 + (n + lists.0))) contents) front ∙ take-append-drop (4 * (1 + (n + lists.0))) contents)))

-- a stream whose checks hold is listed with the blocks that it needs
listed_holds : (fields : Fields) (contents : List ℕ) (t : ℕ) → AreBytes contents → first_failing (stream_checks fields contents t) ≡ None → IsListed fields (listed_at fields.block_size contents t)
unfolding stream_checks stream_blocks listed_at nth_u32
listed_holds fields contents t bytes held =
    let b = fields.block_size in
    let count = stream_blocks b contents t in
    let number = λ (k : ℕ). nth_u32 contents (list_start b contents t + k) in
    record {
      short = number_at-small contents (4 * (1 + t)) bytes;
      count = length-map-range_with_len number 0 count;
      ordinary = All-from_get_or (IsOrdinary fields.num_blocks) (map number (range_with_len 0 count)) 0 (λ k lt.
          let below : k < count = omega (arith, lt, length-map-range_with_len number 0 count) in
          let e : is_ordinary fields.num_blocks (number k) ≡ true = check_held (is_ordinary fields.num_blocks (number k)) (StreamBlock t k (number k)) (checks_below-each (stream_block_check fields contents t) count k held below) in
          let o : IsOrdinary fields.num_blocks (number k) = (grind (arith, nat_tests), grind (arith, nat_tests)) in
          let at : get_or (map number (range_with_len 0 count)) k 0 ≡ number k = get_or-map-range_with_len number 0 count k k 0 below (omega arith) in
          rw at o);
    }

-- a directory whose checks hold lists the streams that are read from it
pub lists_what_is_read : (fields : Fields) (contents : List ℕ) → AreBytes contents → 4 * list_start fields.block_size contents (nth_u32 contents 0) ≤ length contents
    → first_failing (checks_below (nth_u32 contents 0) (stream_checks fields contents)) ≡ None → ListsStreams fields contents (listed_below fields.block_size contents (nth_u32 contents 0))
lists_what_is_read fields contents bytes long held =
    let b = fields.block_size in
    let n = nth_u32 contents 0 in
    let list = listing b contents bytes long in
    let count : length (listed_below b contents n) ≡ n = length-map-range_with_len (listed_at b contents) 0 n in
    record {
      rest = list.0;
      parts = list.1;
      each = All-from_get_or (IsListed fields) (listed_below b contents n) (listed_at b contents 0) (λ t lt.
          let below : t < n = omega (arith, lt, count) in
          let at : get_or (listed_below b contents n) t (listed_at b contents 0) ≡ listed_at b contents t = get_or-map-range_with_len (listed_at b contents) 0 n t t (listed_at b contents 0) below (omega arith) in
          rw at (listed_holds fields contents t bytes (checks_below-each (stream_checks fields contents) n t held below)));
    }

-- ---- contents that were read by position

-- the streams that are read from contents are those that they list
pub lists_are_read : (fields : Fields) (contents : List ℕ) (n : ℕ) (streams : List Listed) → AreBytes contents → n ≡ nth_u32 contents 0 → 4 * list_start fields.block_size contents n ≤ length contents
    → first_failing (checks_below n (stream_checks fields contents)) ≡ None → streams ≡ listed_below fields.block_size contents n → ListsStreams fields contents streams
lists_are_read fields contents n streams bytes count room held read =
    rw (read, count) (lists_what_is_read fields contents bytes (rw (← count) room) (rw count at held))

-- so they make a layout, whatever the file is
pub layout_fits_at : (fields : Fields) (contents : List ℕ) (n : ℕ) (streams : List Listed) → IsBlockSize fields.block_size → AreBytes contents → n ≡ nth_u32 contents 0 → streams ≡ listed_below fields.block_size contents n
    → ListsStreams fields contents streams → IsLayout (record { superblock = fields; streams = streams })
unfolding nth_u32
layout_fits_at fields contents n streams size bytes count read lists =
    let long : length streams ≡ n = rw read (length-map-range_with_len (listed_at fields.block_size contents) 0 n) in
    record { size = size; few = omega (arith, long, count, number_at-small contents 0 bytes); each = lists.each }
