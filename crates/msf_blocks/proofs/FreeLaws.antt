-- The free block map in force, of which one block is read at a time.
use Rattle.std.proofs.Common.{◌≡◌, ℕ, ◌+◌, ◌-◌, ◌*◌, ◌/◌, ◌%◌, ◌<◌, ◌≤◌, Bool, true, false, List, [], ◌∷◌, ◌++◌, length, take, drop, get_or, zero, suc, inl, inr, refl, sym, ap, ◌∙◌, arith}
use Rattle.std.specs.Prelude.{count_by, nat_lt, ◌&&◌, ◌==◌, ◌^◌}
use Rattle.std.specs.List.{range_with_len}
use Rattle.std.proofs.lemmas.Bool.{cases_lt, cases_Bool}
use Rattle.std.proofs.lemmas.Bool.Decides.{nat_tests}
use Rattle.std.proofs.lemmas.Nat.{mul-le, mod_below, div-add-mod', div-mul-add}
use Rattle.std.proofs.Math.Seq.{take-append_seam}
use Rattle.std.proofs.lemmas.List.{take_all, length-append, length-take, length-drop, get_or_append_left, get_or-append-add}
use Rattle.std.proofs.lemmas.List.Sums.{count_by_more_yes, count_by_more_no}
use Rattle.msf_superblock.specs.BlockNumber.{IsBlockSize}
use Rattle.msf_superblock.specs.Superblock.{Fields, HoldsBlocks}
use Rattle.msf_superblock.proofs.FrontLaws.{byte_read}
use Rattle.msf_blocks.proofs.CountLaws.{count_no, count_whole, count_yes}
use Rattle.msf_blocks.proofs.KnownLaws.{given_stands}
use Rattle.msf_superblock.proofs.SizeLaws.{some_bytes}
use Rattle.byte_io.specs.At.{Bytes, StandsAt, stable}
use Rattle.msf_blocks.specs.FreeMap.{AreMarks, IsFreeCount, IsMapGiven, IsMapHeld, IsMark, blocks_per_map_block, bit_of, free_blocks, is_free, is_free_by, map_block_of, map_byte_of}

-- the byte with a bit of a map block is in the block
pub bit_fits : (size block : ℕ) → IsBlockSize size → block % (8 * size) / 8 < size
bit_fits size block is =
    let below : block % (8 * size) < 8 * size = mod_below block (8 * size) (omega (arith, some_bytes size is)) in
    omega (arith, below)

-- a map block of the file is in the file as a whole
pub map_inside : (size blocks long map_block : ℕ) → blocks * size ≤ long → map_block < blocks → map_block * size + size ≤ long
map_inside size blocks long map_block whole below =
    let rows = mul-le (map_block + 1) size blocks size (omega (arith, below)) (omega arith) in
    omega (arith, rows, whole)

-- the map block with the bit of this block stands in the file, if it is in it
abbrev HasMap : List ℕ → Fields → ℕ → List ℕ → Type 0
HasMap file fields block map_block = map_block_of fields block < fields.num_blocks → StandsAt file (map_block_of fields block * fields.block_size) map_block

-- then it has the bit of this block
bit_is : (file map_block : List ℕ) (fields : Fields) (block : ℕ) → IsBlockSize fields.block_size → length map_block ≡ fields.block_size → StandsAt file (map_block_of fields block * fields.block_size) map_block
    → bit_of map_block (block % blocks_per_map_block fields) ≡ (map_byte_of file fields block / 2 ^ (block % blocks_per_map_block fields % 8) % 2 == 1)
bit_is file map_block fields block is long stands =
    let at = block % blocks_per_map_block fields / 8 in
    let first = map_block_of fields block * fields.block_size in
    let byte : get_or map_block at 0 ≡ get_or file (first + at) 0 = byte_read file map_block first at stands (omega (arith, long, bit_fits fields.block_size block is)) in
    rw byte refl

-- as a part of the file, it tells whether the block is free
pub part_bit : (file : List ℕ) (fields : Fields) (block : ℕ) → HoldsBlocks file fields → IsBlockSize fields.block_size → map_block_of fields block < fields.num_blocks
    → bit_of (take (map_block_of fields block * fields.block_size + fields.block_size - map_block_of fields block * fields.block_size) (drop (map_block_of fields block * fields.block_size) file)) (block % blocks_per_map_block fields) ≡ is_free file fields block
part_bit file fields block whole is below =
    let size = fields.block_size in
    let first = map_block_of fields block * size in
    let inside : first + size ≤ length file = map_inside size fields.num_blocks (length file) (map_block_of fields block) whole below in
    let count : first + size - first ≡ size = omega arith in
    let map_block = take size (drop first file) in
    let long : length map_block ≡ size = omega (arith, inside, length-take size (drop first file), length-drop first file) in
    let stands : StandsAt file first map_block = record { inside = omega (arith, inside, long); is = rw long refl } in
    let here : nat_lt (map_block_of fields block) fields.num_blocks ≡ true = grind (arith, nat_tests, below) in
    rw (count, here) (bit_is file map_block fields block is long stands)

both : (a x y : Bool) → (a ≡ true → x ≡ y) → (a && x) ≡ (a && y)
both true x y same = same refl
both false x y same = refl

same_bit : (file map_block : List ℕ) (fields : Fields) (block : ℕ) → IsBlockSize fields.block_size → length map_block ≡ fields.block_size → HasMap file fields block map_block → is_free_by map_block fields block ≡ is_free file fields block
same_bit file map_block fields block is long has =
    let bit = block % blocks_per_map_block fields in
    both (nat_lt (map_block_of fields block) fields.num_blocks) (bit_of map_block bit) (map_byte_of file fields block / 2 ^ (bit % 8) % 2 == 1)
    (λ below. bit_is file map_block fields block is long (has (grind (arith, nat_tests, below))))

-- a number that does not begin a row is in the row of the number before it
same_row : (per block : ℕ) → 0 < per → ((block + 1) % per ≡ 0 → ⊥) → (block + 1) / per ≡ block / per
same_row per block some inner =
    let q = block / per in
    let r = block % per in
    let whole : q * per + r ≡ block = div-add-mod' block per in
    let below : r < per = mod_below block per some in
    elim (cases_lt (r + 1) per) [
      | inl lt ↦
          let next : block + 1 ≡ q * per + (r + 1) = omega (arith, whole) in
          rw next (div-mul-add q per (r + 1) lt)
      | inr le ↦
          let next : block + 1 ≡ (q + 1) * per + 0 = omega (arith, whole, below, le) in
          let quotient : (block + 1) / per ≡ q + 1 = rw next (div-mul-add (q + 1) per 0 some) in
          let all : (block + 1) / per * per + (block + 1) % per ≡ block + 1 = div-add-mod' (block + 1) per in
          let none : (block + 1) % per ≡ 0 = omega (arith, rw quotient at all, next) in
          absurd (inner none)
    ]

-- the map block serves the next block too, unless the bit of that is in another one
pub next_held : (bytes : Bytes) (map_block : List ℕ) (fields : Fields) (block : ℕ) → IsBlockSize fields.block_size → IsMapGiven bytes fields block map_block → IsMapHeld bytes fields (block + 1) map_block
next_held bytes map_block fields block is given inner =
    let same = same_row (blocks_per_map_block fields) block (omega (arith, some_bytes fields.block_size is)) inner in
    rw same given

-- ---- the marks that reads gave

marks_more : (bytes : Bytes) (fields : Fields) (marks : List Bool) (mark : Bool) → AreMarks bytes fields marks → IsMark bytes fields (length marks) mark → AreMarks bytes fields (marks ++ mark ∷ [])
marks_more bytes fields marks mark are is = λ block lt.
    elim (cases_lt block (length marks)) [
      | inl below ↦ rw (get_or_append_left marks (mark ∷ []) false block below) (are block below)
      | inr le ↦
          let whole : length marks ≡ length marks + 0 = omega arith in
          let last : block ≡ length marks + 0 = omega (arith, le, lt, length-append marks (mark ∷ [])) in
          rw (last, get_or-append-add marks (mark ∷ []) 0 false) (rw whole at is)
    ]

-- one mark more, of a block that is free
count_push_yes : (marks : List Bool) → count_by (λ mark. mark) (marks ++ true ∷ []) ≡ count_by (λ mark. mark) marks + 1
count_push_yes marks =
    let all = marks ++ true ∷ [] in
    let long : length all ≡ length marks + 1 = length-append marks (true ∷ []) in
    let whole : take (length marks + 1) all ≡ all = take_all (length marks + 1) all (omega (arith, long)) in
    let front : take (length marks) all ≡ marks = take-append_seam marks (true ∷ []) in
    let end : length marks + 0 ≡ length marks = omega arith in
    let here : get_or all (length marks) false ≡ true = rw end at (get_or-append-add marks (true ∷ []) 0 false) in
    rw (whole, front) at (count_by_more_yes (λ mark. mark) all (length marks) false (omega (arith, long)) here)

-- or in use
count_push_no : (marks : List Bool) → count_by (λ mark. mark) (marks ++ false ∷ []) ≡ count_by (λ mark. mark) marks
count_push_no marks =
    let all = marks ++ false ∷ [] in
    let long : length all ≡ length marks + 1 = length-append marks (false ∷ []) in
    let whole : take (length marks + 1) all ≡ all = take_all (length marks + 1) all (omega (arith, long)) in
    let front : take (length marks) all ≡ marks = take-append_seam marks (false ∷ []) in
    let end : length marks + 0 ≡ length marks = omega arith in
    let here : get_or all (length marks) false ≡ false = rw end at (get_or-append-add marks (false ∷ []) 0 false) in
    rw (whole, front) at (count_by_more_no (λ mark. mark) all (length marks) false (omega (arith, long)) here)

-- one more block is free
pub one_free : (bytes : Bytes) (fields : Fields) (block free : ℕ) (mark : Bool) → IsFreeCount bytes fields block free → IsMark bytes fields block mark → mark ≡ true → IsFreeCount bytes fields (block + 1) (free + 1)
one_free bytes fields block free mark before is set = record {
  marks = before.marks ++ mark ∷ [];
  count = omega (arith, before.count, length-append before.marks (mark ∷ []));
  given = marks_more bytes fields before.marks mark before.given (rw before.count is);
  free_is = rw (before.free_is, set) (sym (count_push_yes before.marks));
}

-- one more block is in use
pub one_used : (bytes : Bytes) (fields : Fields) (block free : ℕ) (mark : Bool) → IsFreeCount bytes fields block free → IsMark bytes fields block mark → mark ≡ false → IsFreeCount bytes fields (block + 1) free
one_used bytes fields block free mark before is clear = record {
  marks = before.marks ++ mark ∷ [];
  count = omega (arith, before.count, length-append before.marks (mark ∷ []));
  given = marks_more bytes fields before.marks mark before.given (rw before.count is);
  free_is = rw (before.free_is, clear) (sym (count_push_no before.marks));
}

-- ---- of a file that is known

-- a mark says whether the block is free
mark_known : (file : List ℕ) (fields : Fields) (block : ℕ) (mark : Bool) → HoldsBlocks file fields → IsBlockSize fields.block_size → IsMark (stable file) fields block mark → mark ≡ is_free file fields block
mark_known file fields block mark whole is m =
    let stands : HasMap file fields block m.map_block = λ below.
    let inside = map_inside fields.block_size fields.num_blocks (length file) (map_block_of fields block) whole below in
    given_stands file (map_block_of fields block * fields.block_size) m.map_block (omega (arith, inside, m.room)) (m.given below) in
    m.mark_is ∙ same_bit file m.map_block fields block is m.room stands

-- marks that say of each number whether it counts are counted as the numbers are
counted : (p : ℕ → Bool) (n : ℕ) (marks : List Bool) (end : ℕ) → ((i : ℕ) → i < length marks → get_or marks i false ≡ p i) → end ≤ length marks → end ≤ n
    → count_by (λ mark. mark) (take end marks) ≡ count_by p (take end (range_with_len 0 n))
counted p n marks zero each few below = refl
counted p n marks (suc end) each few below = elim (cases_Bool (get_or marks end false)) [
  | inl set ↦
      let next : suc end ≡ end + 1 = omega arith in
      rw next (
      count_by_more_yes (λ mark. mark) marks end false (omega (arith, few)) set
      ∙ ap (λ (k : ℕ). k + 1) (counted p n marks end each (omega (arith, few)) (omega (arith, below)))
      ∙ sym (count_yes p n end (omega (arith, below)) (sym (each end (omega (arith, few))) ∙ set)))
  | inr clear ↦
      let next : suc end ≡ end + 1 = omega arith in
      rw next (
      count_by_more_no (λ mark. mark) marks end false (omega (arith, few)) clear
      ∙ counted p n marks end each (omega (arith, few)) (omega (arith, below))
      ∙ sym (count_no p n end (omega (arith, below)) (sym (each end (omega (arith, few))) ∙ clear)))
]

-- so the count that reads gave is that of the free blocks
pub free_known : (file : List ℕ) (fields : Fields) (free : ℕ) → HoldsBlocks file fields → (0 < fields.num_blocks → IsBlockSize fields.block_size) → IsFreeCount (stable file) fields fields.num_blocks free → free ≡ free_blocks file fields
unfolding free_blocks
free_known file fields free whole is count =
    let n = fields.num_blocks in
    let all : take n count.marks ≡ count.marks = take_all n count.marks (omega (arith, count.count)) in
    let same = counted (is_free file fields) n count.marks n (λ i lt. mark_known file fields i (get_or count.marks i false) whole (is (omega (arith, lt, count.count))) (count.given i lt)) (omega (arith, count.count)) (omega arith) in
    count_whole (is_free file fields) n n free (count.free_is ∙ rw all at same) (omega arith)
