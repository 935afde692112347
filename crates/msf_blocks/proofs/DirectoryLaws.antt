-- The numbers of the stream directory, and their offsets in the file.
use Rattle.std.proofs.Common.{map, add-one, [], ◌∷◌, ◌++◌, ◌≡◌, ℕ, zero, suc, ◌+◌, ◌-◌, ◌*◌, ◌/◌, ◌%◌, ◌<◌, ◌≤◌, true, List, length, get_or, refl, ap, ◌∙◌, arith}
use Rattle.std.specs.List.{range_with_len}
use Rattle.std.proofs.lemmas.List.FromFn.{map-range_with_len_more, get_or-map-range_with_len, length-map-range_with_len}
use Rattle.std.proofs.lemmas.Nat.{div-add-mod', mod_below, div-mul-add, mod-mul-add}
use Rattle.std.proofs.lemmas.Bool.Decides.{nat_tests}
use Rattle.byte_fields.specs.Number.{nth_u32}
use Rattle.byte_fields.proofs.CheckLaws.{checks_below-each, check_held}
use Rattle.msf_superblock.specs.BlockNumber.{IsBlockSize, IsOrdinary, is_ordinary, blocks_for}
use Rattle.msf_superblock.specs.Superblock.{Fields}
use Rattle.msf_blocks.specs.Directory.{map_number, directory_contents, directory_blocks, directory_block_check, directory_block_checks, IsReadable, list_start, stream_blocks}
use Rattle.msf_superblock.specs.declared.fault.MsfFault.TheVariants.{DirectoryBlock}
use Rattle.msf_superblock.proofs.SizeLaws.{size_facts, some_bytes, place_below}

-- the numbers of the blocks of the directory
abbrev pub map_numbers : List ℕ → Fields → List ℕ
map_numbers file fields = map (map_number file fields) (range_with_len 0 (directory_blocks fields))

-- ---- where a number is

-- the directory is as long as the superblock says
pub contents_length : (file : List ℕ) (fields : Fields) → length (directory_contents file fields) ≡ fields.directory_bytes
unfolding directory_contents
contents_length file fields = length-map-range_with_len _ 0 fields.directory_bytes

-- the four bytes of a number of the directory are next to each other in one block
pub record LiesInBlock (b d j : ℕ) : Type 0 where
  pub same_block : (i : ℕ) → i < 4 → ((4 * j + i) / b ≡ 4 * j / b) × ((4 * j + i) % b ≡ 4 * j % b + i)
  pub below : 4 * j / b < blocks_for b d
  pub inside : 4 * j % b + 4 ≤ b

-- a block holds whole numbers
whole_numbers : (b c q r j : ℕ) → b ≡ 4 * c → q * b + r ≡ 4 * j → r < b → r + 4 ≤ b
whole_numbers b c q r j is e lt = let fours : q * b ≡ 4 * (q * c) = ap (λ (n : ℕ). q * n) is ∙ omega arith in omega arith

pub lies_in_block : (b d j : ℕ) → IsBlockSize b → 4 * j + 4 ≤ d → LiesInBlock b d j
lies_in_block b d j size room =
    let facts = size_facts b size in
    let some = some_bytes b size in
    let q = 4 * j / b in
    let r = 4 * j % b in
    let whole : q * b + r ≡ 4 * j = div-add-mod' (4 * j) b in
    let within : r + 4 ≤ b = whole_numbers b (b / 4) q r j facts.fours whole (mod_below (4 * j) b some) in
    record {
      same_block = λ i lt.
          let e : 4 * j + i ≡ q * b + (r + i) = omega (arith, whole) in
          (rw e (div-mul-add q b (r + i) (omega (arith, within))), rw e (mod-mul-add q b (r + i) (omega (arith, within))));
      below = place_below b d (4 * j) some (omega arith);
      inside = within;
    }

-- the offset in the file of the directory's number at a position
abbrev pub word_offset : List ℕ → Fields → ℕ → ℕ
word_offset file fields j = map_number file fields (4 * j / fields.block_size) * fields.block_size + 4 * j % fields.block_size

byte_at : (file : List ℕ) (fields : Fields) (j i : ℕ) → IsBlockSize fields.block_size → i < 4 → 4 * j + 4 ≤ fields.directory_bytes
    → get_or (directory_contents file fields) (4 * j + i) 0 ≡ get_or file (word_offset file fields j + i) 0
unfolding directory_contents
byte_at file fields j i size lt room =
    let p = (lies_in_block fields.block_size fields.directory_bytes j size room).same_block i lt in
    get_or-map-range_with_len _ 0 fields.directory_bytes (4 * j + i) (4 * j + i) 0 (omega arith) (omega arith)
    ∙ rw (p.0, p.1) (ap (λ (n : ℕ). get_or file n 0) (omega arith))

-- the blocks that the block map lists are ordinary
pub map_is_ordinary : (file : List ℕ) (fields : Fields) (k : ℕ) → IsReadable file fields → k < directory_blocks fields → IsOrdinary fields.num_blocks (map_number file fields k)
unfolding directory_block_checks
map_is_ordinary file fields k readable lt =
    let block = map_number file fields k in
    let e : is_ordinary fields.num_blocks block ≡ true = check_held (is_ordinary fields.num_blocks block) (DirectoryBlock k block) (checks_below-each (directory_block_check file fields) (directory_blocks fields) k readable.blocks lt) in
    (grind (arith, nat_tests), grind (arith, nat_tests))

-- ---- where the lists of the streams are

list_start-add : (b : ℕ) (contents : List ℕ) (t k : ℕ) → list_start b contents t ≤ list_start b contents (k + t)
unfolding list_start
list_start-add b contents t zero = let e : 0 + t ≡ t = omega arith in rw e (omega arith)
list_start-add b contents t (suc k) = let e : suc k + t ≡ suc (k + t) = omega arith in rw e (omega (arith, list_start-add b contents t k))

-- the first list comes after the number of streams and the sizes
pub list_start_zero : (b : ℕ) (contents : List ℕ) → list_start b contents 0 ≡ 1 + nth_u32 contents 0
unfolding list_start
list_start_zero b contents = refl

-- the next list comes after this one
pub list_start_more : (b : ℕ) (contents : List ℕ) (t : ℕ) → list_start b contents (t + 1) ≡ list_start b contents t + stream_blocks b contents t
unfolding list_start
list_start_more b contents t = rw add-one refl

-- every list comes after the number of streams and the sizes
pub list_start_first : (b : ℕ) (contents : List ℕ) (n : ℕ) → 1 + nth_u32 contents 0 ≤ list_start b contents n
list_start_first b contents n =
    let f : n ≡ n + 0 = omega arith in
    rw f (omega (arith, list_start-add b contents 0 n, list_start_zero b contents))

-- the list of a stream ends before those of later streams begin
pub list_start_upto : (b : ℕ) (contents : List ℕ) (t n : ℕ) → t < n → (list_start b contents t + stream_blocks b contents t ≤ list_start b contents n) × (1 + nth_u32 contents 0 ≤ list_start b contents t)
list_start_upto b contents t n lt =
    let e : n ≡ (n - (t + 1)) + (t + 1) = omega arith in
    let upto : list_start b contents (t + 1) ≤ list_start b contents n = rw e (list_start-add b contents (t + 1) (n - (t + 1))) in
    (omega (arith, upto, list_start_more b contents t), list_start_first b contents t)

-- ---- lists that are made by an index

-- one more entry
pub map_range_more : {X : Type 0} (f : ℕ → X) (n : ℕ) → map f (range_with_len 0 (n + 1)) ≡ map f (range_with_len 0 n) ++ f n ∷ []
map_range_more f n = map-range_with_len_more f 0 n n (omega arith)
