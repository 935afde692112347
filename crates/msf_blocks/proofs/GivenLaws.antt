-- What reads gave, of the texts of a container.
use Rattle.std.proofs.Common.{◌≡◌, ℕ, ◌+◌, ◌-◌, ◌*◌, ◌/◌, ◌%◌, ◌<◌, ◌≤◌, min, true, map, List, [], ◌++◌, Some, length, take, drop, get_or, sym, ap, ◌∙◌, arith, inl, inr}
use Rattle.std.specs.List.{range_with_len}
use Rattle.std.proofs.lemmas.Bool.{cases_lt}
use Rattle.std.proofs.lemmas.List.{append-nil, nil_from_length, get_or_append_left, get_or-append-add, get_or-take, get_or-drop, length-append, length-take, length-drop}
use Rattle.std.proofs.lemmas.List.FromFn.{get_or-map-range_with_len, length-map-range_with_len}
use Rattle.std.proofs.lemmas.Nat.{div-mul-add, mod-mul-add, div-add-mod', mod_below, div_below}
use Rattle.byte_fields.specs.Number.{number_at, nth_u32}
use Rattle.byte_fields.specs.Check.{Refuses, first_failing}
use Rattle.byte_fields.proofs.NumberLaws.{number_at-take}
use Rattle.byte_io.specs.At.{Bytes, AreGiven, GivesBehind}
use Rattle.msf_blocks.specs.Blocks.{AreGivenIn}
use Rattle.msf_superblock.specs.BlockNumber.{IsBlockSize}
use Rattle.msf_blocks.specs.Directory.{AreMapNumbers, BlockMapRefuses, ContentsRefuse, DirectoryRefuses, HasContents, IsDirectoryByte, IsNumberGiven, directory_blocks, directory_checks, map_start, number_checks}
use Rattle.msf_superblock.specs.Superblock.{Fields}
use Rattle.msf_superblock.specs.declared.fault.MsfFault.{MsfFault}
use Rattle.msf_superblock.specs.declared.fault.MsfFault.TheVariants.{Memory}
use Rattle.msf_blocks.proofs.BlocksLaws.{IsRun, RunFacts}
use Rattle.msf_superblock.proofs.SizeLaws.{some_bytes, place_below}

-- ---- blocks

-- a byte of a run of consecutive blocks is in the block that the list has for it
run_byte : (bytes : Bytes) (b : ℕ) (blocks : List ℕ) (position run i j byte : ℕ) → 0 < b → IsRun blocks position run → j < run * b → i ≡ position * b + j
    → bytes.gives (get_or blocks position 0 * b + j) byte ≡ true → bytes.gives (get_or blocks (i / b) 0 * b + i % b) byte ≡ true
run_byte bytes b blocks position run i j byte some side below is given =
    let q = j / b in
    let r = j % b in
    let low : r < b = mod_below j b some in
    let whole : j ≡ q * b + r = omega (arith, div-add-mod' j b) in
    let place : i ≡ (position + q) * b + r = omega (arith, is, whole) in
    let within : q < run = div_below j b run some below in
    let d : i / b ≡ position + q = rw place (div-mul-add (position + q) b r low) in
    let m : i % b ≡ r = rw place (mod-mul-add (position + q) b r low) in
    let e : (get_or blocks position 0 + q) * b + r ≡ get_or blocks position 0 * b + j = omega (arith, whole) in
    rw (d, m, side q within, e) given

-- none is given of no bytes
pub none_given : (bytes : Bytes) (b : ℕ) (blocks text : List ℕ) → text ≡ [] → AreGivenIn bytes b blocks text
none_given bytes b blocks text is i lt = absurd (omega (arith, lt, ap length is))

-- one run more
pub given_run : (bytes : Bytes) (b size : ℕ) (blocks : List ℕ) (position run : ℕ) (before after : List ℕ) → 0 < b → RunFacts b size position run → IsRun blocks position run → length before ≡ min (position * b) size
    → length after ≤ length before + run * b → AreGivenIn bytes b blocks before → GivesBehind bytes (get_or blocks position 0 * b) before after → AreGivenIn bytes b blocks after
given_run bytes b size blocks position run before after some facts side long fits old (more, is, new) i lt =
    let start : length before ≡ position * b = omega (arith, long, facts.low) in
    let many : length after ≡ length before + length more = ap length is ∙ length-append before more in
    elim (cases_lt i (length before)) [
      | inl low ↦ rw (is, get_or_append_left before more 0 i low) (old i low)
      | inr high ↦
          let j = i - length before in
          let here : i ≡ length before + j = omega (arith, high) in
          let place : i ≡ position * b + j = omega (arith, here, start) in
          let below : j < length more = omega (arith, here, lt, many) in
          let byte : get_or after i 0 ≡ get_or more j 0 = ap (λ (xs : List ℕ). get_or xs i 0) is ∙ ap (λ (n : ℕ). get_or (before ++ more) n 0) here ∙ get_or-append-add before more j 0 in
          rw byte (run_byte bytes b blocks position run i j (get_or more j 0) some side (omega (arith, below, many, fits)) place (new j below))
    ]

-- ---- numbers

-- reads gave all bytes of a buffer that was empty
pub behind_none : (bytes : Bytes) (offset : ℕ) (after : List ℕ) → GivesBehind bytes offset [] after → AreGiven bytes offset after
behind_none bytes offset after (more, is, new) = rw is new

-- reads gave a number in a text that they gave
pub number_given : (bytes : Bytes) (offset k : ℕ) (text : List ℕ) → AreGiven bytes offset text → k + 4 ≤ length text → IsNumberGiven bytes (offset + k) (number_at 4 text k)
number_given bytes offset k text given fits =
    let part = take 4 (drop k text) in
    let long : length part ≡ 4 = omega (arith, length-take 4 (drop k text), length-drop k text, fits) in (
      part,
      λ i lt.
          let byte : get_or part i 0 ≡ get_or text (k + i) 0 = get_or-take 4 (drop k text) i 0 (omega (arith, lt, long)) ∙ get_or-drop k text i 0 in
          let e : offset + k + i ≡ offset + (k + i) = omega arith in
          rw (byte, e) (given (k + i) (omega (arith, lt, long, fits))),
      long,
      sym (number_at-take 4 text k 4 (omega arith)),
    )

-- reads gave the numbers in a text of a block map that they gave
pub map_given : (bytes : Bytes) (fields : Fields) (text numbers : List ℕ) (count : ℕ) → AreGiven bytes (map_start fields) text → 4 * count ≤ length text → numbers ≡ map (nth_u32 text) (range_with_len 0 count) → AreMapNumbers bytes fields numbers
unfolding nth_u32
map_given bytes fields text numbers count given fits is k lt =
    let below : k < count = omega (arith, lt, ap length is, length-map-range_with_len (nth_u32 text) 0 count) in
    let at : get_or numbers k 0 ≡ nth_u32 text k = rw is (get_or-map-range_with_len (nth_u32 text) 0 count k k 0 below (omega arith)) in
    rw at (number_given bytes (map_start fields) (4 * k) text given (omega (arith, below, fits)))

-- nothing comes after a list that has its whole length
whole_list : (xs rest : List ℕ) (n : ℕ) → length xs ≡ n → length xs + length rest ≡ n → xs ++ rest ≡ xs
whole_list xs rest n long all =
    let none : rest ≡ [] = nil_from_length rest (omega (arith, long, all)) in
    rw none (append-nil xs)

-- a block map that reads gave, with a number at fault
pub map_given_refuses : (bytes : Bytes) (fields : Fields) (numbers : List ℕ) (fault : MsfFault) → AreMapNumbers bytes fields numbers → length numbers ≡ directory_blocks fields → first_failing (number_checks numbers fields) ≡ Some fault
    → BlockMapRefuses bytes fields fault
map_given_refuses bytes fields numbers fault given long first = record {
  numbers = numbers;
  given = given;
  few = omega (arith, long);
  refused = λ rest all. rw (whole_list numbers rest (directory_blocks fields) long all) first;
}

-- ---- contents

-- reads gave each byte of the contents, in a block that they gave in the block map
pub byte_given : (bytes : Bytes) (fields : Fields) (contents : List ℕ) (i : ℕ) → IsBlockSize fields.block_size → HasContents bytes fields contents → i < length contents → IsDirectoryByte bytes fields i (get_or contents i 0)
byte_given bytes fields contents i size has lt =
    let b = fields.block_size in
    let below : i / b < length has.numbers = omega (arith, place_below b fields.directory_bytes i (some_bytes b size) (omega (arith, lt, has.count)), has.block_map.count) in
    (get_or has.numbers (i / b) 0, has.block_map.given (i / b) below, has.given i lt)

-- contents that reads gave, of which all are known
pub contents_refuse : (bytes : Bytes) (fields : Fields) (contents : List ℕ) (fault : MsfFault) → IsBlockSize fields.block_size → HasContents bytes fields contents → Refuses Memory (first_failing (directory_checks fields contents)) fault
    → ContentsRefuse bytes fields fault
contents_refuse bytes fields contents fault size has first = record {
  text = contents;
  given = λ i lt. let here : 0 + i ≡ i = omega arith in rw here (byte_given bytes fields contents i size has lt);
  few = omega (arith, has.count);
  refused = λ rest all. rw (whole_list contents rest fields.directory_bytes has.count all) first;
}

-- so the directory has this fault
pub directory_refuses : (bytes : Bytes) (fields : Fields) (contents : List ℕ) (fault : MsfFault) → IsBlockSize fields.block_size → HasContents bytes fields contents → Refuses Memory (first_failing (directory_checks fields contents)) fault
    → DirectoryRefuses bytes fields fault
directory_refuses bytes fields contents fault size has first = inr ((has.numbers, has.block_map), contents_refuse bytes fields contents fault size has first)
