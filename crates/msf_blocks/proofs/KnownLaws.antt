-- What reads gave of a file that is known is what the file has.
use Rattle.std.proofs.Common.{map, ◌≡◌, ℕ, ◌+◌, ◌*◌, ◌/◌, ◌%◌, ◌<◌, ◌≤◌, true, List, ◌++◌, Some, length, take, drop, get_or, ap, ◌∙◌, sym, refl, arith, inl, inr}
use Rattle.std.proofs.lemmas.Bool.{eqb-true, eq-eqb}
use Rattle.std.proofs.lemmas.Grind.{get_or_default_zero, same_number_lists}
use Rattle.std.proofs.lemmas.List.{get_or-take, get_or-drop, length-take, length-drop, take_all, take-append-drop}
use Rattle.std.proofs.lemmas.List.FromFn.{get_or-map-range_with_len, length-map-range_with_len}
use Rattle.std.specs.List.{range_with_len}
use Rattle.std.proofs.lemmas.Nat.{div_below, mul-le, mod_below}
use Rattle.byte_fields.specs.Number.{number_at}
use Rattle.byte_fields.specs.Check.{Refuses, first_failing}
use Rattle.byte_io.specs.At.{AreGiven, Bytes, IfKnown, StandsAt, stable}
use Rattle.msf_superblock.specs.BlockNumber.{IsBlockSize, blocks_for}
use Rattle.msf_blocks.specs.Blocks.{AreGivenIn, AreInside, in_blocks}
use Rattle.msf_blocks.specs.Directory.{AreDirectoryBytes, AreMapNumbers, BlockMapRefuses, ContentsRefuse, DirectoryRefuses, HasBlockMap, HasContents, IsBlockMap, IsDirectoryByte, IsNumberGiven, IsReadable, directory_block_checks, directory_blocks, directory_checks, directory_contents, map_number, map_start}
use Rattle.msf_blocks.proofs.LayoutLaws.{IsDirectoryFault}
use Rattle.msf_blocks.proofs.DirectoryLaws.{map_numbers}
use Rattle.msf_superblock.specs.Superblock.{Fields, HoldsBlocks, IsFit}
use Rattle.msf_superblock.specs.declared.fault.MsfFault.{MsfFault}
use Rattle.msf_superblock.specs.declared.fault.MsfFault.TheVariants.{Memory}
use Rattle.msf_blocks.proofs.AtLaws.{number_checks_are, number_is}
use Rattle.msf_blocks.proofs.DirectoryLaws.{contents_length, map_is_ordinary}
use Rattle.msf_blocks.proofs.GivenLaws.{byte_given}
use Rattle.msf_superblock.proofs.SizeLaws.{ceil_ge, place_below, size_facts, some_bytes}

-- ---- bytes

-- a byte that a file gives is its own
byte_is : (file : List ℕ) (offset byte : ℕ) → offset < length file → (stable file).gives offset byte ≡ true → byte ≡ get_or file offset 0
byte_is file offset byte inside gives = sym (eqb-true (get_or file offset 256) byte gives) ∙ get_or_default_zero file offset 256 inside

-- a file gives its own bytes
pub gives_own : (file : List ℕ) (offset : ℕ) → offset < length file → (stable file).gives offset (get_or file offset 0) ≡ true
gives_own file offset inside = eq-eqb (get_or file offset 256) (get_or file offset 0) (get_or_default_zero file offset 256 inside)

-- what a file gave stands in it
pub given_stands : (file : List ℕ) (offset : ℕ) (text : List ℕ) → offset + length text ≤ length file → AreGiven (stable file) offset text → StandsAt file offset text
given_stands file offset text inside given =
    let long : length text ≡ length (take (length text) (drop offset file)) = omega (arith, inside, length-take (length text) (drop offset file), length-drop offset file) in
    record {
      inside = inside;
      is = same_number_lists text (take (length text) (drop offset file)) long (λ k lt.
          byte_is file (offset + k) (get_or text k 0) (omega (arith, lt, inside)) (given k lt) ∙ sym (get_or-take (length text) (drop offset file) k 0 lt ∙ get_or-drop offset file k 0));
    }

-- ---- the block map

-- a number that a file gave stands in it
number_known : (file : List ℕ) (offset n : ℕ) → offset + 4 ≤ length file → IsNumberGiven (stable file) offset n → n ≡ number_at 4 file offset
number_known file offset n inside (text, given, four, is) = is ∙ number_is file text offset (given_stands file offset text (omega (arith, inside, four)) given) four

-- the block map is in the file
pub map_inside : (file : List ℕ) (fields : Fields) (k : ℕ) → HoldsBlocks file fields → IsFit fields → k < directory_blocks fields → map_start fields + 4 * k + 4 ≤ length file
map_inside file fields k whole fit lt =
    let b = fields.block_size in
    let rows : (fields.block_map_addr + 1) * b ≤ fields.num_blocks * b = mul-le _ _ _ _ (omega (arith, fit.block_map_fits.1)) (omega arith) in
    let room : 4 * k + 4 ≤ b = omega (arith, lt, fit.directory_fits, (size_facts b fit.block_size_fits).fours) in
    omega (arith, rows, room, whole)

-- a number that reads gave in the block map is that of the file
pub map_known : (file : List ℕ) (fields : Fields) (k n : ℕ) → HoldsBlocks file fields → IsFit fields → k < directory_blocks fields → IsNumberGiven (stable file) (map_start fields + 4 * k) n → n ≡ map_number file fields k
unfolding map_number
map_known file fields k n whole fit lt given = number_known file (map_start fields + 4 * k) n (map_inside file fields k whole fit lt) given

-- the first numbers of a block map that reads gave are those of the file
first_numbers : (file : List ℕ) (fields : Fields) (numbers : List ℕ) → HoldsBlocks file fields → IsFit fields → AreMapNumbers (stable file) fields numbers → length numbers ≤ directory_blocks fields
    → numbers ≡ take (length numbers) (map_numbers file fields)
first_numbers file fields numbers whole fit given few =
    let all = map_numbers file fields in
    let count = length-map-range_with_len (map_number file fields) 0 (directory_blocks fields) in
    let long : length numbers ≡ length (take (length numbers) all) = omega (arith, few, count, length-take (length numbers) all) in
    same_number_lists numbers (take (length numbers) all) long (λ k lt.
    let below : k < directory_blocks fields = omega (arith, lt, few) in
    map_known file fields k (get_or numbers k 0) whole fit below (given k lt)
    ∙ sym (get_or-take (length numbers) all k 0 lt ∙ get_or-map-range_with_len (map_number file fields) 0 (directory_blocks fields) k k 0 below (omega arith)))

-- the rest of a list behind its first items
rest_of : (front all : List ℕ) → front ≡ take (length front) all → front ++ drop (length front) all ≡ all
rest_of front all is = ap (λ (xs : List ℕ). xs ++ drop (length front) all) is ∙ take-append-drop (length front) all

-- a fault that reads gave in the block map is that of the file
map_fault_known : (file : List ℕ) (fields : Fields) (fault : MsfFault) → HoldsBlocks file fields → IsFit fields → BlockMapRefuses (stable file) fields fault → first_failing (directory_block_checks file fields) ≡ Some fault
map_fault_known file fields fault whole fit map =
    let all = map_numbers file fields in
    let count = length-map-range_with_len (map_number file fields) 0 (directory_blocks fields) in
    let same = rest_of map.numbers all (first_numbers file fields map.numbers whole fit map.given map.few) in
    let rest = drop (length map.numbers) all in
    let long : length map.numbers + length rest ≡ directory_blocks fields = omega (arith, count, map.few, length-drop (length map.numbers) all) in
    sym (ap first_failing (number_checks_are file all fields refl)) ∙ rw same at (map.refused rest long)

-- the block map that reads gave is that of the file
pub numbers_known : (file : List ℕ) (fields : Fields) (numbers : List ℕ) → HoldsBlocks file fields → IsFit fields → IsBlockMap (stable file) fields numbers → numbers ≡ map_numbers file fields
numbers_known file fields numbers whole fit map =
    let all = map_numbers file fields in
    let count = length-map-range_with_len (map_number file fields) 0 (directory_blocks fields) in
    first_numbers file fields numbers whole fit map.given (omega (arith, map.count)) ∙ rw (map.count ∙ sym count) (take_all (length all) all (omega arith))

-- if it is sound, so is that of the file
pub block_map_known : (file : List ℕ) (fields : Fields) → HoldsBlocks file fields → IsFit fields → HasBlockMap (stable file) fields → IsReadable file fields
block_map_known file fields whole fit (numbers, map) =
    let same = numbers_known file fields numbers whole fit map in
    record { whole = whole; blocks = sym (ap first_failing (number_checks_are file numbers fields same)) ∙ map.sound }

-- ---- the contents

-- a byte that reads gave of the directory is that of the file
directory_byte_known : (file : List ℕ) (fields : Fields) (i byte : ℕ) → IsFit fields → IsReadable file fields → i < fields.directory_bytes → IsDirectoryByte (stable file) fields i byte → byte ≡ get_or (directory_contents file fields) i 0
unfolding directory_contents
directory_byte_known file fields i byte fit readable lt (block, listed, given) =
    let b = fields.block_size in
    let some = some_bytes b fit.block_size_fits in
    let below = place_below b fields.directory_bytes i some lt in
    let number = map_number file fields (i / b) in
    let is = map_known file fields (i / b) block readable.whole fit below listed in
    let rows : (number + 1) * b ≤ fields.num_blocks * b = mul-le _ _ _ _ (omega (arith, (map_is_ordinary file fields (i / b) readable below).1)) (omega arith) in
    let inside : number * b + i % b < length file = omega (arith, rows, readable.whole, mod_below i b some) in
    byte_is file (number * b + i % b) byte inside (rw is at given)
    ∙ sym (get_or-map-range_with_len _ 0 fields.directory_bytes i i 0 lt (omega arith))

-- the first bytes of a directory that reads gave are those of the file
pub directory_known : (file : List ℕ) (fields : Fields) (text : List ℕ) → IsFit fields → IsReadable file fields → AreDirectoryBytes (stable file) fields 0 text → length text ≤ fields.directory_bytes
    → text ≡ take (length text) (directory_contents file fields)
directory_known file fields text fit readable given few =
    let all = directory_contents file fields in
    let long : length text ≡ length (take (length text) all) = omega (arith, few, contents_length file fields, length-take (length text) all) in
    same_number_lists text (take (length text) all) long (λ k lt.
    let here : 0 + k ≡ k = omega arith in
    directory_byte_known file fields k (get_or text k 0) fit readable (omega (arith, lt, few)) (rw here at (given k lt)) ∙ sym (get_or-take (length text) all k 0 lt))

-- a fault that reads gave in the contents is that of the file
contents_fault_known : (file : List ℕ) (fields : Fields) (fault : MsfFault) → IsFit fields → IsReadable file fields → ContentsRefuse (stable file) fields fault
    → Refuses Memory (first_failing (directory_checks fields (directory_contents file fields))) fault
contents_fault_known file fields fault fit readable contents =
    let all = directory_contents file fields in
    let same = rest_of contents.text all (directory_known file fields contents.text fit readable contents.given contents.few) in
    let rest = drop (length contents.text) all in
    let long : length contents.text + length rest ≡ fields.directory_bytes = omega (arith, contents_length file fields, contents.few, length-drop (length contents.text) all) in
    rw same at (contents.refused rest long)

-- a fault that reads gave in the directory is that of the file
pub directory_fault_known : (file : List ℕ) (fields : Fields) (fault : MsfFault) → HoldsBlocks file fields → IsFit fields → DirectoryRefuses (stable file) fields fault → IsDirectoryFault file fields fault
directory_fault_known file fields fault whole fit refuses = elim refuses [
  | inl map ↦ inl (map_fault_known file fields fault whole fit map)
  | inr (map, contents) ↦
      let readable = block_map_known file fields whole fit map in
      inr (readable.blocks, contents_fault_known file fields fault fit readable contents)
]

-- the contents that reads gave are those of the file
pub contents_known : (file : List ℕ) (fields : Fields) (contents : List ℕ) → HoldsBlocks file fields → IsFit fields → HasContents (stable file) fields contents → contents ≡ directory_contents file fields
contents_known file fields contents whole fit has =
    let all = directory_contents file fields in
    let readable = block_map_known file fields whole fit (has.numbers, has.block_map) in
    let given : AreDirectoryBytes (stable file) fields 0 contents = λ i lt. let here : 0 + i ≡ i = omega arith in rw here (byte_given (stable file) fields contents i fit.block_size_fits has lt) in
    let count : length contents ≡ length all = has.count ∙ sym (contents_length file fields) in
    directory_known file fields contents fit readable given (omega (arith, has.count)) ∙ rw count (take_all (length all) all (omega arith))

-- ---- a list of blocks

-- bytes that reads gave in blocks of a file are those in these blocks
pub blocks_known : (file : List ℕ) (b : ℕ) (blocks text : List ℕ) → 0 < b → AreInside file b blocks → length text ≤ length blocks * b → AreGivenIn (stable file) b blocks text → text ≡ in_blocks file b blocks (length text)
unfolding in_blocks
blocks_known file b blocks text some inside fits given =
    let f = λ (i : ℕ). get_or file (get_or blocks (i / b) 0 * b + i % b) 0 in
    let long : length text ≡ length (map f (range_with_len 0 (length text))) = sym (length-map-range_with_len f 0 (length text)) in
    same_number_lists text (map f (range_with_len 0 (length text))) long (λ k lt.
    let within : k / b < length blocks = div_below k b (length blocks) some (omega (arith, lt, fits)) in
    let row = inside (k / b) within in
    byte_is file (get_or blocks (k / b) 0 * b + k % b) (get_or text k 0) (omega (arith, row, mod_below k b some)) (given k lt)
    ∙ sym (get_or-map-range_with_len f 0 (length text) k k 0 lt (omega arith)))

-- a file gives the bytes in its blocks
pub blocks_given : (file : List ℕ) (b : ℕ) (blocks : List ℕ) (size : ℕ) → 0 < b → AreInside file b blocks → size ≤ length blocks * b → AreGivenIn (stable file) b blocks (in_blocks file b blocks size)
unfolding in_blocks
blocks_given file b blocks size some inside fits = λ k lt.
    let f = λ (i : ℕ). get_or file (get_or blocks (i / b) 0 * b + i % b) 0 in
    let below : k < size = omega (arith, lt, length-map-range_with_len f 0 size) in
    let row = inside (k / b) (div_below k b (length blocks) some (omega (arith, below, fits))) in
    let byte : get_or (map f (range_with_len 0 size)) k 0 ≡ f k = get_or-map-range_with_len f 0 size k k 0 below (omega arith) in
    rw byte (gives_own file (get_or blocks (k / b) 0 * b + k % b) (omega (arith, row, mod_below k b some)))

-- of all bytes
pub all_blocks_known : (bytes : Bytes) (b : ℕ) (blocks text : List ℕ) (size : ℕ) → IsBlockSize b → IfKnown bytes (λ file. AreInside file b blocks) → length blocks ≡ blocks_for b size
    → length text ≡ size → AreGivenIn bytes b blocks text → IfKnown bytes (λ file. text ≡ in_blocks file b blocks size)
all_blocks_known bytes b blocks text size is inside count long given = λ file known.
    let some = some_bytes b is in
    let room : size ≤ length blocks * b = rw count (ceil_ge b size some) in
    rw long at (blocks_known file b blocks text some (inside file known) (omega (arith, long, room)) (rw known at given))
