-- What is read by position, of a file that may be known.
use Rattle.std.proofs.Common.{◌≡◌, ℕ, zero, suc, ◌+◌, ◌*◌, ◌<◌, ◌≤◌, map, true, false, List, Some, None, length, get_or, refl, arith}
use Rattle.std.proofs.lemmas.List.FromFn.{get_or-map-range_with_len, length-map-range_with_len}
use Rattle.std.specs.List.{range_with_len}
use Rattle.std.specs.Prelude.{nat_le}
use Rattle.std.proofs.lemmas.Bool.Decides.{nat_tests}
use Rattle.std.proofs.lemmas.Nat.{mul-le}
use Rattle.byte_fields.specs.Number.{number_at, nth_u32}
use Rattle.byte_fields.specs.Check.{Check, checks_below, first_failing}
use Rattle.byte_io.specs.At.{StandsAt}
use Rattle.msf_blocks.specs.Blocks.{AreInside}
use Rattle.msf_blocks.specs.Directory.{map_number, number_check, number_checks, directory_blocks, directory_block_check, directory_block_checks, length_checks, list_start}
use Rattle.msf_blocks.proofs.DirectoryLaws.{map_numbers}
use Rattle.msf_superblock.specs.declared.fault.MsfFault.TheVariants.{DirectoryShort}
use Rattle.msf_superblock.specs.Superblock.{HoldsBlocks, Fields}
use Rattle.msf_blocks.proofs.DirectoryLaws.{map_is_ordinary}
use Rattle.msf_superblock.proofs.FrontLaws.{number_read}

-- a number that was read is that of the file
pub number_is : (file bytes : List ℕ) (offset : ℕ) → StandsAt file offset bytes → length bytes ≡ 4 → number_at 4 bytes 0 ≡ number_at 4 file offset
number_is file bytes offset stands four =
    let here : offset + 0 ≡ offset = omega arith in
    rw here at (number_read file bytes offset 0 stands (omega (arith, four)))

same_checks : {F : Type 0} (n : ℕ) (f g : ℕ → List (Check F)) → ((k : ℕ) → k < n → f k ≡ g k) → checks_below n f ≡ checks_below n g
same_checks zero f g same = refl
same_checks (suc n) f g same = rw (same_checks n f g (λ k lt. same k (omega (arith, lt))), same n (omega arith)) refl

-- so are their checks
pub number_checks_are : (file numbers : List ℕ) (fields : Fields) → numbers ≡ map_numbers file fields → number_checks numbers fields ≡ directory_block_checks file fields
unfolding number_checks directory_block_checks
number_checks_are file numbers fields is =
    let count = directory_blocks fields in
    same_checks count (number_check numbers fields) (directory_block_check file fields) (λ k lt.
    let at : get_or numbers k 0 ≡ map_number file fields k = rw is (get_or-map-range_with_len (map_number file fields) 0 count k k 0 lt (omega arith)) in
    rw at refl)

-- these blocks are in the file
pub map_inside : (file : List ℕ) (fields : Fields) → first_failing (directory_block_checks file fields) ≡ None → HoldsBlocks file fields
    → AreInside file fields.block_size (map_numbers file fields)
map_inside file fields held whole k lt =
    let count = directory_blocks fields in
    let below : k < count = omega (arith, lt, length-map-range_with_len (map_number file fields) 0 count) in
    let at : get_or (map (map_number file fields) (range_with_len 0 count)) k 0 ≡ map_number file fields k = get_or-map-range_with_len (map_number file fields) 0 count k k 0 below (omega arith) in
    let inside = (map_is_ordinary file fields k (record { whole = whole; blocks = held }) below).1 in
    let m : (map_number file fields k + 1) * fields.block_size ≤ fields.num_blocks * fields.block_size = mul-le _ _ _ _ (omega (arith, inside)) (omega arith) in
    rw at (omega (arith, m, whole))

-- a directory that is too short for the number of its streams
pub short_count : (b : ℕ) (contents : List ℕ) → length contents < 4 → first_failing (length_checks b contents) ≡ Some (DirectoryShort 4 (length contents))
unfolding length_checks
short_count b contents lt = let e : nat_le 4 (length contents) ≡ false = grind (arith, nat_tests) in rw e refl

-- one that is too short for their sizes
pub short_sizes : (b : ℕ) (contents : List ℕ) → 4 ≤ length contents → length contents < 4 + 4 * nth_u32 contents 0 → first_failing (length_checks b contents) ≡ Some (DirectoryShort (4 + 4 * nth_u32 contents 0) (length contents))
unfolding length_checks
short_sizes b contents le lt =
    let a : nat_le 4 (length contents) ≡ true = grind (arith, nat_tests) in
    let e : nat_le (4 + 4 * nth_u32 contents 0) (length contents) ≡ false = grind (arith, nat_tests) in
    rw (a, e) refl

-- one that is too short for their lists
pub short_lists : (b : ℕ) (contents : List ℕ) → 4 ≤ length contents → 4 + 4 * nth_u32 contents 0 ≤ length contents → length contents < 4 * list_start b contents (nth_u32 contents 0)
    → first_failing (length_checks b contents) ≡ Some (DirectoryShort (4 * list_start b contents (nth_u32 contents 0)) (length contents))
unfolding length_checks
short_lists b contents le room lt =
    let a : nat_le 4 (length contents) ≡ true = grind (arith, nat_tests) in
    let d : nat_le (4 + 4 * nth_u32 contents 0) (length contents) ≡ true = grind (arith, nat_tests) in
    let e : nat_le (4 * list_start b contents (nth_u32 contents 0)) (length contents) ≡ false = grind (arith, nat_tests) in
    rw (a, d, e) refl

-- one that is long enough
pub long_enough : (b : ℕ) (contents : List ℕ) → 4 ≤ length contents → 4 + 4 * nth_u32 contents 0 ≤ length contents → 4 * list_start b contents (nth_u32 contents 0) ≤ length contents → first_failing (length_checks b contents) ≡ None
unfolding length_checks
long_enough b contents le room lists =
    let a : nat_le 4 (length contents) ≡ true = grind (arith, nat_tests) in
    let d : nat_le (4 + 4 * nth_u32 contents 0) (length contents) ≡ true = grind (arith, nat_tests) in
    let e : nat_le (4 * list_start b contents (nth_u32 contents 0)) (length contents) ≡ true = grind (arith, nat_tests) in
    rw (a, d, e) refl
