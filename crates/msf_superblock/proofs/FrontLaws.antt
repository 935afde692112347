-- The front of a file, and what is read of it.
use Rattle.std.proofs.Common.{◌≡◌, ℕ, ◌+◌, ◌*◌, ◌/◌, ◌%◌, ◌<◌, ◌≤◌, true, false, Bool, List, Some, None, length, take, drop, get_or, ap, ◌∙◌, refl, sym, arith}
use Rattle.std.proofs.lemmas.List.{take-take, get_or-take, get_or-drop, length-take}
use Rattle.std.specs.List.{starts_with}
use Rattle.std.specs.Prelude.{nat_le, nat_eq, ◌==◌, ◌&&◌, ◌||◌}
use Rattle.std.proofs.lemmas.Bool.Decides.{nat_tests}
use Rattle.byte_fields.specs.Number.{number_at}
use Rattle.byte_fields.specs.Check.{first_failing}
use Rattle.byte_io.specs.At.{StandsAt}
use Rattle.msf_superblock.specs.declared.fault.MsfFault.TheVariants.{Short}
use Rattle.msf_superblock.specs.BlockNumber.{is_block_size, is_ordinary, blocks_for}
use Rattle.msf_superblock.proofs.SizeLaws.{size_decides}
use Rattle.msf_superblock.specs.Superblock.{Fields, IsFit, IsSuperblock, magic, fields_of, superblock_checks, front_checks}
use Rattle.msf_superblock.proofs.SuperblockLaws.{magic_from_starts_with, starts_with_magic}

-- the first bytes of a file
pub front_stands : (file front : List ℕ) → 56 ≤ length file → front ≡ take 56 file → StandsAt file 0 front
front_stands file front long is =
    let many : length front ≡ 56 = ap length is ∙ omega (arith, long, length-take 56 file) in
    record { inside = omega (arith, long, many); is = rw many is }

-- a byte that was read is that of the file
pub byte_read : (file bytes : List ℕ) (offset i : ℕ) → StandsAt file offset bytes → i < length bytes → get_or bytes i 0 ≡ get_or file (offset + i) 0
byte_read file bytes offset i stands lt =
    ap (λ (xs : List ℕ). get_or xs i 0) stands.is ∙ get_or-take (length bytes) (drop offset file) i 0 lt ∙ get_or-drop offset file i 0

-- a number in what was read is that of the file
pub number_read : (file bytes : List ℕ) (offset i : ℕ) → StandsAt file offset bytes → i + 4 ≤ length bytes → number_at 4 bytes i ≡ number_at 4 file (offset + i)
unfolding number_at
number_read file bytes offset i stands fits =
    let b0 = byte_read file bytes offset (i + 0) stands (omega arith) in
    let b1 = byte_read file bytes offset (i + 1) stands (omega arith) in
    let b2 = byte_read file bytes offset (i + 2) stands (omega arith) in
    let b3 = byte_read file bytes offset (i + 3) stands (omega arith) in
    let e0 : offset + (i + 0) ≡ offset + i + 0 = omega arith in
    let e1 : offset + (i + 1) ≡ offset + i + 1 = omega arith in
    let e2 : offset + (i + 2) ≡ offset + i + 2 = omega arith in
    let e3 : offset + (i + 3) ≡ offset + i + 3 = omega arith in
    simp get_or-drop (rw (b0 ∙ ap (λ (n : ℕ). get_or file n 0) e0, b1 ∙ ap (λ (n : ℕ). get_or file n 0) e1, b2 ∙ ap (λ (n : ℕ). get_or file n 0) e2, b3 ∙ ap (λ (n : ℕ). get_or file n 0) e3) refl)

-- the fields in the first bytes are those of the file
pub fields_read : (file front : List ℕ) → StandsAt file 0 front → length front ≡ 56 → fields_of front ≡ fields_of file
fields_read file front stands long =
    let a : number_at 4 front 32 ≡ number_at 4 file 32 = number_read file front 0 32 stands (omega (arith, long)) in
    let b : number_at 4 front 36 ≡ number_at 4 file 36 = number_read file front 0 36 stands (omega (arith, long)) in
    let c : number_at 4 front 40 ≡ number_at 4 file 40 = number_read file front 0 40 stands (omega (arith, long)) in
    let d : number_at 4 front 44 ≡ number_at 4 file 44 = number_read file front 0 44 stands (omega (arith, long)) in
    let e : number_at 4 front 48 ≡ number_at 4 file 48 = number_read file front 0 48 stands (omega (arith, long)) in
    let f : number_at 4 front 52 ≡ number_at 4 file 52 = number_read file front 0 52 stands (omega (arith, long)) in
    rw (a, b, c, d, e, f) refl

-- so are the first 32 of them
front_read : (file front : List ℕ) → StandsAt file 0 front → length front ≡ 56 → take 32 front ≡ take 32 file
front_read file front stands long =
    ap (take 32) stands.is ∙ take-take 32 (length front) (drop 0 file) (omega (arith, long))

same_tests : (a b : Bool) → (a ≡ true → b ≡ true) → (b ≡ true → a ≡ true) → a ≡ b
same_tests true true f g = refl
same_tests true false f g = sym (f refl)
same_tests false true f g = g refl
same_tests false false f g = refl

-- the checks of a superblock, by the first bytes
pub checks_read : (file front : List ℕ) → StandsAt file 0 front → length front ≡ 56 → first_failing (superblock_checks file) ≡ first_failing (front_checks front (length file))
unfolding superblock_checks front_checks
checks_read file front stands long =
    let enough : nat_le 56 (length file) ≡ true = grind (arith, nat_tests, long, stands.inside) in
    let a : number_at 4 front 32 ≡ number_at 4 file 32 = number_read file front 0 32 stands (omega (arith, long)) in
    let b : number_at 4 front 36 ≡ number_at 4 file 36 = number_read file front 0 36 stands (omega (arith, long)) in
    let c : number_at 4 front 40 ≡ number_at 4 file 40 = number_read file front 0 40 stands (omega (arith, long)) in
    let d : number_at 4 front 44 ≡ number_at 4 file 44 = number_read file front 0 44 stands (omega (arith, long)) in
    let f : number_at 4 front 52 ≡ number_at 4 file 52 = number_read file front 0 52 stands (omega (arith, long)) in
    let same = front_read file front stands long in
    let tests : starts_with nat_eq front magic ≡ starts_with nat_eq file magic = same_tests _ _
    (λ e. starts_with_magic file (sym same ∙ magic_from_starts_with front e))
    (λ e. starts_with_magic front (same ∙ magic_from_starts_with file e)) in
    rw (enough, tests, a, b, c, d, f) refl

-- the superblock in the first bytes is that of the file
pub superblock_read : (file front : List ℕ) (fields : Fields) (have : ℕ) → StandsAt file 0 front → length front ≡ 56 → have ≡ length file → take 32 front ≡ magic → fields ≡ fields_of front
    → fields.num_blocks * fields.block_size ≤ have → IsFit fields → IsSuperblock file fields
superblock_read file front fields have stands long all magical is whole fit =
    let e : fields ≡ fields_of file = is ∙ fields_read file front stands long in
    record {
      long = omega (arith, long, stands.inside);
      magical = sym (front_read file front stands long) ∙ magical;
      block_size_is = ap (λ (f : Fields). f.block_size) (sym e);
      free_map_block_is = ap (λ (f : Fields). f.free_map_block) (sym e);
      num_blocks_is = ap (λ (f : Fields). f.num_blocks) (sym e);
      directory_bytes_is = ap (λ (f : Fields). f.directory_bytes) (sym e);
      unknown_is = ap (λ (f : Fields). f.unknown) (sym e);
      block_map_addr_is = ap (λ (f : Fields). f.block_map_addr) (sym e);
      whole = omega (arith, whole, all);
      fit = fit;
    }

-- a file that is too short for a superblock
pub short_file : (file : List ℕ) → length file < 56 → first_failing (superblock_checks file) ≡ Some Short
unfolding superblock_checks
short_file file lt = let e : nat_le 56 (length file) ≡ false = grind (arith, nat_tests) in rw e refl

-- the fields of a superblock are the numbers at their offsets in the file
pub fields_are : (file : List ℕ) (fields : Fields) → IsSuperblock file fields → fields ≡ fields_of file
fields_are file fields s =
    rw (s.block_size_is, s.free_map_block_is, s.num_blocks_is, s.directory_bytes_is, s.unknown_is, s.block_map_addr_is) refl

-- the checks of a superblock hold
pub superblock_holds : (file : List ℕ) (fields : Fields) → IsSuperblock file fields → first_failing (superblock_checks file) ≡ None
unfolding superblock_checks front_checks
superblock_holds file fields s =
    let f = s.fit in
    let m : starts_with nat_eq file magic ≡ true = starts_with_magic file s.magical in
    let a : nat_le 56 (length file) ≡ true = grind (arith, nat_tests, s.long) in
    let b : is_block_size (number_at 4 file 32) ≡ true = rw s.block_size_is ((size_decides fields.block_size).1 f.block_size_fits) in
    let c : (number_at 4 file 36 == 1 || number_at 4 file 36 == 2) ≡ true = rw s.free_map_block_is (grind (arith, nat_tests, f.free_map_block_fits)) in
    let d : nat_le (number_at 4 file 40 * number_at 4 file 32) (length file) ≡ true = rw (s.num_blocks_is, s.block_size_is) (grind (arith, nat_tests, s.whole)) in
    let e : (number_at 4 file 44 % 4 == 0 && nat_le (blocks_for (number_at 4 file 32) (number_at 4 file 44)) (number_at 4 file 32 / 4)) ≡ true =
    rw (s.directory_bytes_is, s.block_size_is) (grind (arith, nat_tests, f.directory_multiple, f.directory_fits)) in
    let g : is_ordinary (number_at 4 file 40) (number_at 4 file 52) ≡ true = rw (s.num_blocks_is, s.block_map_addr_is) (grind (arith, nat_tests, f.block_map_fits.0, f.block_map_fits.1)) in
    rw (a, m, b, c, d, e, g) refl
