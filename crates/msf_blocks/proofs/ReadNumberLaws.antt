-- Numbers of the directory that reads gave, one at a time.
use Rattle.std.proofs.Common.{◌≡◌, ℕ, suc, ◌+◌, ◌-◌, ◌*◌, ◌/◌, ◌%◌, ◌<◌, ◌≤◌, ◌^◌, List, [], ◌∷◌, ◌++◌, length, get_or, ap, ◌∙◌, arith, inl, inr}
use Rattle.std.proofs.lemmas.Bool.{cases_lt}
use Rattle.std.proofs.lemmas.List.{length-append, get_or_append_left, get_or-append-add}
use Rattle.byte_fields.specs.Number.{four_bytes, u32s}
use Rattle.byte_fields.proofs.NumberLaws.{length-four_bytes}
use Rattle.byte_io.specs.At.{Bytes, AreGiven}
use Rattle.msf_superblock.specs.BlockNumber.{IsBlockSize}
use Rattle.msf_superblock.specs.Superblock.{Fields}
use Rattle.msf_blocks.specs.Directory.{AreDirectoryBytes, AreDirectoryNumbers, IsDirectoryNumber, IsNumberGiven, map_start}
use Rattle.msf_blocks.proofs.DirectoryLaws.{lies_in_block}

-- a number that was read in a block of the directory is one of the directory
pub number_in_block : (bytes : Bytes) (fields : Fields) (position block n : ℕ) → IsBlockSize fields.block_size → 4 * position + 4 ≤ fields.directory_bytes → n < 2 ^ 32
    → IsNumberGiven bytes (map_start fields + 4 * (4 * position / fields.block_size)) block → AreGiven bytes (block * fields.block_size + 4 * position % fields.block_size) (four_bytes n)
    → IsDirectoryNumber bytes fields position n
number_in_block bytes fields position block n size room short listed given =
    let b = fields.block_size in
    record {
      short = short;
      given = λ i lt.
          let p = (lies_in_block b fields.directory_bytes position size room).same_block i (omega (arith, lt, length-four_bytes n)) in
          let at : block * b + (4 * position + i) % b ≡ block * b + 4 * position % b + i = omega (arith, p.1) in
          (block, rw p.0 listed, rw at (given i lt));
    }

-- ---- several numbers

-- an item behind the first list
behind : (front back : List ℕ) (k : ℕ) → length front ≤ k → get_or (front ++ back) k 0 ≡ get_or back (k - length front) 0
behind front back k le =
    let at : k ≡ length front + (k - length front) = omega (arith, le) in
    ap (λ (i : ℕ). get_or (front ++ back) i 0) at ∙ get_or-append-add front back (k - length front) 0

-- no numbers
pub none_given : (bytes : Bytes) (fields : Fields) (from : ℕ) → AreDirectoryNumbers bytes fields from []
none_given bytes fields from = λ k lt. absurd (omega (arith, lt))

-- numbers, and those after them
pub more_given : (bytes : Bytes) (fields : Fields) (from : ℕ) (front back : List ℕ) → AreDirectoryNumbers bytes fields from front → AreDirectoryNumbers bytes fields (from + length front) back → AreDirectoryNumbers bytes fields from (front ++ back)
more_given bytes fields from front back first later = λ k lt. elim (cases_lt k (length front)) [
  | inl below ↦ rw (get_or_append_left front back 0 k below) (first k below)
  | inr le ↦
      let at : from + length front + (k - length front) ≡ from + k = omega (arith, le) in
      rw (behind front back k le) (rw at at (later (k - length front) (omega (arith, le, lt, length-append front back))))
]

-- a single number
pub one_given : (bytes : Bytes) (fields : Fields) (from n : ℕ) → IsDirectoryNumber bytes fields from n → AreDirectoryNumbers bytes fields from (n ∷ [])
one_given bytes fields from n h = λ k lt.
    let first : k ≡ 0 = omega (arith, lt) in
    let at : from + 0 ≡ from = omega arith in
    rw first (rw at h)

-- the text of numbers that were given
pub text_given : (bytes : Bytes) (fields : Fields) (from : ℕ) (numbers : List ℕ) → AreDirectoryNumbers bytes fields from numbers → AreDirectoryBytes bytes fields (4 * from) (u32s numbers)
text_given bytes fields from [] given = λ i lt. absurd (omega (arith, lt))
text_given bytes fields from (n ∷ numbers) given = λ i lt.
    let four = length-four_bytes n in
    let here : from + 0 ≡ from = omega arith in
    let this : IsDirectoryNumber bytes fields from n = rw here at (given 0 (omega arith)) in
    let others = text_given bytes fields (from + 1) numbers (λ k below.
    let next : from + suc k ≡ from + 1 + k = omega arith in
    rw next at (given (suc k) (omega (arith, below)))) in
    elim (cases_lt i 4) [
      | inl first ↦
          let inside : i < length (four_bytes n) = omega (arith, four, first) in
          rw (get_or_append_left (four_bytes n) (u32s numbers) 0 i inside) (this.given i inside)
      | inr later ↦
          let at : 4 * (from + 1) + (i - length (four_bytes n)) ≡ 4 * from + i = omega (arith, four, later) in
          rw (behind (four_bytes n) (u32s numbers) i (omega (arith, four, later))) (rw at at (others (i - length (four_bytes n)) (omega (arith, four, later, lt, length-append (four_bytes n) (u32s numbers)))))
    ]
