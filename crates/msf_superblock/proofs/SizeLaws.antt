-- The sizes of blocks, and how many blocks hold some bytes.
use Rattle.std.proofs.Common.{◌≡◌, ℕ, ◌+◌, ◌-◌, ◌*◌, ◌/◌, ◌%◌, ◌<◌, ◌≤◌, ◌^◌, min, [], ◌∷◌, refl, ap, ◌∙◌, arith, inl, inr}
use Rattle.std.specs.Prelude.{All, Decides}
use Rattle.std.proofs.lemmas.Nat.{mul-le, div_below, le-div, div-add-mod', mod_below, div-mul-add}
use Rattle.std.proofs.lemmas.Bool.{cases_lt}
use Rattle.std.proofs.lemmas.Bool.Decides.{Decides-eqb}
use Rattle.std.proofs.lemmas.Map.Made.{is_member-Decides}
use Rattle.std.proofs.lemmas.List.Elements.{All-nil, All-cons, All-contains}
use Rattle.msf_superblock.specs.BlockNumber.{block_sizes, IsBlockSize, is_block_size, blocks_for}

-- what holds of each size that a block may have: a superblock fits in the block, and the size is a multiple of four
pub record SizeFacts (size : ℕ) : Type 0 where
  pub least : 512 ≤ size
  pub most : size ≤ 32768
  pub fours : size ≡ 4 * (size / 4)

-- the only proof that goes through the seven sizes
each_size : All SizeFacts block_sizes
each_size =
    All-cons SizeFacts 512 (1024 ∷ 2048 ∷ 4096 ∷ 8192 ∷ 16384 ∷ 32768 ∷ []) (record { least = omega arith; most = omega arith; fours = refl })
    (All-cons SizeFacts 1024 (2048 ∷ 4096 ∷ 8192 ∷ 16384 ∷ 32768 ∷ []) (record { least = omega arith; most = omega arith; fours = refl })
    (All-cons SizeFacts 2048 (4096 ∷ 8192 ∷ 16384 ∷ 32768 ∷ []) (record { least = omega arith; most = omega arith; fours = refl })
    (All-cons SizeFacts 4096 (8192 ∷ 16384 ∷ 32768 ∷ []) (record { least = omega arith; most = omega arith; fours = refl })
    (All-cons SizeFacts 8192 (16384 ∷ 32768 ∷ []) (record { least = omega arith; most = omega arith; fours = refl })
    (All-cons SizeFacts 16384 (32768 ∷ []) (record { least = omega arith; most = omega arith; fours = refl })
    (All-cons SizeFacts 32768 [] (record { least = omega arith; most = omega arith; fours = refl })
    (All-nil SizeFacts)))))))

pub size_facts : (size : ℕ) → IsBlockSize size → SizeFacts size
unfolding IsBlockSize
size_facts size is = All-contains SizeFacts block_sizes size each_size is

-- the test of a size decides whether a block may have it
pub size_decides : (size : ℕ) → Decides (is_block_size size) (IsBlockSize size)
unfolding IsBlockSize is_block_size
size_decides size = is_member-Decides Decides-eqb block_sizes size

-- a block may have 4,096 bytes
pub size_4096 : IsBlockSize 4096
unfolding is_block_size
size_4096 = (size_decides 4096).0 refl

-- every block has some bytes
pub some_bytes : (size : ℕ) → IsBlockSize size → 0 < size
some_bytes size is = omega (arith, size_facts size is)

-- every block size is more than 3, so an interval has more blocks than the two map blocks
pub big_enough : (size : ℕ) → IsBlockSize size → 3 < size
big_enough size is = omega (arith, size_facts size is)

-- ---- how many blocks some bytes need

-- one more row
pub next_row : (count size : ℕ) → count * size + size ≡ (count + 1) * size
next_row count size = omega arith

-- a quotient that is rounded up
pub ceil_is : (bytes size : ℕ) → 0 < size → bytes / size + min 1 (bytes % size) ≡ blocks_for size bytes
ceil_is bytes size some =
    let q = bytes / size in
    let r = bytes % size in
    let whole : bytes ≡ q * size + r = omega (arith, div-add-mod' bytes size) in
    let below : r < size = mod_below bytes size some in
    elim (cases_lt 0 r) [
      | inl more ↦
          let e : bytes + size - 1 ≡ (q + 1) * size + (r - 1) = omega arith in
          let up : blocks_for size bytes ≡ q + 1 = ap (λ (n : ℕ). n / size) e ∙ div-mul-add (q + 1) size (r - 1) (omega arith) in
          omega arith
      | inr none ↦
          let e : bytes + size - 1 ≡ q * size + (size - 1) = omega arith in
          let same : blocks_for size bytes ≡ q = ap (λ (n : ℕ). n / size) e ∙ div-mul-add q size (size - 1) (omega arith) in
          omega arith
    ]

-- the blocks have room for the bytes
pub ceil_ge : (size bytes : ℕ) → 0 < size → bytes ≤ blocks_for size bytes * size
ceil_ge size bytes some = let r = mod_below (bytes + size - 1) size some in omega (arith, div-add-mod' (bytes + size - 1) size, r)

-- each byte is in one of the blocks
pub place_below : (size bytes i : ℕ) → 0 < size → i < bytes → i / size < blocks_for size bytes
place_below size bytes i some lt = let h : i / size + 1 ≤ (bytes + size - 1) / size = le-div (i / size + 1) (bytes + size - 1) size some (omega (arith, div-add-mod' i size)) in omega arith

-- fewer than 2 ^ 32 bytes need at most 2 ^ 23 blocks
pub few_for : (size bytes : ℕ) → IsBlockSize size → bytes < 2 ^ 32 → blocks_for size bytes ≤ 2 ^ 23
few_for size bytes is short =
    let facts = size_facts size is in
    let below : (bytes + size - 1) / size < 2 ^ 23 + 1 = div_below (bytes + size - 1) size (2 ^ 23 + 1) (some_bytes size is) (omega (arith, facts)) in omega arith

-- if one block can list the blocks of some bytes, there are fewer than 2 ^ 32 bytes
pub listed_short : (size bytes : ℕ) → IsBlockSize size → blocks_for size bytes ≤ size / 4 → bytes < 2 ^ 32
listed_short size bytes is fits =
    let facts = size_facts size is in
    let up = ceil_ge size bytes (some_bytes size is) in
    let all = mul-le (blocks_for size bytes) size 16384 65536 (omega (arith, facts)) (omega (arith, facts)) in
    omega (arith, up, all)
