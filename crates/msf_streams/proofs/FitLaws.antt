-- Which streams fit in a file.
use Rattle.std.proofs.Common.{◌≡◌, ℕ, ◌+◌, ◌-◌, ◌*◌, ◌/◌, ◌<◌, ◌≤◌, refl, ap, ◌∙◌, arith}
use Rattle.std.proofs.lemmas.Nat.{mul-le, div_below}
use Rattle.msf_superblock.specs.BlockNumber.{IsBlockSize, blocks_for, nth_block}
use Rattle.msf_superblock.proofs.SizeLaws.{size_facts, some_bytes, big_enough}
use Rattle.msf_superblock.proofs.BlockLaws.{nth_few}
use Rattle.msf_streams.specs.Image.{blocks_of_all, directory_len, directory_count, data_count}
use Rattle.msf_streams.specs.Laws.{FewBlocksFit}

-- bytes that are no longer than q blocks need at most q blocks
pub few_hold : (b bytes q : ℕ) → 0 < b → bytes ≤ q * b → blocks_for b bytes ≤ q
few_hold b bytes q some few =
    let below : (bytes + b - 1) / b < q + 1 = div_below (bytes + b - 1) b (q + 1) some (omega (arith, few)) in
    omega (arith, below)

-- one block can list the blocks of a directory of few numbers
one_block : (b total : ℕ) → IsBlockSize b → 16 * (6 + total) ≤ b * b → blocks_for b (4 * (6 + total)) ≤ b / 4
one_block b total size few =
    let c = b / 4 in
    let four : b ≡ 4 * c = (size_facts b size).fours in
    let square : b * b ≡ 4 * (c * b) = ap (λ (n : ℕ). n * b) four ∙ omega arith in
    few_hold b (4 * (6 + total)) c (some_bytes b size) (omega (arith, few, square))

-- the length of the file is a number of four bytes
short_enough : (b directory total last : ℕ) → IsBlockSize b → directory ≤ b / 4 → total * b ≤ 1073872896 → last ≤ 3 * (1 + directory + total) → (last + 1) * b < 4294967296
short_enough b directory total last size few small near =
    let facts = size_facts b size in
    let front : directory * b ≤ 8192 * 32768 = mul-le directory b 8192 32768 (omega (arith, few, facts.most)) facts.most in
    let all : (last + 1) * b ≤ (3 * (1 + directory + total) + 1) * b = mul-le (last + 1) b (3 * (1 + directory + total) + 1) b (omega (arith, near)) (omega arith) in
    omega (arith, front, all, small, facts.most)

-- five streams that take few blocks fit
pub few_blocks_fit : FewBlocksFit
few_blocks_fit b sizes size five few small =
    let total = blocks_of_all b sizes in
    let len : directory_len b sizes ≡ 4 * (6 + total) = rw five refl in
    let count : directory_count b sizes ≡ blocks_for b (4 * (6 + total)) = ap (blocks_for b) len in
    let directory : directory_count b sizes ≤ b / 4 = rw count (one_block b total size few) in
    let last = nth_few b (data_count b sizes - 1) (big_enough b size) in
    record {
      directory = directory;
      short = short_enough b (directory_count b sizes) total (nth_block b (data_count b sizes - 1)) size directory small (omega (arith, last));
    }
