-- The bytes in a list of blocks, a run of consecutive blocks at a time.
use Rattle.std.proofs.Common.{◌≡◌, ℕ, ◌+◌, ◌-◌, ◌*◌, ◌/◌, ◌<◌, ◌≤◌, ◌++◌, ◌∙◌, min, List, length, get_or, take, drop, ap, sym, arith}
use Rattle.std.proofs.lemmas.List.{append_assoc, take-take}
use Rattle.std.proofs.Math.Seq.{take-append_seam}
use Rattle.std.proofs.lemmas.Nat.{mul-le, div-add-mod'}
use Rattle.msf_superblock.specs.BlockNumber.{IsBlockSize, blocks_for}
use Rattle.msf_blocks.specs.Blocks.{AreInside}
use Rattle.msf_superblock.proofs.SizeLaws.{some_bytes, ceil_ge}

-- the blocks of a list have consecutive numbers, from a position on
abbrev pub IsRun : List ℕ → ℕ → ℕ → Type 0
IsRun blocks position run = (k : ℕ) → k < run → get_or blocks (position + k) 0 ≡ get_or blocks position 0 + k

-- each block of a list begins before the last byte
pub block_begins : (b size position : ℕ) → 0 < b → position < blocks_for b size → position * b < size
block_begins b size position some lt =
    let rows = mul-le (position + 1) b (blocks_for b size) b (omega (arith, lt)) (omega arith) in
    omega (arith, rows, some, div-add-mod' (size + b - 1) b)

-- how many bytes come before a run, and in it
pub record RunFacts (b size position run : ℕ) : Type 0 where
  pub low : position * b < size
  pub short : run * b ≤ 1073741824
  pub more : min (position * b) size + min (size - position * b) (run * b) ≡ min ((position + run) * b) size

pub run_facts : (b size position run : ℕ) → IsBlockSize b → position < blocks_for b size → run ≤ 1073741824 / b → RunFacts b size position run
run_facts b size position run is lt most =
    let low : position * b < size = block_begins b size position (some_bytes b is) lt in
    let e : (position + run) * b ≡ position * b + run * b = omega arith in
    record {
      low = low;
      short = omega (arith, mul-le run b (1073741824 / b) b most (omega arith), div-add-mod' 1073741824 b);
      more = rw e (omega (arith, low));
    }

-- a run is in the file
pub run_inside : (file blocks : List ℕ) (b position run n : ℕ) → AreInside file b blocks → 0 < run → position + run ≤ length blocks → IsRun blocks position run → n ≤ run * b → get_or blocks position 0 * b + n ≤ length file
run_inside file blocks b position run n inside some fits side few =
    let last = inside (position + (run - 1)) (omega (arith, some, fits)) in
    let at = side (run - 1) (omega (arith, some)) in
    let start = get_or blocks position 0 in
    let e : (start + (run - 1) + 1) * b ≡ start * b + run * b = let f : start + (run - 1) + 1 ≡ start + run = omega (arith, some) in rw f (omega arith) in
    omega (arith, rw at at last, e, few)

-- after the last block all bytes are there
pub all_bytes : (b size position : ℕ) → IsBlockSize b → position ≡ blocks_for b size → min (position * b) size ≡ size
all_bytes b size position is end = rw end (omega (arith, ceil_ge b size (some_bytes b is)))

-- the first bytes of a buffer, where others were read over them
pub front_read : (read back items : List ℕ) (len size : ℕ) → length read ≡ size → size ≤ len → take size (take len ((read ++ back) ++ drop (length (read ++ back)) items)) ≡ read
front_read read back items len size long inside =
    let behind : List ℕ = drop (length (read ++ back)) items in
    take-take size len ((read ++ back) ++ behind) inside
    ∙ ap (take size) (append_assoc read back behind)
    ∙ ap (λ (n : ℕ). take n (read ++ (back ++ behind))) (sym long)
    ∙ take-append_seam read (back ++ behind)
