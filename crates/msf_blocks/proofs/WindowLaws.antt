-- The numbers that a window shows are those of the directory.
use Rattle.std.proofs.Common.{◌≡◌, ℕ, ◌+◌, ◌-◌, ◌*◌, ◌/◌, ◌%◌, ◌<◌, ◌≤◌, ◌^◌, List, ◌++◌, length, take, drop, get_or, min, ap, ◌∙◌, arith}
use Rattle.std.proofs.lemmas.List.{get_or-take, get_or-drop}
use Rattle.std.proofs.Math.Seq.{take-append_seam}
use Rattle.std.proofs.lemmas.Nat.{mod_below, mul-le, div-add-mod', div-mul-add, mod-mul-add}
use Rattle.byte_fields.specs.Number.{four_bytes}
use Rattle.byte_fields.proofs.NumberLaws.{length-four_bytes}
use Rattle.byte_io.specs.At.{Bytes, AreGiven}
use Rattle.msf_superblock.specs.BlockNumber.{IsBlockSize}
use Rattle.msf_blocks.specs.Directory.{IsDirectoryNumber, IsNumberGiven, IsReadable, map_number, map_start}
use Rattle.msf_superblock.specs.Superblock.{Fields}
use Rattle.msf_blocks.specs.Window.{IsPart, IsWindow, Shows, shown}
use Rattle.msf_blocks.specs.declared.window.Window.{Window}
use Rattle.msf_blocks.proofs.DirectoryLaws.{lies_in_block, map_is_ordinary}
use Rattle.msf_blocks.proofs.ReadNumberLaws.{number_in_block}
use Rattle.msf_superblock.proofs.SizeLaws.{some_bytes, place_below}

-- a byte that is `d` behind another, and in its block
pub record InSameBlock (b s d : ℕ) : Type 0 where
  pub block : (s + d) / b ≡ s / b
  pub within : (s + d) % b ≡ s % b + d

in_same_block : (b s d : ℕ) → s % b + d < b → InSameBlock b s d
in_same_block b s d lt =
    let e : s + d ≡ s / b * b + (s % b + d) = omega (arith, div-add-mod' s b) in
    record {
      block = rw e (div-mul-add (s / b) b (s % b + d) lt);
      within = rw e (mod-mul-add (s / b) b (s % b + d) lt);
    }

-- a number in a part of the directory
pub record LiesIn (first position : ℕ) (part : List ℕ) : Type 0 where
  pub from : first ≤ position
  pub upto : 4 * (position + 1) ≤ 4 * first + length part

-- its bytes were given as those of the directory
pub part_number : (bytes : Bytes) (fields : Fields) (first position n : ℕ) (part : List ℕ) → IsPart bytes fields (4 * first) part → LiesIn first position part
    → 4 * position + 4 ≤ fields.directory_bytes → n < 2 ^ 32 → four_bytes n ≡ take 4 (drop (4 * (position - first)) part) → IsDirectoryNumber bytes fields position n
part_number bytes fields first position n part is lies room short spelled =
    let b = fields.block_size in
    let s = 4 * first in
    let d = 4 * (position - first) in
    let at : 4 * position ≡ s + d = omega (arith, lies.from) in
    let same = in_same_block b s d (omega (arith, is.inside, lies.upto, at)) in
    let listed : IsNumberGiven bytes (map_start fields + 4 * (4 * position / b)) is.block = rw (at, same.block) is.listed in
    let given : AreGiven bytes (is.block * b + 4 * position % b) (four_bytes n) = λ i lt.
    let four : i < 4 = omega (arith, lt, length-four_bytes n) in
    let here : is.block * b + 4 * position % b + i ≡ is.block * b + s % b + (d + i) = rw (at, same.within) (omega arith) in
    let byte : get_or (four_bytes n) i 0 ≡ get_or part (d + i) 0 = ap (λ (xs : List ℕ). get_or xs i 0) spelled ∙ get_or-take 4 (drop d part) i 0 four ∙ get_or-drop d part i 0 in
    rw (here, byte) (is.given (d + i) (omega (arith, four, lies.upto, at))) in
    number_in_block bytes fields position is.block n is.size room short listed given

-- a part of a block of the directory is in the file
pub part_fits : (file : List ℕ) (fields : Fields) (start count : ℕ) → IsBlockSize fields.block_size → IsReadable file fields → start < fields.directory_bytes → start % fields.block_size + count ≤ fields.block_size
    → map_number file fields (start / fields.block_size) * fields.block_size + start % fields.block_size + count ≤ length file
part_fits file fields start count size readable inside room =
    let b = fields.block_size in
    let below = place_below b fields.directory_bytes start (some_bytes b size) inside in
    let ordinary = map_is_ordinary file fields (start / b) readable below in
    let rows : (map_number file fields (start / b) + 1) * b ≤ fields.num_blocks * b = mul-le _ _ _ _ (omega (arith, ordinary.1)) (omega arith) in
    omega (arith, room, rows, readable.whole)

-- a number ends in the block in which it begins
pub number_ends : (b position : ℕ) → IsBlockSize b → 4 * position % b + 4 ≤ b
number_ends b position size = (lies_in_block b (4 * position + 4) position size (omega arith)).inside

-- a number that a window shows lies in what it shows
pub window_lies : (window : Window) (position : ℕ) → length (shown window) ≡ 4 * window.count → Shows window position → LiesIn window.first position (shown window)
window_lies window position whole shows = record { from = shows.from; upto = omega (arith, shows.upto, whole) }

-- how many numbers are read at once: some, as many as the block has and the window takes
pub record IsCount (b within count : ℕ) : Type 0 where
  pub some : 0 < count
  pub few : count ≤ 510
  pub inside : within + 4 * count ≤ b

pub count_is : (b within count : ℕ) → within + 4 ≤ b → count ≡ min ((b - within) / 4) 510 → IsCount b within count
count_is b within count room is =
    let whole : (b - within) / 4 * 4 + (b - within) % 4 ≡ b - within = div-add-mod' (b - within) 4 in
    let rest : (b - within) % 4 < 4 = mod_below (b - within) 4 (omega arith) in
    record {
      some = omega (arith, is, whole, rest, room);
      few = omega (arith, is);
      inside = omega (arith, is, whole, room);
    }

-- a window that shows what was read into its front
pub window_opened : (bytes : Bytes) (fields : Fields) (first count : ℕ) (part rest : List ℕ) → length part ≡ 4 * count → count ≤ 510 → IsPart bytes fields (4 * first) part → IsWindow bytes fields record { first = first; count = count; bytes = part ++ rest }
window_opened bytes fields first count part rest whole few is =
    let same : take (4 * count) (part ++ rest) ≡ part = rw (← whole) (take-append_seam part rest) in
    record { short = few; part = λ some. rw same is }
