-- Records within the limit of the settings fit in a file.
use Rattle.std.proofs.Common.{◌≡◌, ℕ, ◌+◌, ◌-◌, ◌*◌, ◌/◌, ◌≤◌, [], ◌∷◌, refl, arith}
use Rattle.std.specs.List.{sum_by}
use Rattle.std.proofs.lemmas.List.Sums.{sum_by-cons}
use Rattle.std.proofs.lemmas.Nat.{mul-le}
use Rattle.std.proofs.Math.Nat.{div-mul-le_self}
use Rattle.msf_superblock.specs.BlockNumber.{IsBlockSize, blocks_for}
use Rattle.msf_superblock.proofs.SizeLaws.{size_facts, some_bytes}
use Rattle.msf_streams.specs.Image.{Fits, blocks_of_all}
use Rattle.msf_streams.proofs.FitLaws.{few_hold, few_blocks_fit}
use Rattle.pdb_info.specs.Settings.{SettingsView, AreSettings, RecordsFit, room_for_records}

-- how many blocks the streams take together
total_is : (b bytes : ℕ) → blocks_of_all b (0 ∷ 52 ∷ (56 + bytes) ∷ 0 ∷ 0 ∷ []) ≡ blocks_for b 0 + blocks_for b 52 + blocks_for b (56 + bytes) + blocks_for b 0 + blocks_for b 0
total_is b bytes =
    let f : ℕ → ℕ = blocks_for b in
    let none : sum_by f [] ≡ 0 = refl in
    omega (arith, sum_by-cons f 0 (52 ∷ (56 + bytes) ∷ 0 ∷ 0 ∷ []), sum_by-cons f 52 ((56 + bytes) ∷ 0 ∷ 0 ∷ []), sum_by-cons f (56 + bytes) (0 ∷ 0 ∷ []), sum_by-cons f 0 (0 ∷ []), sum_by-cons f 0 [], none)

-- a directory can have at least 16,384 numbers, and the header of the records fits
pub some_room : (b : ℕ) → IsBlockSize b → (16384 ≤ b * b / 16) × (56 ≤ (b * b / 16 - 7) * b)
some_room b size =
    let facts = size_facts b size in
    let square : 512 * 512 ≤ b * b = mul-le 512 512 b b facts.least facts.least in
    let rows : 1 * b ≤ (b * b / 16 - 7) * b = mul-le 1 b (b * b / 16 - 7) b (omega (arith, square)) (omega arith) in
    (omega (arith, square), omega (arith, rows, facts.least))

pub room_fits : (b bytes : ℕ) → IsBlockSize b → bytes ≤ 1073741824 → bytes ≤ room_for_records b → Fits b (0 ∷ 52 ∷ (56 + bytes) ∷ 0 ∷ 0 ∷ [])
room_fits b bytes size small few =
    let facts = size_facts b size in
    let some = some_bytes b size in
    let room = some_room b size in
    let q = b * b / 16 - 7 in
    let n = blocks_for b (56 + bytes) in
    let none : blocks_for b 0 ≤ 0 = few_hold b 0 0 some (omega arith) in
    let one : blocks_for b 52 ≤ 1 = few_hold b 52 1 some (omega (arith, facts.least)) in
    let most : n ≤ q = few_hold b (56 + bytes) q some (omega (arith, few, room.1)) in
    let sizes = 0 ∷ 52 ∷ (56 + bytes) ∷ 0 ∷ 0 ∷ [] in
    let total : blocks_of_all b sizes ≤ 1 + n = omega (arith, total_is b bytes, none, one) in
    let rows : n * b ≤ 56 + bytes + b - 1 = div-mul-le_self (56 + bytes + b - 1) b in
    let all : blocks_of_all b sizes * b ≤ (1 + n) * b = mul-le (blocks_of_all b sizes) b (1 + n) b total (omega arith) in
    few_blocks_fit b sizes size refl (omega (arith, total, most, room.0)) (omega (arith, all, rows, small, facts.most))

pub records_fit : (settings : SettingsView) → AreSettings settings → RecordsFit settings
records_fit settings are bytes few = room_fits settings.block_size bytes are.size_fits (omega (arith, few, are.limit_fits)) (omega (arith, few))
