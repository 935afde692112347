use Rattle.std.proofs.Common.{arith, ◌*◌, ◌-◌, ◌/◌, ◌≤◌}
use Rattle.std.proofs.lemmas.Nat.{mul-le}
use Rattle.msf_superblock.proofs.SizeLaws.{size_facts}
use Rattle.pdb_info.proofs.SettingsLaws.{some_room}
use Rattle.pdb_info.proofs.settings.room_for_records.Goals as goal

pub overflow_sub-result : goal.overflow_sub-result
overflow_sub-result c = rw c.from-size.ensures (omega (arith, (some_room c.bytes.result c.bytes.ensures.fits).0))

pub overflow_mul-result-2 : goal.overflow_mul-result-2
overflow_mul-result-2 c =
    let b = c.bytes.result in
    let most = (size_facts b c.bytes.ensures.fits).most in
    let square : b * b ≤ 32768 * 32768 = mul-le b b 32768 32768 most most in
    let all : (b * b / 16 - 7) * b ≤ 67108864 * 32768 = mul-le (b * b / 16 - 7) b 67108864 32768 (omega (arith, square)) most in
    rw c.from-size.ensures (omega (arith, all))

pub overflow_sub-result-2 : goal.overflow_sub-result-2
overflow_sub-result-2 c = rw c.from-size.ensures (some_room c.bytes.result c.bytes.ensures.fits).1
