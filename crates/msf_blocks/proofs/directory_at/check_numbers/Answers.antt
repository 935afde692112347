use Rattle.std.proofs.Common.{arith, refl, get_or}
use Rattle.byte_fields.proofs.CheckLaws.{checks_below-more, checks_below-stop, check_fails, check_holds}
use Rattle.msf_superblock.specs.BlockNumber.{is_ordinary}
use Rattle.msf_blocks.specs.Directory.{number_checks, number_check, directory_blocks}
use Rattle.msf_superblock.specs.declared.fault.MsfFault.TheVariants.{DirectoryBlock}
use Rattle.msf_blocks.proofs.directory_at.check_numbers.Goals as goal

pub returns-then-not-is_ordinary : goal.returns-then-not-is_ordinary
unfolding number_checks
returns-then-not-is_ordinary c =
    let numbers = c.args.numbers.now in
    let fields = c.args.superblock.now in
    let at = c.loop-at.at in
    checks_below-stop (number_check numbers fields) at (directory_blocks fields) (DirectoryBlock at (get_or numbers at 0)) c.loop-at.invariant
    (check_fails (is_ordinary fields.num_blocks (get_or numbers at 0)) _ _ (grind arith) refl)
    (grind arith)

pub loop-at-preserved : goal.loop-at-preserved
loop-at-preserved c =
    let numbers = c.args.numbers.now in
    let fields = c.args.superblock.now in
    let at = c.loop-at.at in
    checks_below-more (number_check numbers fields) at c.loop-at.invariant
    (check_holds (is_ordinary fields.num_blocks (get_or numbers at 0)) _ (grind arith))
