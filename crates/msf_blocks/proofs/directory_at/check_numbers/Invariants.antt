use Rattle.std.proofs.Common.{◌≡◌, None}
use Rattle.byte_fields.specs.Check.{first_failing, checks_below}
use Rattle.msf_blocks.specs.Directory.{number_check}
use Rattle.msf_blocks.proofs.directory_at.check_numbers.Given as goal

abbrev pub invariant-loop-at : goal.invariant-loop-at
invariant-loop-at l = first_failing (checks_below l.at (number_check l.numbers l.superblock)) ≡ None
