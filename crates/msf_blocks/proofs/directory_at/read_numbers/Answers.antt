use Rattle.std.proofs.Common.{inl}
use Rattle.msf_blocks.proofs.GivenLaws.{map_given_refuses}
use Rattle.msf_blocks.proofs.directory_at.read_numbers.Goals as goal

pub returns-in-Err-check_numbers-clause-refused : goal.returns-in-Err-check_numbers-clause-refused
returns-in-Err-check_numbers-clause-refused g c =
    inl (map_given_refuses (g.R.ReadAt.bytes c.args.input.now) c.args.superblock.now c.in-Ok.numbers.items _ c.in-Ok.ensures.given c.in-Ok.ensures.len (rw c.deref.ensures.value at c.in-Err-check_numbers.ensures))
