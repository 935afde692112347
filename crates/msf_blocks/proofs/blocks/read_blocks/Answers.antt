use Rattle.std.proofs.Common.{◌≤◌, arith}
use Rattle.msf_blocks.proofs.BlocksLaws.{front_read}
use Rattle.msf_blocks.proofs.KnownLaws.{all_blocks_known}
use Rattle.msf_blocks.proofs.blocks.read_blocks.Goals as goal

pub returns-in-Some-clause-value : goal.returns-in-Some-clause-value
returns-in-Some-clause-value g c =
    let read = c.read_runs.new.buffer in
    let buffer = c.make_room.new.buffer in
    let r = c.requires in
    let room : c.args.size ≤ buffer.len = grind arith in
    rw (front_read read c.split_at_mut-front.result.1.now buffer.items buffer.len c.args.size c.read_runs.ensures.same room)
    (all_blocks_known (g.R.ReadAt.bytes c.args.input.now) c.args.block_size c.args.blocks.now read c.args.size r.size r.inside r.count c.read_runs.ensures.same c.in-Some.ensures.given)

pub returns-in-Some-clause-given : goal.returns-in-Some-clause-given
returns-in-Some-clause-given g c =
    let buffer = c.make_room.new.buffer in
    let room : c.args.size ≤ buffer.len = grind arith in
    rw (front_read c.read_runs.new.buffer c.split_at_mut-front.result.1.now buffer.items buffer.len c.args.size c.read_runs.ensures.same room) c.in-Some.ensures.given
