use Rattle.std.proofs.Common.{◌≡◌, ◌-◌, ◌*◌, arith, rules}
use Rattle.pdb_info.proofs.EndLaws.{end_inside, ending_more, ending_ends}
use Rattle.pdb_info.proofs.name_ends.ends_of.Goals as goal

pub overflow_cast-end : goal.overflow_cast-end
overflow_cast-end g c =
    let parts = c.loop-parts.parts - 1 in
    let so_far = c.loop-parts.invariant in
    omega (arith, c.end_from-end.ensures, end_inside c.args.buffer.now (64 * parts) (omega (arith, so_far.low, so_far.inside, c.loop-parts-test.true)), c.requires.few)

pub index_mut-requires : goal.index_mut-requires
index_mut-requires g c =
    let so_far = c.loop-parts.invariant in
    let inside = so_far.all (c.loop-parts.parts - 1) (omega (arith, so_far.low, so_far.inside, c.loop-parts-test.true)) in
    search (rules, inside)

pub loop-parts-preserved : goal.loop-parts-preserved
loop-parts-preserved g c =
    ending_more c.args.buffer.now c.loop-parts.ends.items (c.loop-parts.parts - 1) c.loop-parts.parts c.loop-parts.stop c.loop-parts.end c.end_from-end.result c.loop-parts.invariant (omega (arith, c.loop-parts-test.true)) c.end_from-end.ensures

pub returns : goal.returns
returns g c =
    let none : c.loop-parts.parts ≡ 0 = omega (arith, c.loop-parts-test.false) in
    ending_ends c.args.buffer.now c.loop-parts.ends.items c.loop-parts.stop c.loop-parts.end (rw none at c.loop-parts.invariant)
