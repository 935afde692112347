use Rattle.std.proofs.Common.{take, get_or, arith}
use Rattle.std.proofs.lemmas.List.{take_more, take_all, length-take-le}
use Rattle.topological_order.specs.declared.walk.Mark.TheVariants.{New}
use Rattle.topological_order.proofs.WalkLaws.{caught_more, caught_other}
use Rattle.topological_order.proofs.order.caught_nodes.Goals as goal
use Rattle.topological_order.proofs.order.caught_nodes.Goals.{in-Met+in_ok-push, in_default}

pub loop-mark-preserved : goal.loop-mark-preserved
loop-mark-preserved g c =
    let k = c.loop-mark.mark-index in
    let so_far = c.loop-mark.invariant in
    let m = get_or c.args.marks.now k New in
    let front = take k c.args.marks.now in
    let more = take_more c.args.marks.now k New c.loop-mark-test.true in
    let many = length-take-le k c.args.marks.now (omega (arith, c.loop-mark-test.true)) in
    record {
      caught = elim c.match-mark.branch [
        | in-Met+in_ok-push w ↦ rw (w.nodes-is, w.in_ok-push.ensures.items, more) (caught_more front c.loop-mark.nodes.items m c.loop-mark.node so_far.caught w.in-Met.is (omega (arith, so_far.node, many)))
        | in_default w ↦ rw (w.nodes-is, more) (caught_other front c.loop-mark.nodes.items m so_far.caught w.in_default.not-Met)
      ];
      node = omega (arith, so_far.node);
    }

pub returns : goal.returns
returns g c = let h = c.loop-mark.invariant.caught in let t = c.loop-mark-test.false in rw (take_all c.loop-mark.mark-index c.args.marks.now t) at h
