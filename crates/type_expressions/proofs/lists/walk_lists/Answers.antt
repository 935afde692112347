use Rattle.std.proofs.Common.{◌-◌, ◌+◌, arith}
use Rattle.std.specs.Prelude.{None}
use Rattle.type_expressions.proofs.LinesLaws.{none_left}
use Rattle.type_expressions.proofs.SpanLaws.{walk_starts, walk_goes, walk_ends}
use Rattle.type_expressions.proofs.lists.walk_lists.Goals as goal

pub loop-init : goal.loop-init
loop-init g c = record {
  so_far = walk_starts c.args.types.now c.args.to (c.lists_from-end.result - 0) c.args.text.now.items c.args.spans.now c.args.walk.now.items c.requires.there.0 c.requires.there.1
      (λ t large stands. omega (arith, c.lists_from-end.ensures t large stands)) c.requires.spans c.requires.none;
}

pub loop-preserved : goal.loop-preserved
loop-preserved g c =
    let deep = c.lists_from-end.result - c.loop.counter in
    let so_far = rw c.in-Some.is at c.loop.invariant.so_far in
    record {
      so_far = walk_goes c.args.types.now c.args.to deep (c.lists_from-end.result - (c.loop.counter + 1)) c.in-Some.list c.in_ok-next.next c.args.text.now.items c.loop.text.items c.push_next.new.text.items c.args.spans.now
          c.loop.walk.items c.push_next.new.walk.items (omega arith) so_far (c.in_ok-next.ensures deep so_far.left so_far.goes);
    }

pub returns-in_default-clause-value : goal.returns-in_default-clause-value
returns-in_default-clause-value g c =
    let so_far = rw c.in_default.is at c.loop.invariant.so_far in
    (walk_ends c.args.types.now c.args.to (c.lists_from-end.result - c.loop.counter) None c.args.text.now.items c.loop.text.items c.args.spans.now c.loop.walk.items so_far so_far.goes).0

pub returns-in_default-clause-begun : goal.returns-in_default-clause-begun
returns-in_default-clause-begun g c =
    let so_far = rw c.in_default.is at c.loop.invariant.so_far in
    (walk_ends c.args.types.now c.args.to (c.lists_from-end.result - c.loop.counter) None c.args.text.now.items c.loop.text.items c.args.spans.now c.loop.walk.items so_far so_far.goes).1

pub returns-clause-value : goal.returns-clause-value
returns-clause-value g c =
    let deep = c.lists_from-end.result - c.loop.counter in
    let so_far = c.loop.invariant.so_far in
    let none = none_left c.args.types.now deep c.loop.next so_far.left (omega (arith, c.loop-test.false)) so_far.goes in
    (walk_ends c.args.types.now c.args.to deep c.loop.next c.args.text.now.items c.loop.text.items c.args.spans.now c.loop.walk.items so_far none).0

pub returns-clause-begun : goal.returns-clause-begun
returns-clause-begun g c =
    let deep = c.lists_from-end.result - c.loop.counter in
    let so_far = c.loop.invariant.so_far in
    let none = none_left c.args.types.now deep c.loop.next so_far.left (omega (arith, c.loop-test.false)) so_far.goes in
    (walk_ends c.args.types.now c.args.to deep c.loop.next c.args.text.now.items c.loop.text.items c.args.spans.now c.loop.walk.items so_far none).1
