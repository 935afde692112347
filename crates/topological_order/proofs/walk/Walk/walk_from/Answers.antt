use Rattle.std.proofs.Common.{◌≡◌, ◌∙◌}
use Rattle.topological_order.specs.Walk.{mark_at}
use Rattle.topological_order.specs.declared.walk.Mark.TheVariants.{New}
use Rattle.topological_order.proofs.WalkLaws.{mark_read, walk_from_root}
use Rattle.topological_order.proofs.walk.Walk.walk_from.Goals as goal

pub follow-requires-clause-walk : goal.follow-requires-clause-walk
follow-requires-clause-walk g c =
    let s = c.args.self.now in
    let ok = c.in_ok-meet.ensures in
    let new : mark_at s.marks.items c.args.root ≡ New = mark_read s.marks.items c.args.root c.index.result.now c.requires.inside c.index.ensures ∙ c.in-New.is in
    rw (ok.passed, ok.marks, ok.path, ok.order, c.requires.path) (walk_from_root c.args.graph.now s.passed.items s.marks.items s.order.items c.args.root c.requires.walk new c.requires.inside)
