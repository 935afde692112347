use Rattle.std.proofs.Common.{◌∙◌, ap}
use Rattle.cv_leaves.specs.Leaf.{leaf_seen, leaf_of}
use Rattle.cv_leaves.proofs.RecordLaws.{checks_of_leaf}
use Rattle.cv_leaves.proofs.checks.check_record.Goals as goal

pub returns-in-Some : goal.returns-in-Some
returns-in-Some c =
    let is = checks_of_leaf c.args.record.now (leaf_seen c.in-Some.leaf) (c.in-Some.ensures ∙ ap leaf_of c.kind_of-kind.ensures) in
    rw (is, ← c.body_of.ensures.bytes) c.check_leaf.ensures
