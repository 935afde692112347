use Rattle.std.proofs.Common.{rules}
use Rattle.cv_leaves.specs.Leaf.{leaf_seen}
use Rattle.cv_leaves.specs.Checks.{body_of}
use Rattle.cv_leaves.proofs.ListLaws.{leaf_listed}
use Rattle.cv_leaves.proofs.named.list_leaf.Goals as goal

pub returns-clause-listed : goal.returns-clause-listed
returns-clause-listed g c =
    let r = c.args.record.now in
    leaf_listed r c.args.list.now.items c.list_fixed.new.list.items c.list_rest.new.list.items (leaf_seen c.args.leaf) (body_of r) c.list_rest.result
    (c.in_ok-list_fixed.ensures.listed (search rules)) c.list_rest.ensures.listed
