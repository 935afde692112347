use Rattle.std.proofs.Common.{◌≡◌, ◌∙◌, [], ap, rules}
use Rattle.cv_leaves.specs.Leaf.{leaf_seen, leaf_of}
use Rattle.cv_leaves.proofs.ListLaws.{record_listed, record_checked, record_accepted}
use Rattle.cv_leaves.proofs.named.list_places.Goals as goal

pub returns-in-Some-clause-checked : goal.returns-in-Some-clause-checked
returns-in-Some-clause-checked g c =
    record_checked c.args.record.now (leaf_seen c.in-Some.leaf) c.list_leaf.result c.requires.0 (c.in-Some.ensures ∙ ap leaf_of c.kind_of.ensures) c.list_leaf.ensures.held

pub returns-in-Some-clause-listed : goal.returns-in-Some-clause-listed
returns-in-Some-clause-listed g c =
    let none : c.clear.new.self.items ≡ [] = search rules in
    record_listed c.args.record.now c.clear.new.self.items c.list_leaf.new.list.items (leaf_seen c.in-Some.leaf) c.list_leaf.result (c.in-Some.ensures ∙ ap leaf_of c.kind_of.ensures) none c.list_leaf.ensures.listed

pub returns-in-Some-clause-found : goal.returns-in-Some-clause-found
returns-in-Some-clause-found g c =
    record_accepted c.args.record.now (leaf_seen c.in-Some.leaf) c.list_leaf.result (c.in-Some.ensures ∙ ap leaf_of c.kind_of.ensures) c.list_leaf.ensures.held
