use Rattle.std.proofs.Common.{◌-◌, ◌≡◌, ◌<◌, ◌^◌, ◌++◌}
use Rattle.byte_fields.specs.Check.{first_failing}
use Rattle.cv_leaves.specs.Checks.{body_of, checks_from, places_from}
use Rattle.cv_leaves.specs.Named.{named_among}
use Rattle.cv_leaves.specs.declared.leaf.Rest.TheVariants.{Indices}
use Rattle.cv_leaves.proofs.named.list_indices.Given as goal

abbrev pub invariant-loop-at : goal.invariant-loop-at
invariant-loop-at g l = record {
  low : l.at < 2 ^ 17;
  held : first_failing (checks_from Indices (body_of l.record) l.stop l.start) ≡ first_failing (checks_from Indices (body_of l.record) l.stop l.at);
  so_far : l.list.items ++ named_among l.record (places_from Indices (body_of l.record) l.stop l.at) ≡ l.initial.list.items ++ named_among l.record (places_from Indices (body_of l.record) l.stop l.start);
}

abbrev pub decreases-loop-at : goal.decreases-loop-at
decreases-loop-at g l = l.stop - l.at
