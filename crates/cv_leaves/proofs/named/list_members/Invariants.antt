use Rattle.std.proofs.Common.{◌-◌, ◌≡◌, ◌<◌, ◌^◌, ◌++◌, length}
use Rattle.byte_fields.specs.Check.{first_failing}
use Rattle.cv_leaves.specs.Checks.{checks_from, places_from}
use Rattle.cv_leaves.specs.Named.{named_among}
use Rattle.cv_leaves.specs.declared.leaf.Rest.TheVariants.{Members}
use Rattle.cv_leaves.proofs.named.list_members.Given as goal

abbrev pub invariant-loop-at : goal.invariant-loop-at
invariant-loop-at g l = record {
  low : l.at < 2 ^ 17;
  held : first_failing (checks_from Members l.body (length l.body) 0) ≡ first_failing (checks_from Members l.body (length l.body) l.at);
  so_far : l.list.items ++ named_among l.record (places_from Members l.body (length l.body) l.at) ≡ l.initial.list.items ++ named_among l.record (places_from Members l.body (length l.body) 0);
}

abbrev pub decreases-loop-at : goal.decreases-loop-at
decreases-loop-at g l = length l.body - l.at
