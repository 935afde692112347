use Rattle.std.proofs.Common.{◌≡◌, ◌-◌, ◌^◌, ◌<◌, None}
use Rattle.byte_fields.specs.Check.{first_failing}
use Rattle.cv_leaves.specs.Checks.{checks_from, places_from}
use Rattle.cv_leaves.proofs.place.next_placed.Given as goal

abbrev pub invariant-loop-at : goal.invariant-loop-at
invariant-loop-at l = record {
  low : l.at < 2 ^ 17;
  checked : first_failing (checks_from l.rest l.body l.stop l.at) ≡ None;
  same : places_from l.rest l.body l.stop l.start ≡ places_from l.rest l.body l.stop l.at;
}

abbrev pub decreases-loop-at : goal.decreases-loop-at
decreases-loop-at l = l.stop - l.at
