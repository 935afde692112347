use Rattle.std.proofs.Common.{◌≡◌, ◌-◌, ◌≤◌, length, take}
use Rattle.text_set.proofs.TextKeyLaws.{AreOthers}
use Rattle.text_set.proofs.find.find_or_key.Given as goal

abbrev pub invariant-loop-position : goal.invariant-loop-position
invariant-loop-position g l = record {
  few : l.clashes ≤ length l.initial.keys.keys;
  same : l.keys.keys ≡ l.initial.keys.keys;
  others : AreOthers (take (length l.initial.keys.keys) l.texts) l.text l.initial.keys.keys l.hash l.clashes;
}

abbrev pub decreases-loop-position : goal.decreases-loop-position
decreases-loop-position g l = length l.initial.keys.keys - l.clashes
