use Rattle.std.proofs.Common.{◌≡◌, ◌<◌, ◌≤◌, ℕ, List, take, drop, length, get_or}
use Rattle.type_difference.specs.Marks.{AreMarks, MarkTypesOf}
use Rattle.type_difference.specs.Difference.{HasStanding}
use Rattle.type_difference.specs.declared.standing.Standing.TheVariants.{Shared}
use Rattle.type_difference.proofs.difference.standings.Given as goal

abbrev pub invariant-loop-bytes : goal.invariant-loop-bytes
invariant-loop-bytes g l = record {
  left : l.bytes-iterator ≡ drop l.position l.types;
  inside : l.position ≤ length l.types;
  many : length l.standings.items ≡ l.position;
  both : length l.seen.items ≡ length l.marks;
  seen : AreMarks (take l.position l.numbers) l.seen.items;
  each : (others : List (List ℕ)) → MarkTypesOf others l.types l.numbers l.marks → (i : ℕ) → i < l.position → HasStanding l.types others i (get_or l.standings.items i Shared);
}
