use Rattle.std.proofs.Common.{◌≡◌, length, take}
use Rattle.canonical_list.specs.Links.{AreLinked}
use Rattle.canonical_list.proofs.levels.Levels.of.Given as goal

abbrev pub invariant-loop-position : goal.invariant-loop-position
invariant-loop-position g l = record {
  many : length l.older.items ≡ l.position;
  levels : length l.newest.items ≡ l.levels;
  linked : AreLinked (take l.position l.depths) l.newest.items l.older.items;
}
