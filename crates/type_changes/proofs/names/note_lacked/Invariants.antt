use Rattle.std.proofs.Common.{◌≡◌, ◌<◌, ℕ, [], drop, get_or}
use Rattle.std.specs.Prelude.{◌≢◌}
use Rattle.std.specs.List.{Contains}
use Rattle.type_difference.specs.declared.standing.Standing.TheVariants.{Shared}
use Rattle.type_changes.specs.Definition.{key_of}
use Rattle.type_changes.proofs.names.note_lacked.Given as goal

abbrev pub invariant-loop-position : goal.invariant-loop-position
invariant-loop-position g l = record {
  left : l.records ≡ drop l.position l.types;
  kept : (n : ℕ) → Contains l.fn.names.keys n → Contains l.names.keys n;
  noted : (i : ℕ) → i < l.position → get_or l.standings i Shared ≢ Shared → Contains l.names.keys (g.S.Hasher.Hasher.finish (g.S.Hasher.Hasher.write (g.S.BuildHasher.build_hasher l.hasher) (key_of (get_or l.types i [])).name));
}
