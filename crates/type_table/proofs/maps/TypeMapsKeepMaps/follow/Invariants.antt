use Rattle.std.proofs.Common.{map}
use Rattle.type_table.proofs.MapLaws.{AreFollowedTo}
use Rattle.type_table.proofs.maps.TypeMapsKeepMaps.follow.Given as goal

abbrev pub invariant-loop-map : goal.invariant-loop-map
invariant-loop-map g l = AreFollowedTo l.map-index (map (λ v. v.items) l.initial.map-items) (map (λ v. v.items) l.map-items) l.numbers
