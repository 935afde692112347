use Rattle.std.proofs.Common.{Vec, ℕ, ◌≡◌, ◌∙◌, [], ◌++◌, ◌∷◌, ap, map}
use Rattle.std.proofs.lemmas.List.{map-append}
use Rattle.type_table.proofs.MapLaws.{one_map_more}
use Rattle.type_table.proofs.maps.TypeMapsKeepMaps.keep.Goals as goal

pub invariant_of-self-2 : goal.invariant_of-self-2
invariant_of-self-2 g c =
    let items = λ (v : Vec ℕ g.row.A.Denot). v.items in
    let maps = c.self.inside.maps.items in
    let v = c.extend_from_slice.new.self in
    let own : v.items ≡ c.args.numbers.now = rw c.in_ok-map.ensures.items at c.in_ok-extend_from_slice.ensures.items in
    let new : map items c.push.new.self.items ≡ map items maps ++ c.args.numbers.now ∷ [] =
    ap (map items) c.in_ok-push.ensures.items ∙ map-append items maps (v ∷ []) ∙ ap (λ l. map items maps ++ l ∷ []) own in
    rw new (one_map_more (map items maps) c.args.numbers.now c.self.invariant c.requires)
