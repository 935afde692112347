use Rattle.std.proofs.Common.{Vec, ℕ, ◌≡◌, ◌∙◌, [], ap, sym, subst, get_or, length, map, arith, ◌<◌}
use Rattle.std.proofs.lemmas.List.{get_or-map, length-map}
use Rattle.type_table.specs.Maps.{IsMap}
use Rattle.type_table.proofs.maps.TypeMaps.get.Given.{Over}
use Rattle.type_table.proofs.maps.TypeMaps.get.Goals.{After-deref}
use Rattle.type_table.proofs.maps.TypeMaps.get.Goals as goal

is_map : (g : Over) (c : After-deref g) → IsMap c.deref.result.now
is_map g c =
    let items = λ (v : Vec ℕ g.row.A.Denot). v.items in
    let maps = c.self.inside.maps.items in
    let many = length-map maps items in
    let inside : c.args.input < length maps = omega (arith, c.requires.inside, ap length c.self.view_is, many) in
    let at : get_or (map items maps) c.args.input [] ≡ c.deref.result.now = get_or-map items maps c.args.input c.index.result.now [] inside ∙ ap items (sym c.index.ensures) ∙ sym c.deref.ensures.value in
    subst IsMap at (c.self.invariant c.args.input [] (omega (arith, inside, many)))

pub returns-clause-small : goal.returns-clause-small
returns-clause-small g c = (is_map g c).small

pub returns-clause-few : goal.returns-clause-few
returns-clause-few g c = (is_map g c).few
