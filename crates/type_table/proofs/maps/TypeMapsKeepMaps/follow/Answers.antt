use Rattle.std.proofs.Common.{Vec, Some, ℕ, [], get_or, ap, sym, ◌≡◌, arith, map, ◌∙◌, ◌<◌, length}
use Rattle.std.proofs.lemmas.List.{map-set, get_or-map, length-map, with_items_is}
use Rattle.type_table.specs.Maps.{followed_by}
use Rattle.type_table.proofs.MapLaws.{followed_none, followed_more, followed_all, all_followed}
use Rattle.type_table.proofs.maps.TypeMapsKeepMaps.follow.Goals as goal

pub loop-map-init : goal.loop-map-init
loop-map-init g c = followed_none (map (λ (v : Vec ℕ g.row.A.Denot). v.items) c.deref_mut-map-items.result.now) c.args.numbers.now

pub loop-map-preserved : goal.loop-map-preserved
loop-map-preserved g c =
    let items = λ (v : Vec ℕ g.row.A.Denot). v.items in
    let first = map items c.deref_mut-map-items.result.now in
    let maps = c.loop-map.map-items in
    let i = c.loop-map.map-index in
    let v = get_or maps i c.map-item.result in
    let inside : i < length maps = omega (arith, c.loop-map-test.true, c.loop-map.auto.map-items) in
    let at : c.deref_mut.result.now ≡ get_or (map items maps) i [] = c.deref_mut.ensures.value ∙ sym (get_or-map items maps i c.map-item.result [] inside) in
    let long : length c.follow_map.new.map ≡ v.len = c.follow_map.auto.map ∙ ap length c.deref_mut.ensures.value ∙ sym v.ok.0 in
    rw (map-set items maps i _, with_items_is v c.follow_map.new.map long)
    (followed_more i first (map items maps) c.args.numbers.now c.follow_map.new.map c.loop-map.invariant (omega (arith, c.loop-map-test.true, length-map c.deref_mut-map-items.result.now items))
    (c.follow_map.ensures ∙ ap (λ m. followed_by m c.args.numbers.now) at))

pub invariant_of-self : goal.invariant_of-self
invariant_of-self g c =
    let items = λ (v : Vec ℕ g.row.A.Denot). v.items in
    let first = map items c.deref_mut-map-items.result.now in
    let all = followed_all c.loop-map.map-index first (map items c.loop-map.map-items) c.args.numbers.now c.loop-map.invariant (omega (arith, c.loop-map-test.false, length-map c.deref_mut-map-items.result.now items)) in
    let long : length c.loop-map.map-items ≡ c.self.inside.maps.len = c.loop-map.auto.map-items ∙ ap length c.deref_mut-map-items.ensures.value ∙ sym c.self.inside.maps.ok.0 in
    rw (with_items_is c.self.inside.maps c.loop-map.map-items long, all) (all_followed first c.args.numbers.now c.requires (rw (← c.deref_mut-map-items.ensures.value) at c.self.invariant))

pub returns : goal.returns
returns g c =
    let items = λ (v : Vec ℕ g.row.A.Denot). v.items in
    let first = map items c.deref_mut-map-items.result.now in
    let all = followed_all c.loop-map.map-index first (map items c.loop-map.map-items) c.args.numbers.now c.loop-map.invariant (omega (arith, c.loop-map-test.false, length-map c.deref_mut-map-items.result.now items)) in
    let long : length c.loop-map.map-items ≡ c.self.inside.maps.len = c.loop-map.auto.map-items ∙ ap length c.deref_mut-map-items.ensures.value ∙ sym c.self.inside.maps.ok.0 in
    ap Some (ap (map items) (with_items_is c.self.inside.maps c.loop-map.map-items long) ∙ all ∙ ap (λ l. map (λ numbers. followed_by numbers c.args.numbers.now) (map items l)) c.deref_mut-map-items.ensures.value ∙ ap (map (λ numbers. followed_by numbers c.args.numbers.now)) c.self.view_is)
