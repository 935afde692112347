use Rattle.std.proofs.Common.{◌≡◌, refl, map, get_or, arith, length}
use Rattle.std.proofs.lemmas.List.{drop_all, length-map}
use Rattle.type_changes.specs.Lone.{is_same}
use Rattle.type_changes.specs.Seen.{seen, seen_at}
use Rattle.type_changes.proofs.ListLaws.{map_insert}
use Rattle.type_changes.proofs.LoneLaws.{distinct_starts, distinct_goes, distinct_ends}
use Rattle.type_changes.proofs.NextLaws.{nowhere, next_left, at_all}
use Rattle.type_changes.proofs.lone.distinct.Goals as goal

pub loop-place-init : goal.loop-place-init
loop-place-init g c = rw c.with_hasher-all.ensures.empty (distinct_starts (map (seen_at c.args.text.now) c.args.places.now))

pub told-requires : goal.told-requires
told-requires g c = at_all (length c.args.text.now) c.args.places.now c.loop-place.place-index c.loop-place-test.true c.requires

pub loop-place-preserved : goal.loop-place-preserved
loop-place-preserved g c =
    let all = c.args.places.now in
    let text = c.args.text.now in
    let k = c.loop-place.place-index in
    let place = get_or all k nowhere in
    let told : seen c.told.result ≡ seen_at text place = c.told.ensures in
    rw (c.in_ok-insert.ensures.keys, map_insert seen _ is_same (λ x y. refl) c.loop-place.all.keys c.told.result, told)
    (distinct_goes (map seen c.loop-place.all.keys) (seen_at text place) _ _ (rw (next_left (seen_at text) nowhere all k c.loop-place-test.true) at c.loop-place.invariant))

pub returns : goal.returns
returns g c =
    let all = c.args.places.now in
    distinct_ends (map seen c.loop-place.all.keys) _ (rw (drop_all c.loop-place.place-index (map (seen_at c.args.text.now) all) (omega (arith, c.loop-place-test.false, length-map all (seen_at c.args.text.now)))) at c.loop-place.invariant)
