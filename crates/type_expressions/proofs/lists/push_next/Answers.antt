use Rattle.std.proofs.Common.{◌≡◌, ◌+◌, ◌∷◌, ◌++◌, [], get_or, length, rules, refl, sym, arith}
use Rattle.std.specs.Prelude.{Some, None, slice_get}
use Rattle.std.proofs.lemmas.Option.{slice_get_within}
use Rattle.tpi_records.specs.Header.{first_index}
use Rattle.type_expressions.specs.Spans.{untold}
use Rattle.type_expressions.specs.declared.lists.Begun.{Begun}
use Rattle.type_expressions.proofs.LinesLaws.{list_there, nothing_there}
use Rattle.type_expressions.proofs.SpanLaws.{if_ok, no_list, stops, copies, begins}
use Rattle.type_expressions.proofs.BranchLaws.{gone}
use Rattle.type_expressions.proofs.lists.push_next.Goals as goal

pub returns-in_default : goal.returns-in_default
returns-in_default g c = λ deep lines goes.
    stops c.args.types.now deep lines c.args.text.now.items c.args.walk.now.items (no_list c.args.types.now deep c.args.to lines (search rules) goes)

pub returns-in_default-get : goal.returns-in_default-get
returns-in_default-get g c = λ deep lines goes.
    let records = c.args.types.now in
    let position = c.in-Some.place in
    let is : first_index + position ≡ c.args.to = search rules in
    let gone : slice_get records position ≡ None = search rules in
    stops records deep lines c.args.text.now.items c.args.walk.now.items (nothing_there records deep c.args.to position lines is gone goes)

pub bounds-spans-position : goal.bounds-spans-position
bounds-spans-position g c =
    let found : Some c.in-Some-get.list.now ≡ slice_get c.args.types.now c.in-Some.place = search rules in
    omega (arith, slice_get_within c.args.types.now c.in-Some.place c.in-Some-get.list.now (sym found), c.requires.many)

pub returns-then-span-ne0 : goal.returns-then-span-ne0
returns-then-span-ne0 g c = λ deep lines goes.
    let position = c.in-Some.place in
    let is : first_index + position ≡ c.args.to = search rules in
    let stands = c.requires.each position c.if-span-ne0.true in
    copies c.args.types.now deep position lines c.args.text.now.items c.extend_from_within.new.self.items (get_or c.args.spans.now position untold) c.args.walk.now.items (rw (sym is) at goes) stands
    c.in_ok-extend_from_within.ensures.items

pub returns : goal.returns
returns g c = λ deep lines goes.
    let records = c.args.types.now in
    let position = c.in-Some.place in
    let is : first_index + position ≡ c.args.to = search rules in
    let r = c.in-Some-get.list.now in
    let found : Some r ≡ slice_get records position = search rules in
    let inside = slice_get_within records position r (sym found) in
    let named = rw (sym is) at goes in
    let there = list_there records deep (first_index + position) position r lines refl found c.in-Some-get.ensures.checked named in
    let new : Begun = record { position = position; start = length c.args.text.now.items } in
    let walk : c.push.new.self.items ≡ c.args.walk.now.items ++ new ∷ [] = search rules in
    rw walk (if_ok _ _ c.push_own.result
    (λ next told. begins records deep position r lines there.0 c.args.text.now.items c.push_own.new.text.items c.args.walk.now.items next named inside there.2 there.3 told.0 told.1)
    (c.push_own.ensures.value there.0 there.1))
