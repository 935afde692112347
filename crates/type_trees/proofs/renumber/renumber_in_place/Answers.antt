use Rattle.std.proofs.Common.{◌≡◌, ◌<◌, ◌+◌, ◌∷◌, [], ◌∙◌, ap, arith, drop, get_or, length, refl, rules}
use Rattle.std.proofs.lemmas.List.{drop_more, drop_all}
use Rattle.cv_leaves.specs.Checks.{places_of}
use Rattle.cv_leaves.specs.References.{reference_at, references}
use Rattle.cv_leaves.proofs.FilledLaws.{own_places}
use Rattle.tpi_records.specs.Header.{first_index}
use Rattle.type_trees.specs.Types.{NamesThere}
use Rattle.type_trees.specs.Table.{renumber_one}
use Rattle.type_trees.proofs.RenumberLaws.{names_more, one_left, none_left, first_in, others_in, unwritten_starts, unwritten_first, unwritten_inside, unwritten_more}
use Rattle.type_trees.proofs.NamedLaws.{listed_fill, listed_fits, listed_within, listed_there, listed_numbered, listed_small, small_more, renumbered_named}
use Rattle.type_trees.proofs.renumber.renumber_in_place.Goals as goal

pub loop-place-init : goal.loop-place-init
loop-place-init c =
    let r = c.args.«record».now in
    let ps = c.args.places.now in
    record {
      rest = listed_fill r ps r _ c.requires.checked (λ i. search rules) c.requires.listed refl;
      unwritten = unwritten_starts r r ps 0 (listed_fits r ps c.requires.checked c.requires.listed) refl;
      has = own_places r c.requires.checked;
      within = listed_within r ps c.requires.listed;
      there = listed_there (length c.args.numbers.now) r ps c.requires.listed;
      named = listed_numbered c.args.numbers.now r ps c.requires.listed;
      small = listed_small _ r ps c.requires.listed;
    }

pub ref_at-requires : goal.ref_at-requires
ref_at-requires c =
    let i = c.loop-place.place-index in
    let ps = c.args.places.now in
    let here = unwritten_inside _ c.loop-place.«record» (drop i ps) (drop (i + 1) ps) (get_or ps i 0) (drop_more ps i 0 c.loop-place-test.true) c.loop-place.invariant.unwritten in
    omega (arith, here, c.from-place.ensures)

pub set_ref-requires : goal.set_ref-requires
set_ref-requires c =
    let i = c.loop-place.place-index in
    let ps = c.args.places.now in
    rw c.from-place.ensures
    (places_of c.args.«record».now, c.loop-place.invariant.has, c.loop-place.invariant.within (get_or ps i 0) (first_in (get_or ps i 0) (drop i ps) (drop (i + 1) ps) (drop_more ps i 0 c.loop-place-test.true)))

pub loop-place-preserved : goal.loop-place-preserved
loop-place-preserved c =
    let r = c.args.«record».now in
    let many = length c.args.numbers.now in
    let so_far = c.loop-place.invariant in
    let i = c.loop-place.place-index in
    let left = drop i c.args.places.now in
    let others = drop (i + 1) c.args.places.now in
    let place = get_or c.args.places.now i 0 in
    let split : left ≡ place ∷ others = drop_more c.args.places.now i 0 c.loop-place-test.true in
    let x = c.loop-place.«record» in
    let read = rw c.from-place.ensures at c.ref_at.ensures ∙ unwritten_first r x left others place split so_far.unwritten in
    let to : c.in-Some.to ≡ renumber_one (λ k. get_or c.args.numbers.now k 0) (reference_at r place) = c.in-Some.ensures.value ∙ ap (renumber_one (λ k. get_or c.args.numbers.now k 0)) read in
    let here : reference_at r place < first_index + many = rw read at c.in-Some.ensures.there in
    let changed = rw c.from-place.ensures at c.set_ref.ensures.changes in
    record {
      rest = one_left r (λ k. get_or c.args.numbers.now k 0) x _ _ place _ left others so_far.rest split to changed;
      has = c.set_ref.ensures.keeps (places_of r) so_far.has;
      within = λ p h. so_far.within p (others_in p place left others split h);
      unwritten = unwritten_more r x _ left others place _ split changed so_far.unwritten;
      there = names_more many r left others place (NamesThere many (references r)) split here so_far.there;
      named = λ all. (rw split at so_far.named all).1;
      small = small_more (λ k. get_or c.args.numbers.now k 0) r left others place _ split (omega (arith, to)) so_far.small;
    }

pub returns-in-None-clause-named : goal.returns-in-None-clause-named
returns-in-None-clause-named c = λ all.
    let i = c.loop-place.place-index in
    let split = drop_more c.args.places.now i 0 c.loop-place-test.true in
    let so_far = c.loop-place.invariant in
    let read = rw c.from-place.ensures at c.ref_at.ensures ∙ unwritten_first _ _ _ _ _ split so_far.unwritten in
    absurd (c.in-None.ensures.none (rw read (rw split at so_far.named all).0))

pub returns-clause-value : goal.returns-clause-value
returns-clause-value c = λ yes.
    let i = c.loop-place.place-index in
    none_left c.args.«record».now (λ k. get_or c.args.numbers.now k 0) c.loop-place.«record» (drop i c.args.places.now) _ c.loop-place.invariant.rest (drop_all i c.args.places.now (search (rules, c.loop-place-test.false)))

pub returns-clause-there : goal.returns-clause-there
returns-clause-there c = λ yes.
    let i = c.loop-place.place-index in
    let none : drop i c.args.places.now ≡ [] = drop_all i c.args.places.now (search (rules, c.loop-place-test.false)) in
    c.loop-place.invariant.there (rw none tt)

pub returns-clause-still : goal.returns-clause-still
returns-clause-still c = λ yes.
    let i = c.loop-place.place-index in
    let none : drop i c.args.places.now ≡ [] = drop_all i c.args.places.now (search (rules, c.loop-place-test.false)) in
    rw (returns-clause-value c yes) (renumbered_named c.args.«record».now _ c.requires.checked (c.loop-place.invariant.small (rw none tt)))
