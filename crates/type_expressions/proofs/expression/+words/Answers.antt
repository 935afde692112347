use Rattle.std.proofs.Common.{rules, ◌≡◌, ◌++◌, ◌∙◌, ◌∷◌, true, false, codes, take, map, refl, sym, ap, List, ℕ, []}
use Rattle.std.specs.Prelude.{Some, None, slice_get, ◌+◌, ◌-◌}
use Rattle.tpi_records.specs.Header.{first_index}
use Rattle.cv_leaves.specs.Attributes.{points_to_member}
use Rattle.cv_leaves.specs.Checks.{body_of, kind_of, places_of}
use Rattle.cv_leaves.proofs.HoldLaws.{places_met}
use Rattle.type_trees.proofs.WalkLaws.{each_other}
use Rattle.type_expressions.specs.Expression.{IsNamed}
use Rattle.type_expressions.specs.Field.{number_in, numeric_text}
use Rattle.type_expressions.specs.Told.{nothing_words, modifier_words, pointer_words, bit_words, strung}
use Rattle.type_expressions.proofs.BranchLaws.{told_place, words_got, words_none, not_there}
use Rattle.type_expressions.proofs.KindLaws.{told-modifier, has-modifier, told-procedure, has-procedure, told-method, has-method, told-bits, has-bits, told-array, has-array, told-list, told-methods, told-member_pointer, told-pointer, has-pointer, has-member, told-plain}
use Rattle.type_expressions.proofs.ListLaws.{list_more}
use Rattle.output_words.proofs.TakeLaws.{take_more, three_more, four_more, six_more}
use Rattle.type_expressions.proofs.TellLaws.{on_ok}
use Rattle.type_expressions.proofs.expression.+words.Goals as goal

pub push_record-returns-in_ok-push_modifier-in-4097-clause-value : goal.push_record-returns-in_ok-push_modifier-in-4097-clause-value
push_record-returns-in_ok-push_modifier-in-4097-clause-value g t c = λ at all.
    let r = c.args.record.now in
    let end = c.args.end in
    let old = c.args.text.now.items in
    let kind : kind_of r ≡ 0x1001 = search rules in
    let body : c.body_of-body.result.now ≡ body_of r = c.body_of-body.ensures.bytes in
    let zero = told_place c.args.types.now c.args.deep r at 0 all (has-modifier r kind) in
    rw (told-modifier r at kind)
    (on_ok _ _ c.push_at.result
    (λ more. take_more end old (modifier_words (body_of r)) (at 0) c.push_modifier.new.text.items c.push_at.new.text.items (rw body at c.in_ok-push_modifier-in-4097.ensures.value) more)
    (c.push_at.ensures.value (at 0) zero))

pub push_record-returns-in_ok-push-in-4098-clause-value : goal.push_record-returns-in_ok-push-in-4098-clause-value
push_record-returns-in_ok-push-in-4098-clause-value g t c = λ at all.
    let r = c.args.record.now in
    let end = c.args.end in
    let old = c.args.text.now.items in
    let kind : kind_of r ≡ 0x1002 = search rules in
    let body : c.body_of-body.result.now ≡ body_of r = c.body_of-body.ensures.bytes in
    let tested : points_to_member (number_in 4 c.body_of-body.result.now 4) ≡ true = search rules in
    let mode = rw body at tested in
    let eight = told_place c.args.types.now c.args.deep r at 8 all ((has-member r kind mode).1) in
    let zero = told_place c.args.types.now c.args.deep r at 0 all ((has-member r kind mode).0) in
    rw (told-member_pointer r at kind mode)
    (on_ok _ _ c.push_at-in-4098-2.result
    (λ more. four_more end old (pointer_words (body_of r)) (at 8) (codes ", ") (at 0) c.push_pointer.new.text.items c.push_at-in-4098.new.text.items c.push.new.text.items c.push_at-in-4098-2.new.text.items
    (rw body at c.in_ok-push_pointer-in-4098.ensures.value) (c.in_ok-push_at-in-4098.ensures.value (at 8) eight) c.in_ok-push-in-4098.ensures.value more)
    (c.push_at-in-4098-2.ensures.value (at 0) zero))

pub push_record-returns-in_ok-push_pointer-in-4098-2-clause-value : goal.push_record-returns-in_ok-push_pointer-in-4098-2-clause-value
push_record-returns-in_ok-push_pointer-in-4098-2-clause-value g t c = λ at all.
    let r = c.args.record.now in
    let end = c.args.end in
    let old = c.args.text.now.items in
    let kind : kind_of r ≡ 0x1002 = search rules in
    let body : c.body_of-body.result.now ≡ body_of r = c.body_of-body.ensures.bytes in
    let tested : points_to_member (number_in 4 c.body_of-body.result.now 4) ≡ false = search rules in
    let mode = rw body at tested in
    let zero = told_place c.args.types.now c.args.deep r at 0 all (has-pointer r kind) in
    rw (told-pointer r at kind mode)
    (on_ok _ _ c.push_at-in-4098-2-2.result
    (λ more. take_more end old (pointer_words (body_of r)) (at 0) c.push_pointer-in-4098-2.new.text.items c.push_at-in-4098-2-2.new.text.items (rw body at c.in_ok-push_pointer-in-4098-2.ensures.value) more)
    (c.push_at-in-4098-2-2.ensures.value (at 0) zero))

pub push_record-returns-in_ok-push-in-4104-2-clause-value : goal.push_record-returns-in_ok-push-in-4104-2-clause-value
push_record-returns-in_ok-push-in-4104-2-clause-value g t c = λ at all.
    let r = c.args.record.now in
    let end = c.args.end in
    let old = c.args.text.now.items in
    let kind : kind_of r ≡ 0x1008 = search rules in
    let body : c.body_of-body.result.now ≡ body_of r = c.body_of-body.ensures.bytes in
    let eight = told_place c.args.types.now c.args.deep r at 8 all ((has-procedure r kind).1) in
    let zero = told_place c.args.types.now c.args.deep r at 0 all ((has-procedure r kind).0) in
    rw (told-procedure r at kind)
    (on_ok _ _ c.push_at-in-4104-2.result
    (λ more. four_more end old (codes "function ") (at 8) (codes " giving ") (at 0) c.push-in-4104.new.text.items c.push_at-in-4104.new.text.items c.push-in-4104-2.new.text.items c.push_at-in-4104-2.new.text.items
    c.in_ok-push-in-4104.ensures.value (c.in_ok-push_at-in-4104.ensures.value (at 8) eight) c.in_ok-push-in-4104-2.ensures.value more)
    (c.push_at-in-4104-2.ensures.value (at 0) zero))

pub push_record-returns-in_ok-push-in-4105-3-clause-value : goal.push_record-returns-in_ok-push-in-4105-3-clause-value
push_record-returns-in_ok-push-in-4105-3-clause-value g t c = λ at all.
    let r = c.args.record.now in
    let end = c.args.end in
    let old = c.args.text.now.items in
    let kind : kind_of r ≡ 0x1009 = search rules in
    let body : c.body_of-body.result.now ≡ body_of r = c.body_of-body.ensures.bytes in
    let last = told_place c.args.types.now c.args.deep r at 16 all ((has-method r kind).2) in
    let four = told_place c.args.types.now c.args.deep r at 4 all ((has-method r kind).1) in
    let zero = told_place c.args.types.now c.args.deep r at 0 all ((has-method r kind).0) in
    rw (told-method r at kind)
    (on_ok _ _ c.push_at-in-4105-3.result
    (λ more. six_more end old (codes "method ") (at 16) (codes " of ") (at 4) (codes " giving ") (at 0) c.push-in-4105.new.text.items c.push_at-in-4105.new.text.items c.push-in-4105-2.new.text.items c.push_at-in-4105-2.new.text.items c.push-in-4105-3.new.text.items c.push_at-in-4105-3.new.text.items
    c.in_ok-push-in-4105.ensures.value (c.in_ok-push_at-in-4105.ensures.value (at 16) last) c.in_ok-push-in-4105-2.ensures.value (c.in_ok-push_at-in-4105-2.ensures.value (at 4) four) c.in_ok-push-in-4105-3.ensures.value more)
    (c.push_at-in-4105-3.ensures.value (at 0) zero))

pub push_record-returns-in_ok-push_each-in-4609-clause-value : goal.push_record-returns-in_ok-push_each-in-4609-clause-value
push_record-returns-in_ok-push_each-in-4609-clause-value g t c = λ at all.
    let r = c.args.record.now in
    let kind : kind_of r ≡ 0x1201 = search rules in
    rw (told-list r at kind)
    (on_ok _ _ c.push-in-4609-2.result
    (λ more. three_more c.args.end c.args.text.now.items (codes "(") (strung [] (codes ", ") (map at (places_of r))) (codes ")") c.push-in-4609.new.text.items c.push_each.new.text.items c.push-in-4609-2.new.text.items c.in_ok-push-in-4609.ensures.value (c.in_ok-push_each-in-4609.ensures.value at all) more)
    c.push-in-4609-2.ensures.value)

pub push_each-loop-place-init : goal.push_each-loop-place-init
push_each-loop-place-init g t c =
    let same : c.into_iter-place-iterator.result ≡ c.places-place-items.result = search rules in
    let places : c.into_iter-place-iterator.result ≡ places_of c.args.record.now = same ∙ places_met c.args.record.now c.places-place-items.result c.places-place-items.ensures in
    record {
      short = c.requires.room;
      value = λ at all. rw places (all, refl);
    }

pub push_each-loop-place-preserved : goal.push_each-loop-place-preserved
push_each-loop-place-preserved g t c =
    let r = c.args.record.now in
    let others = c.next.new.self in
    let place = c.in-Some.place in
    record {
      short = c.in_ok-push_at.ensures.short;
      value = λ at all.
          let so_far = c.loop-place.invariant.value at all in
          let split : c.loop-place.place-iterator ≡ place ∷ others = c.in-Some.ensures.steps in
          let each = each_other (λ p. IsNamed (nothing_words r) c.args.types.now c.args.deep (number_in 4 (body_of r) p) (at p)) place c.loop-place.place-iterator others split so_far.0 in (
            each.1,
            list_more c.args.end c.loop-place.text.items c.loop-place.before.now (at place) c.args.separator.now c.push.new.text.items c.push_at.new.text.items (take c.args.end (c.args.text.now.items ++ strung [] c.args.separator.now (map at (places_of r)))) (map at others)
                c.in_ok-push.ensures.value (c.in_ok-push_at.ensures.value (at place) each.0) (rw split at so_far.1),
          );
    }

pub push_record-returns-in-4614-clause-value : goal.push_record-returns-in-4614-clause-value
push_record-returns-in-4614-clause-value g t c = λ at all.
    let kind : kind_of c.args.record.now ≡ 0x1206 = search rules in
    rw (told-methods c.args.record.now at kind) (c.push_each-in-4614.ensures.value at all)

pub push_record-returns-in_ok-push_at-in-4613-clause-value : goal.push_record-returns-in_ok-push_at-in-4613-clause-value
push_record-returns-in_ok-push_at-in-4613-clause-value g t c = λ at all.
    let r = c.args.record.now in
    let kind : kind_of r ≡ 0x1205 = search rules in
    let body : c.body_of-body.result.now ≡ body_of r = c.body_of-body.ensures.bytes in
    let zero = told_place c.args.types.now c.args.deep r at 0 all (has-bits r kind) in
    rw (told-bits r at kind)
    (on_ok _ _ c.push_bits.result
    (λ more. take_more c.args.end c.args.text.now.items (at 0) (bit_words (body_of r)) c.push_at-in-4613.new.text.items c.push_bits.new.text.items (c.in_ok-push_at-in-4613.ensures.value (at 0) zero) (rw body at more))
    c.push_bits.ensures.value)

pub push_record-returns-in_ok-push-in-5379-2-clause-value : goal.push_record-returns-in_ok-push-in-5379-2-clause-value
push_record-returns-in_ok-push-in-5379-2-clause-value g t c = λ at all.
    let r = c.args.record.now in
    let kind : kind_of r ≡ 0x1503 = search rules in
    let body : c.body_of-body.result.now ≡ body_of r = c.body_of-body.ensures.bytes in
    let zero = told_place c.args.types.now c.args.deep r at 0 all (has-array r kind) in
    rw (told-array r at kind)
    (on_ok _ _ c.push_at-in-5379.result
    (λ more. four_more c.args.end c.args.text.now.items (codes "array of ") (numeric_text (body_of r) 8) (codes " bytes of ") (at 0) c.push-in-5379.new.text.items c.push_numeric.new.text.items c.push-in-5379-2.new.text.items c.push_at-in-5379.new.text.items
    c.in_ok-push-in-5379.ensures.value (rw body at c.in_ok-push_numeric-in-5379.ensures.value) c.in_ok-push-in-5379-2.ensures.value more)
    (c.push_at-in-5379.ensures.value (at 0) zero))

pub push_record-returns-in_default-clause-value : goal.push_record-returns-in_default-clause-value
push_record-returns-in_default-clause-value g t c = λ at all.
    let r = c.args.record.now in
    let a : kind_of r ≡ 0x1001 → ⊥ = search rules in
    let b : kind_of r ≡ 0x1002 → ⊥ = search rules in
    let d : kind_of r ≡ 0x1008 → ⊥ = search rules in
    let e : kind_of r ≡ 0x1009 → ⊥ = search rules in
    let f : kind_of r ≡ 0x1201 → ⊥ = search rules in
    let h : kind_of r ≡ 0x1206 → ⊥ = search rules in
    let i : kind_of r ≡ 0x1205 → ⊥ = search rules in
    let j : kind_of r ≡ 0x1503 → ⊥ = search rules in
    rw (told-plain r at a b d e f h i j) c.push_plain.ensures.value

pub push_words-returns-in_default-get-clause-value : goal.push_words-returns-in_default-get-clause-value
push_words-returns-in_default-get-clause-value g t c = λ words told.
    let is : first_index + c.in-Some.position ≡ c.args.to = search rules in
    let none : slice_get c.args.types.now c.in-Some.position ≡ None = search rules in
    absurd (not_there c.args.nothing.now c.args.types.now c.args.deep c.args.to c.in-Some.position words is none told)

pub push_words-returns-then-deep-eq0-clause-value : goal.push_words-returns-then-deep-eq0-clause-value
push_words-returns-then-deep-eq0-clause-value g t c = λ words told.
    let is : first_index + c.in-Some.position ≡ c.args.to = search rules in
    let none : c.args.deep ≡ 0 = search rules in
    rw (words_none c.args.nothing.now c.args.types.now c.args.deep c.args.to c.in-Some.position words none is told) c.push.ensures.value

pub push_words-returns-clause-value : goal.push_words-returns-clause-value
push_words-returns-clause-value g t c = λ words told.
    let records = c.args.types.now in
    let r = c.in-Some-get.record.now in
    let is : first_index + c.in-Some.position ≡ c.args.to = search rules in
    let found : Some r ≡ slice_get records c.in-Some.position = search rules in
    let some : c.args.deep ≡ 0 → ⊥ = search rules in
    let w = words_got c.args.nothing.now records c.args.deep c.args.to c.in-Some.position r words some is found c.in-Some-get.ensures.checked told in
    on_ok _ _ c.push_record.result (λ more. more ∙ ap (λ (xs : List ℕ). take c.args.end (c.args.text.now.items ++ xs)) (sym w.2)) (c.push_record.ensures.value w.0 w.1)
