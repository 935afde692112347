use Rattle.std.proofs.Common.{◌≡◌, ◌≤◌, length, refl, rules, arith}
use Rattle.std.proofs.lemmas.List.{take_all}
use Rattle.std.proofs.lemmas.List.Elements.{All-push}
use Rattle.std.specs.List.{concat}
use Rattle.packed_texts.specs.PackedTexts.{parts, texts_at, HasSpan}
use Rattle.packed_texts.proofs.OrderedLaws.{spans_more}
use Rattle.packed_texts.proofs.ordered.OrderedTexts.new.Given.{Over}
use Rattle.packed_texts.proofs.ordered.OrderedTexts.new.Goals.{After-loop-position}
use Rattle.packed_texts.proofs.ordered.OrderedTexts.new.Goals as goal

pub loop-position-init : goal.loop-position-init
loop-position-init g c = rw c.in_ok-spans.ensures.items (record { has = λ k d inside. absurd (omega (arith, inside)); are = refl })

pub loop-position-preserved : goal.loop-position-preserved
loop-position-preserved g c =
    let so_far = c.loop-position.invariant in
    let texts = c.args.texts in
    let spans = c.loop-position.spans.items in
    let span = c.span.result in
    rw c.in_ok-push.ensures.items (record {
      has = All-push (HasSpan (concat texts)) spans span so_far.has c.span.ensures.has;
      are = spans_more texts c.args.order.now spans c.loop-position.position-index span (search rules) so_far.are c.span.ensures.text;
    })

-- all texts have their spans
all : (g : Over) (c : After-loop-position g) → parts (concat c.args.texts) c.loop-position.spans.items ≡ texts_at c.args.texts c.args.order.now
all g c =
    let last : length c.args.order.now ≤ c.loop-position.position-index = search rules in
    rw take_all at c.loop-position.invariant.are

pub invariant_of-result : goal.invariant_of-result
invariant_of-result g c = record { has = c.loop-position.invariant.has; whole = rw (all g c) c.requires.whole }

pub returns : goal.returns
returns g c = all g (goal.at.returns g c).After-loop-position
