use Rattle.std.proofs.Common.{◌≡◌, ◌≢◌, ◌∙◌, ◌+◌, ◌<◌, [], length, take, get_or, refl, ap, arith, rules, inl, inr}
use Rattle.std.proofs.lemmas.List.{get_or-take}
use Rattle.text_set.specs.TextKeys.{nth_try}
use Rattle.text_set.proofs.TextKeyLaws.{others_more, others_taken, few_clashes, new_text, key_there, key_at, key_last, key_behind}
use Rattle.text_set.proofs.find.find_or_key.Goals.{then-is_new-via-then-is_new, then-is_new-via-else-is_new+then-eq}
use Rattle.text_set.proofs.find.find_or_key.Goals as goal

pub returns-then-is_new-clause-keyed : goal.returns-then-is_new-clause-keyed
returns-then-is_new-clause-keyed g c =
    let texts = c.args.texts.now in
    let text = c.args.text.now in
    let keys = c.args.keys.now.keys in
    let before = take (length keys) texts in
    let hash = c.args.hash in
    let clashes = c.loop-position.clashes in
    let number = nth_try hash clashes in
    let after = c.insert_full.new.self.keys in
    let position = c.in_ok-position.position in
    let so_far = c.loop-position.invariant in
    let put = rw so_far.same at c.in_ok-position.ensures in
    elim c.then-is_new.branch [
      | then-is_new-via-then-is_new w ↦
          let last = key_last keys after number c.in_ok-position.is_new w.if-is_new.true put.added put.keys in
          inr (
            key_behind keys after number position last put.stored put.within ∙ c.requires.keyed.each,
            record {
              absent = new_text before text keys hash clashes c.requires.keyed so_far.others last.1;
              key = number;
              last = last.0;
              distinct = put.unique;
              first_free = record { clashes = clashes; is = refl; taken = others_taken before text keys hash clashes c.requires.keyed.each so_far.others };
            },
          )
      | then-is_new-via-else-is_new+then-eq w ↦
          let same = key_there keys after number position c.in_ok-position.is_new w.if-is_new.false put.added put.keys in
          let inside : position < length keys = omega (arith, ap length same, put.within) in
          let here : get_or texts position [] ≡ text = search rules in
          inl (omega (arith, inside, c.requires.keyed.each), get_or-take (length keys) texts position [] inside ∙ here, same)
    ]

pub loop-position-preserved : goal.loop-position-preserved
loop-position-preserved g c =
    let texts = c.args.texts.now in
    let text = c.args.text.now in
    let keys = c.args.keys.now.keys in
    let before = take (length keys) texts in
    let hash = c.args.hash in
    let clashes = c.loop-position.clashes in
    let position = c.in_ok-position.position in
    let so_far = c.loop-position.invariant in
    let put = rw so_far.same at c.in_ok-position.ensures in
    let same = key_there keys c.insert_full.new.self.keys (nth_try hash clashes) position c.in_ok-position.is_new c.if-is_new.false put.added put.keys in
    let here = key_at keys (nth_try hash clashes) position (rw same at put.stored) in
    let inside : position < length keys = omega (arith, ap length same, put.within) in
    let apart : get_or texts position [] ≢ text = search rules in
    let others = others_more before text keys hash clashes position so_far.others (omega (arith, inside, c.requires.keyed.each)) here (rw (get_or-take (length keys) texts position [] inside) apart) in
    record {
      few = omega (arith, few_clashes keys hash (clashes + 1) (omega (arith, so_far.few, c.requires.few)) (others_taken before text keys hash (clashes + 1) c.requires.keyed.each others));
      same = same;
      others = others;
    }

pub loop-position-smaller : goal.loop-position-smaller
loop-position-smaller g c =
    let kept = loop-position-preserved g c in
    omega (arith, kept.few)
