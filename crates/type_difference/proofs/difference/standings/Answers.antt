use Rattle.std.proofs.Common.{◌≡◌, ◌+◌, ◌<◌, ◌∷◌, ◌++◌, [], ◌∙◌, ℕ, get_or, ap, arith, length, refl, rules}
use Rattle.std.proofs.lemmas.List.{length-set, length-append}
use Rattle.type_trees.proofs.DepthLaws.{next_record, all_records}
use Rattle.type_difference.proofs.DifferenceLaws.{marks_more, standing_is, standings_more, names_there}
use Rattle.type_difference.proofs.difference.standings.Goals as goal

pub standing_of-requires-clause-there : goal.standing_of-requires-clause-there
standing_of-requires-clause-there g c =
    let all = c.args.types.now in
    let k = c.loop-bytes.position in
    let split : c.loop-bytes.bytes-iterator ≡ c.in-Some.bytes.now ∷ c.next.new.self = search rules in
    let next = next_record all k c.loop-bytes.bytes-iterator c.next.new.self c.in-Some.bytes.now c.loop-bytes.invariant.left split in
    let named = names_there all k c.len.ensures.types next.1 in
    rw (c.requires.apart.many, next.0) named

pub loop-bytes-preserved : goal.loop-bytes-preserved
loop-bytes-preserved g c =
    let all = c.args.types.now in
    let so_far = c.loop-bytes.invariant in
    let k = c.loop-bytes.position in
    let n = get_or c.args.numbers.now k 0 in
    let split : c.loop-bytes.bytes-iterator ≡ c.in-Some.bytes.now ∷ c.next.new.self = search rules in
    let next = next_record all k c.loop-bytes.bytes-iterator c.next.new.self c.in-Some.bytes.now so_far.left split in
    let inside : k < length c.args.numbers.now = omega (arith, next.1, c.requires.apart.many) in
    let below : n < length c.args.marks.now = c.requires.inside k inside in
    let pushed : c.push.new.self.items ≡ c.loop-bytes.standings.items ++ c.standing_of.result ∷ [] = c.in_ok-push.ensures.items in
    let seen_is : c.deref.result.now ≡ c.loop-bytes.seen.items = c.deref.ensures.value in
    record {
      left = next.2;
      inside = omega (arith, next.1);
      many = ap length pushed ∙ length-append c.loop-bytes.standings.items (c.standing_of.result ∷ []) ∙ ap (λ (m : ℕ). m + 1) so_far.many;
      both = simp length-set so_far.both;
      seen = marks_more c.args.numbers.now c.loop-bytes.seen.items k n so_far.seen inside refl (omega (arith, below, so_far.both));
      each = λ others tells.
          rw pushed (standings_more all others c.loop-bytes.standings.items k c.standing_of.result so_far.many (so_far.each others tells)
          (standing_is all others c.args.numbers.now c.args.marks.now c.loop-bytes.seen.items k n c.in-Some.bytes.now c.standing_of.result c.len.ensures.types c.requires.apart tells so_far.seen next.1 refl next.0
          (rw seen_is at c.standing_of.ensures)));
    }

pub returns : goal.returns
returns g c = λ others tells.
    let all = c.args.types.now in
    let end = all_records all c.loop-bytes.position c.loop-bytes.bytes-iterator c.loop-bytes.invariant.left (c.in-None.ensures.steps).0 c.loop-bytes.invariant.inside in
    record {
      many = c.loop-bytes.invariant.many ∙ end;
      each = λ i lt. c.loop-bytes.invariant.each others tells i (omega (arith, lt, end));
    }
