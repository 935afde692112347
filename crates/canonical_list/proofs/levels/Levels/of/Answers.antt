use Rattle.std.proofs.Common.{◌≡◌, ◌+◌, ◌<◌, ◌≤◌, get_or, length, refl, ◌∙◌, arith, rules}
use Rattle.std.proofs.lemmas.List.{get_or_default}
use Rattle.canonical_list.proofs.LinkLaws.{linked_more}
use Rattle.canonical_list.proofs.levels.Levels.of.Goals as goal

pub loop-position-preserved : goal.loop-position-preserved
loop-position-preserved g c =
    let depths = c.args.depths.now in
    let k = c.loop-position.position in
    let so_far = c.loop-position.invariant in
    let inside : k + 1 ≤ length depths = search rules in
    let newest = c.loop-position.newest.items in
    let low : get_or depths k 0 < length newest = omega (arith, c.requires.low k (omega (arith, inside)), so_far.levels) in
    let link : c.index.result.now ≡ get_or newest (get_or depths k 0) 0 = c.index.ensures ∙ get_or_default newest (get_or depths k 0) c.index.result.now 0 low in
    record {
      many = search rules;
      levels = search rules;
      linked = rw (c.in_ok-push.ensures.items, link) (linked_more depths newest c.loop-position.older.items k so_far.linked so_far.many (omega (arith, inside)) (get_or depths k 0) refl low);
    }
