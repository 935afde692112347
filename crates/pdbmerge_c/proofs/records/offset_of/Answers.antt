use Rattle.std.proofs.Common.{◌≡◌, ◌<◌, ◌∷◌, ap, arith, length, rules}
use Rattle.std.specs.List.{concat}
use Rattle.std.proofs.lemmas.List.{length-append}
use Rattle.pdbmerge_c.proofs.OffsetLaws.{start_behind}
use Rattle.pdbmerge_c.proofs.records.offset_of.Goals as goal

pub loop-bytes-preserved : goal.loop-bytes-preserved
loop-bytes-preserved c =
    let r = c.in-Some.bytes.now in
    let others = c.next.new.self in
    let before = c.loop-bytes.before in
    let kept = c.loop-bytes.invariant in
    let split : c.loop-bytes.bytes-iterator ≡ r ∷ others = search rules in
    let some : 0 < before = omega (arith, c.if-before-eq0.false) in
    record {
      rest = omega (arith, rw split at kept.rest, start_behind r others before some);
      many = omega (arith, some, ap length split, kept.many);
      end = omega (arith, rw split at kept.end, length-append r (concat others));
    }
