use Rattle.std.proofs.Common.{rules, ◌≡◌, drop, take, length, ap, arith}
use Rattle.std.proofs.lemmas.List.{length-drop}
use Rattle.output_words.proofs.PlainLaws.{block_more}
use Rattle.output_words.proofs.plain.plain_blocks.Goals as goal

pub tested-preserved : goal.tested-preserved
tested-preserved c =
    let bytes = c.args.bytes.now in
    let count = c.tested.count in
    let from : c.rest_from.result.now ≡ drop count bytes = c.rest_from.ensures in
    let first : c.in-Some.block.now ≡ take 16 c.rest_from.result.now = c.in-Some.ensures.cases.same in
    record {
      inside = omega (arith, c.in-Some.ensures.cases.enough, ap length from, length-drop count bytes);
      plain = block_more bytes c.rest_from.result.now c.in-Some.block.now count 16 from first c.tested.invariant.plain (search rules);
    }
