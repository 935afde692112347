use Rattle.std.proofs.Common.{◌∙◌, arith, rules}
use Rattle.canonical_list.proofs.SortLaws.{alike_more, alike_still}
use Rattle.canonical_list.proofs.sort.pass_shared.Goals as goal

pub loop-at-init : goal.loop-at-init
loop-at-init g c =
    let ready = c.set_heads.ensures in
    record {
      same = ready.same;
      alike = alike_still c.args.from c.args.rows.now c.args.run.now c.set_heads.new.run ready.same c.requires.alike;
      heads = ready.heads;
      near = omega arith;
    }

pub loop-at-preserved : goal.loop-at-preserved
loop-at-preserved g c =
    let r = c.args.rows.now in
    let so_far = c.loop-at.invariant in
    let ready = c.set_heads-in-loop-at.ensures in
    record {
      same = ready.same ∙ so_far.same;
      alike = alike_still _ r c.loop-at.run c.set_heads-in-loop-at.new.run ready.same (alike_more c.loop-at.at r c.loop-at.run so_far.alike so_far.heads (search rules));
      heads = ready.heads;
      near = omega arith;
    }
