use Rattle.std.proofs.Common.{◌<◌, ◌≤◌, ◌∙◌, [], get_or, length, take, rules}
use Rattle.std.proofs.lemmas.List.{take_all, take_more_set}
use Rattle.std.proofs.lemmas.List.Elements.{All-push}
use Rattle.canonical_list.specs.declared.row.Row.{Row}
use Rattle.canonical_list.specs.Rows.{HasHead}
use Rattle.canonical_list.proofs.SortLaws.{positions_kept}
use Rattle.canonical_list.proofs.sort.set_heads.Goals as goal

pub loop-row-preserved : goal.loop-row-preserved
loop-row-preserved g c =
    let now = c.loop-row.run in
    let k = c.loop-row.row-index in
    let p = c.new.result in
    let inside : k < length now = search rules in
    let K = λ (p : Row). HasHead c.args.from p.head (get_or c.args.rows.now p.position []) in
    record {
      same = positions_kept now k p _ inside c.new.ensures.position ∙ c.loop-row.invariant.same;
      heads = rw (take_more_set now k p inside) (All-push K (take k now) p c.loop-row.invariant.heads (rw (c.new.ensures.position, ← c.bytes_of.ensures) c.new.ensures.head));
    }

pub returns-clause-heads : goal.returns-clause-heads
returns-clause-heads g c =
    let all : length c.loop-row.run ≤ c.loop-row.row-index = search rules in
    rw take_all at c.loop-row.invariant.heads
