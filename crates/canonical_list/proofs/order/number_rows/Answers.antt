use Rattle.std.proofs.Common.{◌≡◌, ◌<◌, ◌+◌, ◌≤◌, ℕ, get_or, length, sym, arith, rules}
use Rattle.std.proofs.lemmas.List.{get_or-map, length-map, take_all}
use Rattle.canonical_list.specs.declared.row.Row.{Row}
use Rattle.canonical_list.specs.Rows.{positions}
use Rattle.canonical_list.proofs.FinishLaws.{numbered_more, bounded_put, order_long, order_more}
use Rattle.canonical_list.proofs.order.number_rows.Goals as goal

pub loop-row-preserved : goal.loop-row-preserved
loop-row-preserved g c =
    let rows = c.args.rows.now in
    let before = c.args.order.now.items in
    let k = c.loop-row.row-index in
    let d : Row = record { head = 0; position = 0 } in
    let so_far = c.loop-row.invariant in
    let inside : k < length rows = search rules in
    let number : ℕ = length c.loop-row.order.items in
    let long : number ≡ length before + k = order_long rows before c.loop-row.order.items k so_far.order inside in
    let at = get_or-map (λ (p : Row). p.position) rows k d 0 inside in
    record {
      order = rw c.in_ok-push.ensures.items (order_more rows before c.loop-row.order.items k d so_far.order inside);
      numbered = numbered_more (positions rows) (length before) k c.args.numbers.now c.loop-row.numbers _ (get_or rows k d).position number so_far.numbered (omega (arith, inside, length-map rows (λ (p : Row). p.position))) (sym at) long (search rules) (search rules);
      same = search rules;
      bounded = bounded_put c.loop-row.numbers _ (get_or rows k d).position number so_far.bounded (omega (arith, long, c.requires.few, inside)) (search rules) (search rules);
    }

pub returns-clause-order : goal.returns-clause-order
returns-clause-order g c =
    let all : length c.args.rows.now ≤ c.loop-row.row-index = search rules in
    rw take_all at c.loop-row.invariant.order

pub returns-clause-numbered : goal.returns-clause-numbered
returns-clause-numbered g c =
    let last : c.loop-row.row-index ≡ length c.args.rows.now = search rules in
    rw last at c.loop-row.invariant.numbered
