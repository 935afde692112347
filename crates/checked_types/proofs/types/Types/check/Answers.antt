use Rattle.std.proofs.Common.{◌≡◌, ◌∙◌, ℕ, replicate, refl, ap, arith, length, rules}
use Rattle.std.specs.List.{range_with_len}
use Rattle.std.proofs.lemmas.List.{length-replicate}
use Rattle.std.proofs.lemmas.Result.{err_from_is_err_and}
use Rattle.checked_types.specs.Order.{order_list}
use Rattle.checked_types.proofs.DeepLaws.{written_back}
use Rattle.checked_types.proofs.CheckLaws.{passed_checked, passed_there, not_refused}
use Rattle.checked_types.proofs.OrderLaws.{ordered_types, stand_in_order}
use Rattle.checked_types.proofs.CycleLaws.{wants_memory}
use Rattle.checked_types.proofs.types.Types.check.Goals as goal

pub returns-in_err-check_all-clause-found : goal.returns-in_err-check_all-clause-found
returns-in_err-check_all-clause-found g c = λ types. absurd (not_refused c.args.records c.in_err-check_all.field-0.0 c.in_err-check_all.ensures.first types)

pub returns-in_err-check_all-2-clause-found : goal.returns-in_err-check_all-2-clause-found
returns-in_err-check_all-2-clause-found g c = λ types. absurd (not_refused c.args.records c.in_err-check_all-2.field-0.0 c.in_err-check_all-2.ensures.first types)

pub arrange-requires-clause-checked : goal.arrange-requires-clause-checked
arrange-requires-clause-checked g c = passed_checked c.args.records c.check_all-2.ensures.framed c.in_ok-check_all-2.ensures.first

pub arrange-requires-clause-there : goal.arrange-requires-clause-there
arrange-requires-clause-there g c = passed_there c.args.records c.check_all-2.ensures.framed c.in_ok-check_all-2.ensures.first

pub returns-in_err-order-clause-found : goal.returns-in_err-order-clause-found
returns-in_err-order-clause-found g c = λ types.
    let p = err_from_is_err_and c.from_residual-in_err-order.result c.from_residual-in_err-order.ensures.1 in
    rw (p.1, p.2) (wants_memory c.args.records c.in_err-order.field-0.0 types c.in_err-order.ensures.cycle)

pub measure-requires-clause-types : goal.measure-requires-clause-types
measure-requires-clause-types g c =
    ordered_types c.args.records (order_list (length c.args.records) c.in_ok-order.order) c.check_all-2.ensures.framed c.in_ok-check_all-2.ensures.first c.in_ok-order.ensures.value

pub invariant_of-result-2 : goal.invariant_of-result-2
invariant_of-result-2 g c = record {
  measured = record {
    types = ordered_types c.args.records (order_list (length c.args.records) c.in_ok-order.order) c.check_all-2.ensures.framed c.in_ok-check_all-2.ensures.first c.in_ok-order.ensures.value;
    ordered = c.in_ok-order.ensures.value;
    many = c.in_ok-depths.ensures.many;
    measured = c.in_ok-depths.ensures.depths;
    low = c.in_ok-depths.ensures.low;
  };
  indexed = tt;
}

pub returns-clause-value : goal.returns-clause-value
returns-clause-value g c = (refl, ordered_types c.args.records (order_list (length c.args.records) c.in_ok-order.order) c.check_all-2.ensures.framed c.in_ok-check_all-2.ensures.first c.in_ok-order.ensures.value)

pub invariant_of-result : goal.invariant_of-result
invariant_of-result g c =
    let records = c.args.records in
    let zeros : c.in-Ok.depths.items ≡ replicate c.len.result 0 = search rules in
    let none : c.deref_mut.result.now ≡ replicate (length records) 0 = c.deref_mut.ensures.value ∙ zeros ∙ ap (λ n. replicate {A = ℕ} n 0) c.len.ensures.value in
    let all = c.in_ok-check_all-2.ensures.measured c.if-branch.true none in
    let many : length c.in-Ok.depths.items ≡ length records = ap length zeros ∙ length-replicate {A = ℕ} c.len.result 0 ∙ c.len.ensures.value in
    let long : c.in-Ok.depths.len ≡ length c.in-Ok.depths.items = search rules in
    rw (written_back c.in-Ok.depths.items c.check_all-2.new.depths c.in-Ok.depths.len (omega (arith, all.many, many)) long) (record { measured = all; indexed = tt })

pub returns-then-branch-clause-value : goal.returns-then-branch-clause-value
returns-then-branch-clause-value g c = (
  refl,
  ordered_types c.args.records (range_with_len 0 (length c.args.records)) c.check_all-2.ensures.framed c.in_ok-check_all-2.ensures.first
      (stand_in_order c.args.records (c.in_ok-check_all-2.ensures.lower c.if-branch.true)),
)
