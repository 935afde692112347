use Rattle.std.proofs.Common.{◌-◌, arith, inl, inr, length}
use Rattle.std.proofs.lemmas.Result.{err_from_is_err_and}
use Rattle.byte_io.proofs.InputLaws.{not_read}
use Rattle.byte_io.proofs.input.read_into.Goals as goal

pub returns-in_err-fetch_more-clause-first : goal.returns-in_err-fetch_more-clause-first
returns-in_err-fetch_more-clause-first g c =
    let p = err_from_is_err_and c.from_residual.result c.from_residual.ensures.1 in
    let so_far = c.loop-turn.invariant in
    let bytes = c.loop-turn.file.items in
    rw (p.1, p.2) (elim c.in_err-fetch_more.ensures.first [
      | inl is ↦ inl (not_read _ (g.R.Source.left c.loop-turn.input) _ _ bytes (c.args.limit - length bytes) c.args.limit _ so_far.came (omega (arith, so_far.short)) is)
      | inr is ↦ inr is.0
    ])
