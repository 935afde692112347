use Rattle.std.proofs.Common.{◌≡◌, ◌∙◌, arith}
use Rattle.std.proofs.lemmas.Result.{err_from_is_err_and}
use Rattle.byte_io.proofs.AtLaws.{of_more}
use Rattle.msf_blocks.proofs.RefusedLaws.{count_refused, sizes_refused, lists_refused}
use Rattle.msf_blocks.proofs.without_memory.check_length.Goals as goal

pub returns-then-have-lt4-clause-refused : goal.returns-then-have-lt4-clause-refused
returns-then-have-lt4-clause-refused g c =
    let have : c.from-have.result ≡ c.args.superblock.now.directory_bytes = c.from-have.ensures ∙ c.directory_bytes.ensures.value in
    rw have (count_refused (g.R.ReadAt.bytes c.args.input.now) c.args.superblock.now (omega (arith, have, c.if-have-lt4.true)))

pub returns-then-have-need-clause-refused : goal.returns-then-have-need-clause-refused
returns-then-have-need-clause-refused g c =
    let have : c.from-have.result ≡ c.args.superblock.now.directory_bytes = c.from-have.ensures ∙ c.directory_bytes.ensures.value in
    rw (have, c.from.ensures) (sizes_refused (g.R.ReadAt.bytes c.args.input.now) c.args.superblock.now c.in-Some.streams c.in-Some.ensures.given (omega (arith, have, c.if-have-lt4.false)) (omega (arith, have, c.from.ensures, c.if-have-need.true)))

pub returns-in_err-check_end-clause-refused : goal.returns-in_err-check_end-clause-refused
returns-in_err-check_end-clause-refused g c =
    let p = err_from_is_err_and c.from_residual.result c.from_residual.ensures.1 in
    let e = c.in-Some.ensures in
    let have : c.from-have.result ≡ c.args.superblock.now.directory_bytes = c.from-have.ensures ∙ c.directory_bytes.ensures.value in
    rw (p.1, p.2) (of_more _ _ c.in_err-check_end.field-0.0 (λ fault lacks.
    lists_refused (g.R.ReadAt.bytes c.args.input.now) c.args.superblock.now c.in-Some.streams fault e.given (rw (e.reads.keeps, c.from-2.ensures) at lacks) (omega (arith, have, c.from.ensures, c.if-have-need.false))) c.in_err-check_end.ensures.refused)
