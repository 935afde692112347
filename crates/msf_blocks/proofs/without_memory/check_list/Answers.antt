use Rattle.std.proofs.lemmas.Result.{err_from_is_err_and}
use Rattle.byte_io.proofs.AtLaws.{of_more}
use Rattle.msf_blocks.proofs.RefusedLaws.{more_lists, rest_refused, list_refused}
use Rattle.msf_blocks.proofs.without_memory.check_list.Goals as goal

pub returns-in-Ok-clause-lists : goal.returns-in-Ok-clause-lists
returns-in-Ok-clause-lists g c =
    more_lists (g.R.ReadAt.bytes c.args.input.now) c.args.superblock.now c.args.streams c.args.stream c.args.start c.in-Some.count c.requires.lists c.in-Some.ensures.size (rw c.in-Some.ensures.reads.keeps at c.in-Ok.ensures.listed)

pub returns-in_err-check_end-in-Err-Of-clause-refused : goal.returns-in_err-check_end-in-Err-Of-clause-refused
returns-in_err-check_end-in-Err-Of-clause-refused g c =
    let p = err_from_is_err_and c.from_residual.result c.from_residual.ensures.1 in
    rw (p.1, p.2) (of_more _ _ c.in_err-check_end-in-Err-Of.field-0.0 (λ fault lacks.
    rest_refused (g.R.ReadAt.bytes c.args.input.now) c.args.superblock.now c.args.streams c.args.stream c.args.start c.in-Some.count fault c.requires.lists c.in-Some.ensures.size
    (rw (c.in-Err-Of.ensures.reads.keeps, c.in-Some.ensures.reads.keeps, c.from.ensures, c.from-in-Err-Of.ensures) at lacks) c.requires.few) c.in_err-check_end-in-Err-Of.ensures.refused)

pub returns-in_ok-check_end-in-Err-Of-clause-refused : goal.returns-in_ok-check_end-in-Err-Of-clause-refused
returns-in_ok-check_end-in-Err-Of-clause-refused g c =
    let e = c.in-Err-Of.ensures in
    list_refused (g.R.ReadAt.bytes c.args.input.now) c.args.superblock.now c.args.streams c.args.stream c.args.start c.in-Some.count c.in-Err-Of.fault c.requires.lists c.in-Some.ensures.size
    (rw (e.reads.keeps, c.in-Some.ensures.reads.keeps, c.from.ensures, c.from-in-Err-Of.ensures) at c.in_ok-check_end-in-Err-Of.ensures.room) (rw (c.in-Err-Of.field-0-is, c.in-Some.ensures.reads.keeps) at e.refused)
