use Rattle.std.proofs.Common.{◌∙◌, arith}
use Rattle.std.proofs.lemmas.Result.{err_from_is_err_and}
use Rattle.msf_superblock.proofs.FrontLaws.{superblock_read, fields_read, checks_read, short_file}
use Rattle.msf_superblock.proofs.superblock.Superblock.read_at.Goals as goal

pub returns-then-have-clause-first : goal.returns-then-have-clause-first
returns-then-have-clause-first g c = λ file known.
    short_file file (let e = c.len-have.ensures.value file known in let lt = c.if-have.true in omega (arith, e, lt))

pub returns-in_err-superblock-clause-first : goal.returns-in_err-superblock-clause-first
returns-in_err-superblock-clause-first g c =
    let p = err_from_is_err_and c.from_residual.result c.from_residual.ensures.1 in
    rw (p.1, p.2) (λ file known.
    checks_read file c.read_at.new.into (c.in-Some.ensures.value file known) c.in-Some.ensures.same ∙ rw (← c.len-have.ensures.value file known) c.in_err-superblock.ensures.first)

pub returns-clause-value : goal.returns-clause-value
returns-clause-value g c = λ file known.
    let s = c.in_ok-superblock.ensures in
    superblock_read file c.read_at.new.into c.in_ok-superblock.superblock c.len-have.result (c.in-Some.ensures.value file known) c.in-Some.ensures.same (c.len-have.ensures.value file known) s.magical s.fields s.whole s.fit

pub returns-clause-fields : goal.returns-clause-fields
returns-clause-fields g c = λ file known.
    c.in_ok-superblock.ensures.fields ∙ fields_read file c.read_at.new.into (c.in-Some.ensures.value file known) c.in-Some.ensures.same

pub returns-clause-held : goal.returns-clause-held
returns-clause-held g c = λ file known.
    checks_read file c.read_at.new.into (c.in-Some.ensures.value file known) c.in-Some.ensures.same ∙ rw (← c.len-have.ensures.value file known) c.in_ok-superblock.ensures.first

pub returns-clause-front : goal.returns-clause-front
returns-clause-front g c =
    let s = c.in_ok-superblock.ensures in
    (c.read_at.new.into, c.in-Some.ensures.given, record { count = c.in-Some.ensures.same; fields_are = s.fields; sound = rw c.len-have.ensures.told at s.first })
