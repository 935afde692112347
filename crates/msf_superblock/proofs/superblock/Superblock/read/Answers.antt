use Rattle.std.proofs.Common.{◌≤◌, ◌∙◌, take, length, arith, refl}
use Rattle.std.proofs.lemmas.List.{length-take}
use Rattle.std.proofs.lemmas.Result.{err_from_is_err_and}
use Rattle.msf_superblock.proofs.FrontLaws.{front_stands, superblock_read, fields_read, checks_read, short_file}
use Rattle.msf_superblock.proofs.FrontLaws.{superblock_holds}
use Rattle.msf_superblock.proofs.superblock.Superblock.read.Goals as goal

pub returns-then-file-lt-LENGTH-clause-first : goal.returns-then-file-lt-LENGTH-clause-first
returns-then-file-lt-LENGTH-clause-first c = short_file c.args.file.now (omega (arith, c.if-file-lt-LENGTH.true))

pub returns-in_err-superblock-clause-found : goal.returns-in_err-superblock-clause-found
returns-in_err-superblock-clause-found c = λ fields is.
    let file = c.args.file.now in
    let long : 56 ≤ length file = omega (arith, c.if-file-lt-LENGTH.false) in
    let none = superblock_holds file fields is in
    let some = checks_read file (take 56 file) (front_stands file (take 56 file) long refl) (omega (arith, long, length-take 56 file)) ∙ c.in_err-superblock.ensures.first in
    absurd cc

pub returns-in_err-superblock-clause-first : goal.returns-in_err-superblock-clause-first
returns-in_err-superblock-clause-first c =
    let file = c.args.file.now in
    let long : 56 ≤ length file = omega (arith, c.if-file-lt-LENGTH.false) in
    let p = err_from_is_err_and c.from_residual.result c.from_residual.ensures.1 in
    rw (p.1, p.2) (checks_read file (take 56 file) (front_stands file (take 56 file) long refl) (omega (arith, long, length-take 56 file)) ∙ c.in_err-superblock.ensures.first)

pub returns-clause-value : goal.returns-clause-value
returns-clause-value c =
    let file = c.args.file.now in
    let s = c.in_ok-superblock.ensures in
    let long : 56 ≤ length file = omega (arith, c.if-file-lt-LENGTH.false) in
    superblock_read file (take 56 file) c.in_ok-superblock.superblock (length file) (front_stands file (take 56 file) long refl) (omega (arith, long, length-take 56 file)) refl s.magical s.fields s.whole s.fit

pub returns-clause-fields : goal.returns-clause-fields
returns-clause-fields c =
    let file = c.args.file.now in
    let long : 56 ≤ length file = omega (arith, c.if-file-lt-LENGTH.false) in
    c.in_ok-superblock.ensures.fields ∙ fields_read file (take 56 file) (front_stands file (take 56 file) long refl) (omega (arith, long, length-take 56 file))

pub returns-clause-first : goal.returns-clause-first
returns-clause-first c =
    let file = c.args.file.now in
    let long : 56 ≤ length file = omega (arith, c.if-file-lt-LENGTH.false) in
    checks_read file (take 56 file) (front_stands file (take 56 file) long refl) (omega (arith, long, length-take 56 file)) ∙ c.in_ok-superblock.ensures.first
