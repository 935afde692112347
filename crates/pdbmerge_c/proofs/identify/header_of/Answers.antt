use Rattle.std.proofs.Common.{◌≡◌, ◌∷◌, refl, rules}
use Rattle.std.specs.List.{concat}
use Rattle.std.proofs.lemmas.Result.{err_from_is_err_and}
use Rattle.pdbmerge_c.proofs.HeaderLaws.{header_in_front, short_header, short_stream}
use Rattle.pdbmerge_c.proofs.identify.header_of.Goals as goal

pub returns-in_err-read-clause-first : goal.returns-in_err-read-clause-first
returns-in_err-read-clause-first c =
    let p = err_from_is_err_and c.from_residual-in_err-read.result c.from_residual-in_err-read.ensures.1 in
    let front = c.in-Some-next.first.now in
    let others = c.next.new.self in
    let split : c.in-Some.found ≡ front ∷ others = search rules in
    let contents = rw (c.in_ok-stream.ensures.value, split) at c.in-Some.ensures.bytes in
    let short = short_header front c.in_err-read.field-0.0 c.in_err-read.ensures.first in
    rw (p.1, p.2, short.0) (short_stream c.args.file.now c.args.layout.now front others contents (rw split at c.in-Some.ensures.first) short.1, refl)

pub returns-clause-value : goal.returns-clause-value
returns-clause-value c =
    let front = c.in-Some-next.first.now in
    let others = c.next.new.self in
    let split : c.in-Some.found ≡ front ∷ others = search rules in
    let contents = rw (c.in_ok-stream.ensures.value, split) at c.in-Some.ensures.bytes in
    (concat (front ∷ others), contents, header_in_front front (concat others) c.in_ok-read.field-0 c.in_ok-read.ensures.value)
