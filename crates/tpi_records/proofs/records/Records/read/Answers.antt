use Rattle.std.proofs.Common.{inl, inr, refl}
use Rattle.std.proofs.lemmas.Result.{err_from_is_err_and}
use Rattle.tpi_records.specs.Records.{records_in}
use Rattle.tpi_records.proofs.StreamLaws.{no_fault, framed_fault, framed_has, framed_few}
use Rattle.tpi_records.proofs.records.Records.read.Goals as goal

pub returns-in_err-header-clause-found : goal.returns-in_err-header-clause-found
returns-in_err-header-clause-found g c =
    let p = err_from_is_err_and c.from_residual.result c.from_residual.ensures.1 in
    rw (p.1, p.2) (λ records has. absurd (no_fault c.args.stream.now records _ has (inl c.in_err-header.ensures.first)))

pub returns-in_err-kept-clause-first : goal.returns-in_err-kept-clause-first
returns-in_err-kept-clause-first g c =
    let p = err_from_is_err_and c.from_residual-in_err-kept.result c.from_residual-in_err-kept.ensures.1 in
    rw (p.1, p.2) (inl (framed_fault c.args.stream.now c.framed_bytes-bytes.result.now c.in_ok-header.header c.count-count.result _
    c.framed_bytes-bytes.ensures.value c.in_ok-header.ensures.value c.count-count.ensures c.in_err-kept.ensures.first))

pub returns-in_err-kept-clause-found : goal.returns-in_err-kept-clause-found
returns-in_err-kept-clause-found g c =
    let p = err_from_is_err_and c.from_residual-in_err-kept.result c.from_residual-in_err-kept.ensures.1 in
    rw (p.1, p.2) (λ records has. absurd (no_fault c.args.stream.now records _ has
    (framed_fault c.args.stream.now c.framed_bytes-bytes.result.now c.in_ok-header.header c.count-count.result _
    c.framed_bytes-bytes.ensures.value c.in_ok-header.ensures.value c.count-count.ensures c.in_err-kept.ensures.first)))

pub returns-then-not-kept-clause-first : goal.returns-then-not-kept-clause-first
returns-then-not-kept-clause-first g c =
    let bytes = c.framed_bytes-bytes.result.now in
    inr (
      refl,
      (
        records_in bytes,
        framed_has c.args.stream.now bytes c.in_ok-header.header c.count-count.result
            c.framed_bytes-bytes.ensures.value c.in_ok-header.ensures.value c.count-count.ensures c.in_ok-kept.ensures.framed c.in_ok-kept.ensures.counted,
      ),
    )

pub returns-clause-value : goal.returns-clause-value
returns-clause-value g c =
    framed_has c.args.stream.now c.framed_bytes-bytes.result.now c.in_ok-header.header c.count-count.result
    c.framed_bytes-bytes.ensures.value c.in_ok-header.ensures.value c.count-count.ensures c.in_ok-kept.ensures.framed c.in_ok-kept.ensures.counted

pub returns-clause-few : goal.returns-clause-few
returns-clause-few g c = framed_few c.args.stream.now c.framed_bytes-bytes.result.now (returns-clause-value g c) c.in_ok-kept.ensures.framed
