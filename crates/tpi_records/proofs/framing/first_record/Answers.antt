use Rattle.std.proofs.Common.{drop, sym}
use Rattle.std.proofs.lemmas.List.{take-append-drop}
use Rattle.tpi_records.proofs.FramingLaws.{front_unflawed}
use Rattle.tpi_records.proofs.framing.first_record.Goals as goal

pub returns-in_err-len-clause-found : goal.returns-in_err-len-clause-found
returns-in_err-len-clause-found c = λ r begins.
    absurd (front_unflawed c.args.bytes.now r c.args.index _ begins c.in_err-len.ensures.first)

pub returns-clause-value : goal.returns-clause-value
returns-clause-value c =
    let bytes = c.args.bytes.now in
    let len = c.in_ok-len.len in
    record { is_record = c.in_ok-len.ensures.value; rest = drop len bytes; parts = sym (take-append-drop len bytes) }
