use Rattle.std.proofs.Common.{◌+◌, refl, arith, sym, inr, ◌∙◌}
use Rattle.std.proofs.lemmas.List.{length-drop}
use Rattle.byte_fields.proofs.NumberLaws.{number_at-drop}
use Rattle.tpi_records.proofs.FramingLaws.{is_record}
use Rattle.tpi_records.proofs.framing.record_len.Goals as goal
use Rattle.tpi_records.proofs.framing.record_len.Goals.{then-len-lt2-via-then-len-lt2, then-len-lt2-via-else-len-lt2+then-whole-ne0}

pub returns-then-len-lt2-clause-first : goal.returns-then-len-lt2-clause-first
returns-then-len-lt2-clause-first c =
    let field = c.from-len.ensures ∙ c.u16_at-len.ensures ∙ sym (number_at-drop 2 c.args.bytes.now c.args.start) in (
      refl,
      omega (arith, length-drop c.args.start c.args.bytes.now),
      field,
      λ h. elim c.then-len-lt2.branch [
        | then-len-lt2-via-then-len-lt2 w ↦ omega (arith, h.0)
        | then-len-lt2-via-else-len-lt2+then-whole-ne0 w ↦ omega (arith, h.1)
      ],
    )

pub returns-then-left-whole-clause-first : goal.returns-then-left-whole-clause-first
returns-then-left-whole-clause-first c =
    let field = number_at-drop 2 c.args.bytes.now c.args.start in
    (refl, inr ((omega (arith, field), omega (arith, field)), omega (arith, field, length-drop c.args.start c.args.bytes.now)))

pub returns-clause-value : goal.returns-clause-value
returns-clause-value c = is_record c.args.bytes.now c.args.start (c.from-whole.result + 2) (omega arith) (omega arith) (omega (arith, c.if-whole-ne0.false)) c.if-whole-ne0.false (omega arith)
