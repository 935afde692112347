use Rattle.std.proofs.Common.{◌∙◌, sym, inl, inr}
use Rattle.std.specs.Prelude.{string_bytes}
use Rattle.show_commands.proofs.ShowLaws.{fault_known, layout_refused, refused_of, text_known, texts_refused}
use Rattle.show_commands.proofs.command.text_at.Goals as goal

pub text_of-requires-clause-layout : goal.text_of-requires-clause-layout
text_of-requires-clause-layout g c = λ file known. c.in-Ok.ensures.value file (sym c.in-Ok.ensures.reads.keeps ∙ known)

pub returns-in-Err-Of-Of-clause-first : goal.returns-in-Err-Of-Of-clause-first
returns-in-Err-Of-Of-clause-first g c = λ file known.
    let e = c.in-Err-Of-Of in
    let of = rw e.field-0-is at e.field-0-0-is in
    let first = rw (e.field-0-is, of) at e.ensures.first in
    layout_refused (g.C.Show.refuses c.args.command.now) c.args.limit file e.fault c.from.result c.from-in-Err-Of-Of.result (g.met.C.Show.refuses_layout c.args.command.now) (e.ensures.small file known) (rw (e.field-0-is, of) at c.from.ensures) c.from-in-Err-Of-Of.ensures (first file known)

pub returns-in-Err-Of-Of-clause-refused : goal.returns-in-Err-Of-Of-clause-refused
returns-in-Err-Of-Of-clause-refused g c =
    let e = c.in-Err-Of-Of in
    let bytes = g.R.ReadAt.bytes c.args.input.now in
    let of = rw e.field-0-is at e.field-0-0-is in
    let refused = refused_of c.args.limit bytes e.field-0-0 e.fault of (rw e.field-0-is at e.ensures.refused) in
    elim (texts_refused bytes e.fault c.from.result c.from-in-Err-Of-Of.result (rw (e.field-0-is, of) at c.from.ensures) c.from-in-Err-Of-Of.ensures refused) [
      | inl bad ↦ inl (inr (inl bad))
      | inr want ↦ inr want
    ]

pub returns-clause-value : goal.returns-clause-value
returns-clause-value g c =
    let e = c.in-Ok.ensures in
    let command = c.args.command.now in
    text_known string_bytes (g.C.Show.shows command) (g.C.Show.shows_read command) c.args.limit (g.R.ReadAt.bytes c.args.input.now) c.in-Ok.layout c.text_of.result (g.met.C.Show.shows_known command) e.small e.value e.short (rw e.reads.keeps at c.text_of.ensures.texts)

pub returns-clause-first : goal.returns-clause-first
returns-clause-first g c =
    let e = c.in-Ok.ensures in
    let command = c.args.command.now in
    fault_known (g.C.Show.refuses command) (g.C.Show.refuses_read command) c.args.limit (g.R.ReadAt.bytes c.args.input.now) c.in-Ok.layout c.text_of.result (g.met.C.Show.refuses_known command) e.small e.value e.short (rw e.reads.keeps at c.text_of.ensures.refused)
