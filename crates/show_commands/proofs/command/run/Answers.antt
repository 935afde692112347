use Rattle.std.proofs.lemmas.Result.{err_from_is_err_and}
use Rattle.show_commands.proofs.ShowLaws.{text_refused}
use Rattle.show_commands.proofs.command.run.Goals as goal

pub returns-in_err-text : goal.returns-in_err-text
returns-in_err-text g c =
    let p = err_from_is_err_and c.from_residual-in_err-text.result c.from_residual-in_err-text.ensures.1 in
    let first = rw c.deref.ensures.value at c.in_err-text.ensures.first in
    rw (p.1, p.2) (text_refused (g.C.Show.shows c.args.command.now) (g.C.Show.refuses c.args.command.now) c.args.limit (g.R.Source.left c.args.input.now) (g.R.Source.left c.read_all.new.input) (g.R.Source.is_broken c.read_all.new.input) g.W.Sink.taken g.W.Sink.is_broken c.args.out.now
    c.in_ok-file.file.items c.in_err-text.field-0.0 c.in_ok-file.ensures.value first c.in_err-text.ensures.pure)
