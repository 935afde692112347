use Rattle.std.proofs.Common.{◌∙◌, ap, arith, length}
use Rattle.text_set.proofs.ChangeLaws.{many_written, others_written, text_written}
use Rattle.text_set.proofs.place.change_last.Goals as goal

pub returns-clause-others : goal.returns-clause-others
returns-clause-others g c = others_written c.args.texts.now c.args.last c.write_over.new.text

pub returns-clause-many : goal.returns-clause-many
returns-clause-many g c = many_written c.args.texts.now c.args.last c.write_over.new.text ∙ c.requires.last

pub returns-clause-same : goal.returns-clause-same
returns-clause-same g c = λ is.
    let long = c.write_over.ensures.same is ∙ ap length c.get_mut.ensures.value in
    ap length (text_written c.args.texts.now c.args.last c.write_over.new.text (omega (arith, c.requires.last)) long) ∙ long

pub returns-clause-made : goal.returns-clause-made
returns-clause-made g c = λ is.
    let long = c.write_over.ensures.same is ∙ ap length c.get_mut.ensures.value in
    rw (text_written c.args.texts.now c.args.last c.write_over.new.text (omega (arith, c.requires.last)) long, ← c.get_mut.ensures.value) (c.write_over.ensures.made is)
