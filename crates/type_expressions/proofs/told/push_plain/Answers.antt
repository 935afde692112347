use Rattle.std.proofs.Common.{rules, ◌≡◌, codes}
use Rattle.std.specs.Fmt.{decimal}
use Rattle.cv_leaves.specs.Checks.{kind_of, body_of}
use Rattle.type_expressions.specs.Field.{number_in}
use Rattle.type_expressions.proofs.KindLaws.{plain-shape, plain-label, plain-table}
use Rattle.output_words.proofs.TakeLaws.{take_more}
use Rattle.type_expressions.proofs.TellLaws.{on_ok}
use Rattle.type_expressions.proofs.told.push_plain.Goals as goal

pub returns-in_ok-push-in-10-clause-value : goal.returns-in_ok-push-in-10-clause-value
returns-in_ok-push-in-10-clause-value g c =
    let r = c.args.record.now in
    let kind : kind_of r ≡ 0x000A = search rules in
    let number : c.from.result ≡ number_in 2 (body_of r) 0 = search rules in
    rw (plain-shape r kind) (on_ok _ _ c.push_number.result (λ more. take_more c.args.end c.args.text.now.items (codes "virtual table of ") (decimal (number_in 2 (body_of r) 0)) c.push.new.text.items c.push_number.new.text.items c.in_ok-push-in-10.ensures.value (rw number at more)) c.push_number.ensures.value)

pub returns-in-14-clause-value : goal.returns-in-14-clause-value
returns-in-14-clause-value g c =
    let kind : kind_of c.args.record.now ≡ 0x000E = search rules in
    rw (plain-label c.args.record.now kind) c.push-in-14.ensures.value

pub returns-in-5405-clause-value : goal.returns-in-5405-clause-value
returns-in-5405-clause-value g c =
    let kind : kind_of c.args.record.now ≡ 0x151D = search rules in
    rw (plain-table c.args.record.now kind) c.push-in-5405.ensures.value
