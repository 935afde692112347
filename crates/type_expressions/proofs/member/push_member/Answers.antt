use Rattle.std.proofs.Common.{rules, ◌≡◌, true}
use Rattle.output_words.specs.Bounded.{cut}
use Rattle.type_expressions.specs.Member.{names_type}
use Rattle.type_expressions.specs.Expression.{IsTold}
use Rattle.type_expressions.proofs.TellLaws.{on_ok}
use Rattle.type_expressions.proofs.MemberLaws.{lined}
use Rattle.type_expressions.proofs.member.push_member.Goals as goal

pub returns : goal.returns
returns g c = record {
  value = λ words told.
      let m = c.args.member.now in
      let names : names_type m ≡ true = search rules in
      let here : IsTold c.args.types.now 8 c.u32_in.result words = rw c.u32_in.ensures (told names) in
      on_ok _ _ c.push_type.result
      (λ more. lined m (cut 400 words) c.args.text.now.items c.push_place.new.text.items c.add.new.text.items c.push_what.new.text.items c.push_name.new.text.items c.add-2.new.text.items c.push_type.new.text.items
      c.in_ok-push_place.ensures c.in_ok-add.ensures c.in_ok-push_what.ensures c.in_ok-push_name.ensures names c.in_ok-add-2.ensures more) (c.push_type.ensures words here);
}
