use Rattle.type_trees.specs.Types.{AreTypes}
use Rattle.type_expressions.proofs.AskedLaws.{all_trees}
use Rattle.show_commands.proofs.MembersLaws.{shows_members}
use Rattle.show_commands.proofs.members.members_text.Goals as goal

pub returns-clause-value : goal.returns-clause-value
returns-clause-value g c =
    let records = c.in-Ok.types in
    let types : AreTypes records = rw c.index.ensures at (rw c.types.view_is at c.types.invariant.measured.types) in
    let all = all_trees records types in
    shows_members (g.I.Inputs.known c.args.inputs.now) records all.0 c.args.asked.now c.find_asked.new.asked c.push_definitions.new.text.items types all.1 c.in-Ok.ensures.value
    (c.find_asked.ensures all.0 (rw c.index.ensures all.1)) (rw c.new-text.ensures.items at (c.in_ok-push_definitions.ensures all.0 (rw c.index.ensures all.1)))
