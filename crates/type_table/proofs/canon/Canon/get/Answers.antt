use Rattle.std.proofs.Common.{◌<◌, ◌≤◌, length, rules, sym}
use Rattle.std.proofs.lemmas.Option.{slice_get_past}
use Rattle.type_table.proofs.canon.Canon.get.Goals as goal

pub returns-then-position-len-clause-checked : goal.returns-then-position-len-clause-checked
returns-then-position-len-clause-checked g c =
    let inside : c.args.position < length c.self.inside.texts = search rules in
    rw c.get.ensures (c.self.invariant.table.good.checked c.args.position inside)

pub returns-clause-value : goal.returns-clause-value
returns-clause-value g c =
    let past : length c.args.self.now ≤ c.args.position = search rules in
    sym (slice_get_past c.args.self.now c.args.position past)
