use Rattle.std.proofs.Common.{rules, ◌<◌, length}
use Rattle.type_changes.proofs.KeyLaws.{near_end}
use Rattle.type_changes.proofs.key.name_place.Goals as goal

pub returns-in-5382-clause-near : goal.returns-in-5382-clause-near
returns-in-5382-clause-near c =
    let short : length c.body_of-body.result.now < 131072 = search rules in
    near_end c.body_of-body.result.now 8 c.after_numeric.result c.after_numeric.ensures short

pub returns-in_default-clause-near : goal.returns-in_default-clause-near
returns-in_default-clause-near c =
    let short : length c.body_of-body.result.now < 131072 = search rules in
    near_end c.body_of-body.result.now 16 c.after_numeric-in_default.result c.after_numeric-in_default.ensures short
