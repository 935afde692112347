use Rattle.text_set.proofs.TextKeyLaws.{keys_first}
use Rattle.text_set.proofs.TextSetLaws.{distinct_first}
use Rattle.text_set.proofs.set.TextSet.truncate.Goals as goal

pub invariant_of-self : goal.invariant_of-self
invariant_of-self g c =
    let inside = rw (← c.self.view_is) at c.requires.inside in (
      rw c.truncate.ensures (distinct_first c.self.inside.texts c.args.len inside c.self.invariant.0),
      rw (c.truncate.ensures, c.truncate-2.ensures.keys) (keys_first _ c.self.inside.texts c.self.inside.keys.keys c.args.len c.self.invariant.1 inside (rw c.truncate-2.ensures.keys at c.truncate-2.ensures.unique)),
    )
