use Rattle.std.proofs.Common.{List, ℕ}
use Rattle.type_trees.specs.Types.{AreTypes}
use Rattle.type_changes.proofs.TypeLaws.{lacked_noted}
use Rattle.type_changes.proofs.names.lacked_names.Goals as goal

pub returns-clause-gone : goal.returns-clause-gone
returns-clause-gone g c = λ trees others are other_are.
    let h = λ (x : List ℕ). g.S.Hasher.Hasher.finish (g.S.Hasher.Hasher.write (g.S.BuildHasher.build_hasher c.args.hasher) x) in
    let types : AreTypes c.args.first.now = c.note_lacked.ensures.types in
    lacked_noted c.args.first.now c.args.second.now trees others c.in_ok-difference.difference.first.items h c.note_lacked-2.new.names.keys types are other_are c.in_ok-difference.ensures.first (λ i below differs. c.in_ok-note_lacked-2.ensures.kept _ (c.in_ok-note_lacked.ensures.noted i below (rw c.deref.ensures.value differs)))

pub returns-clause-come : goal.returns-clause-come
returns-clause-come g c = λ trees others are other_are.
    let h = λ (x : List ℕ). g.S.Hasher.Hasher.finish (g.S.Hasher.Hasher.write (g.S.BuildHasher.build_hasher c.args.hasher) x) in
    let types : AreTypes c.args.second.now = c.note_lacked-2.ensures.types in
    lacked_noted c.args.second.now c.args.first.now others trees c.in_ok-difference.difference.second.items h c.note_lacked-2.new.names.keys types other_are are c.in_ok-difference.ensures.second (λ i below differs. c.in_ok-note_lacked-2.ensures.noted i below (rw c.deref-2.ensures.value differs))
