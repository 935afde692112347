use Rattle.std.proofs.Common.{◌∙◌, subst, arith}
use Rattle.byte_fields.specs.Bytes.{AreBytes}
use Rattle.text_set.specs.TextSet.{Holds}
use Rattle.type_table.proofs.CanonTableLaws.{bytes_each}
use Rattle.type_table.proofs.adding.put_record.Goals as goal

pub returns-clause-put : goal.returns-clause-put
returns-clause-put g c =
    let before = c.args.records.now in
    let after = c.intern_changed.new.self in
    let position = c.in-Some.position in
    let found = rw c.in-Some.is at c.in_ok-position.ensures.found in
    let made = found.made in
    record {
      checked = c.in_ok-list_places.ensures.checked c.if-not-branch.false;
      there = made.there;
      inside = found.inside;
      at = found.at ∙ made.value;
      holds = subst (Holds before after) made.value found.holds;
      bytes = subst AreBytes (found.at ∙ made.value) (bytes_each after (rw c.bytes.ensures.value at c.are_bytes.ensures) position found.inside);
      small = omega (arith, found.inside, c.in_ok-position.ensures.small);
    }
