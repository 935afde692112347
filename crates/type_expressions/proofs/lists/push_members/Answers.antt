use Rattle.std.proofs.Common.{◌≡◌, length, drop, arith}
use Rattle.std.proofs.Math.Seq.{take-append_seam}
use Rattle.type_expressions.proofs.SpanLaws.{spans_marked}
use Rattle.type_expressions.proofs.lists.push_members.Goals as goal

pub mark-requires : goal.mark-requires
mark-requires g c = λ b has.
    let begun = c.in_ok-walk_lists.ensures.begun b (rw c.deref-2.ensures.value at has) in
    rw c.deref_mut.ensures.value (omega (arith, begun.there, c.requires.lists.0.many))

pub returns-clause-lists : goal.returns-clause-lists
returns-clause-lists g c =
    let spans = c.args.lists.now.spans in
    let after = c.mark.new.spans in
    let many : length after ≡ length spans.items = rw c.deref_mut.ensures.value at c.mark.ensures.many in
    let whole : spans.len ≡ length after = grind arith in
    let end : c.len.result ≡ length c.walk_lists.new.text.items = grind arith in (
      rw (whole, take-append_seam after (drop (length after) spans.items))
          (spans_marked c.args.types.now c.walk_lists.new.text.items spans.items after c.walk_lists.new.walk.items (rw c.deref.ensures.value at c.in_ok-walk_lists.ensures.spans) c.in_ok-walk_lists.ensures.begun many
          (rw (c.deref_mut.ensures.value, c.deref-2.ensures.value, end) at c.mark.ensures.marks)),
      c.clear.ensures.items,
    )
