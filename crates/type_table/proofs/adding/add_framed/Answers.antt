use Rattle.std.proofs.Common.{◌∙◌, length, drop, sym, arith, rules}
use Rattle.std.proofs.lemmas.Bool.{eqb-true}
use Rattle.type_table.specs.Merge.{IsPut}
use Rattle.type_table.proofs.FramedLaws.{framed_starts, framed_more, framed_ends, split_front}
use Rattle.type_table.proofs.adding.add_framed.Goals as goal

pub loop-places-init : goal.loop-places-init
loop-places-init g c = framed_starts c.args.bytes.now c.args.records.now c.reserve.new.self.items c.requires.table (search)

pub loop-places-preserved : goal.loop-places-preserved
loop-places-preserved g c =
    let so_far = c.loop-places in
    let left = so_far.left.now in
    let r = c.in-Ok.record.now in
    let put : IsPut so_far.records c.put_record.new.records so_far.numbers.items r c.in-Some.found = rw c.deref.ensures.value at (rw c.in-Some.is at c.in_ok-found.ensures.put) in
    rw (c.split_at.ensures.back, c.in_ok-push.ensures.items) (framed_more c.args.bytes.now left r (drop (length r) left) c.args.records.now so_far.records c.put_record.new.records so_far.numbers.items c.in-Some.found
    c.requires.short c.requires.few so_far.invariant c.in-Ok.ensures.value.is_record (split_front left r c.in-Ok.ensures.value) put)

pub returns-clause-added : goal.returns-clause-added
returns-clause-added g c all =
    let so_far = c.loop-places in
    framed_ends c.args.bytes.now so_far.left.now c.args.records.now so_far.records so_far.numbers.items c.args.count c.requires.short c.requires.few so_far.invariant (eqb-true (length so_far.left.now) 0 (sym c.is_empty.ensures ∙ c.loop-places-test.false)) (omega (arith, so_far.numbers.ok.0, c.len.ensures, eqb-true c.len.result c.args.count all)) (search (rules, c.requires.few))
