use Rattle.type_difference.proofs.DifferenceLaws.{numbers_tell, marks_tell}
use Rattle.type_table.proofs.MapLaws.{numbers_still, numbers_below}
use Rattle.type_difference.proofs.difference.compare.Goals as goal

pub mark-requires : goal.mark-requires
mark-requires g c =
    let theirs = c.in_ok-theirs.ensures in
    rw (c.deref.ensures.value, c.len-many.ensures.value) (numbers_below c.args.second.now c.number_types-2.new.set c.in_ok-theirs.theirs.items theirs.types.ranked.0 theirs.types.ranked.1 theirs.numbers)

pub standings-requires-clause-inside : goal.standings-requires-clause-inside
standings-requires-clause-inside g c =
    let ours = c.in_ok-ours.ensures in
    let still = numbers_still c.args.first.now c.number_types.new.set c.number_types-2.new.set c.in_ok-ours.ours.items ours.numbers c.in_ok-theirs.ensures.front in
    rw (c.deref-2.ensures.value, c.deref-3.ensures.value, c.in_ok-marks.ensures.many, c.len-many.ensures.value) (numbers_below c.args.first.now c.number_types-2.new.set c.in_ok-ours.ours.items ours.types.ranked.0 ours.types.ranked.1 still)

pub standings-requires-clause-apart : goal.standings-requires-clause-apart
standings-requires-clause-apart g c =
    let ours = c.in_ok-ours.ensures in
    let still = numbers_still c.args.first.now c.number_types.new.set c.number_types-2.new.set c.in_ok-ours.ours.items ours.numbers c.in_ok-theirs.ensures.front in
    rw c.deref-2.ensures.value (numbers_tell c.args.first.now c.number_types-2.new.set c.in_ok-ours.ours.items ours.types c.in_ok-theirs.ensures.added.table still)

pub mark-requires-2 : goal.mark-requires-2
mark-requires-2 g c =
    let ours = c.in_ok-ours.ensures in
    let still = numbers_still c.args.first.now c.number_types.new.set c.number_types-2.new.set c.in_ok-ours.ours.items ours.numbers c.in_ok-theirs.ensures.front in
    rw (c.deref-4.ensures.value, c.len-many.ensures.value) (numbers_below c.args.first.now c.number_types-2.new.set c.in_ok-ours.ours.items ours.types.ranked.0 ours.types.ranked.1 still)

pub standings-requires-2-clause-inside : goal.standings-requires-2-clause-inside
standings-requires-2-clause-inside g c =
    let theirs = c.in_ok-theirs.ensures in
    rw (c.deref-5.ensures.value, c.deref-6.ensures.value, c.in_ok-marks-2.ensures.many, c.len-many.ensures.value) (numbers_below c.args.second.now c.number_types-2.new.set c.in_ok-theirs.theirs.items theirs.types.ranked.0 theirs.types.ranked.1 theirs.numbers)

pub standings-requires-2-clause-apart : goal.standings-requires-2-clause-apart
standings-requires-2-clause-apart g c =
    let theirs = c.in_ok-theirs.ensures in
    rw c.deref-5.ensures.value (numbers_tell c.args.second.now c.number_types-2.new.set c.in_ok-theirs.theirs.items theirs.types theirs.added.table theirs.numbers)

pub returns-clause-first : goal.returns-clause-first
returns-clause-first g c =
    let ours = c.in_ok-ours.ensures in
    let theirs = c.in_ok-theirs.ensures in
    let still = numbers_still c.args.first.now c.number_types.new.set c.number_types-2.new.set c.in_ok-ours.ours.items ours.numbers theirs.front in
    c.in_ok-of_first.ensures c.args.second.now
    (rw (c.deref-2.ensures.value, c.deref-3.ensures.value) (marks_tell c.args.first.now c.args.second.now c.number_types-2.new.set c.in_ok-ours.ours.items c.in_ok-theirs.theirs.items c.in_ok-marks.marks.items theirs.types theirs.added.table still theirs.numbers
    (rw c.deref.ensures.value at c.in_ok-marks.ensures.value)))

pub returns-clause-second : goal.returns-clause-second
returns-clause-second g c =
    let ours = c.in_ok-ours.ensures in
    let theirs = c.in_ok-theirs.ensures in
    let still = numbers_still c.args.first.now c.number_types.new.set c.number_types-2.new.set c.in_ok-ours.ours.items ours.numbers theirs.front in
    c.in_ok-of_second.ensures c.args.first.now
    (rw (c.deref-5.ensures.value, c.deref-6.ensures.value) (marks_tell c.args.second.now c.args.first.now c.number_types-2.new.set c.in_ok-theirs.theirs.items c.in_ok-ours.ours.items c.in_ok-marks-2.marks.items ours.types theirs.added.table theirs.numbers still
    (rw c.deref-4.ensures.value at c.in_ok-marks-2.ensures.value)))
