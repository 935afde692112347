use Rattle.std.proofs.Common.{◌≡◌, ◌≤◌, ◌<◌, ◌+◌, ◌++◌, codes, take, length, rules}
use Rattle.output_words.proofs.TakeLaws.{cut_whole, cut_part}
use Rattle.type_expressions.proofs.expression.push_type.Goals as goal

pub returns-in_ok-extend_from_slice : goal.returns-in_ok-extend_from_slice
returns-in_ok-extend_from_slice g c = λ words told.
    let end = c.len-end.result + 400 in
    let is : end ≡ length c.args.text.now.items + 400 = search rules in
    let long : end < length c.push_words.new.text.items = search rules in
    let last : c.extend_from_slice.new.self.items ≡ take end c.push_words.new.text.items ++ codes ".." = search rules in
    cut_part c.args.text.now.items words c.push_words.new.text.items c.extend_from_slice.new.self.items end is (c.in_ok-push_words.ensures.value words told) long last

pub returns-else-end-len : goal.returns-else-end-len
returns-else-end-len g c = λ words told.
    let end = c.len-end.result + 400 in
    let is : end ≡ length c.args.text.now.items + 400 = search rules in
    let short : length c.push_words.new.text.items ≤ end = search rules in
    cut_whole c.args.text.now.items words c.push_words.new.text.items end is (c.in_ok-push_words.ensures.value words told) short
