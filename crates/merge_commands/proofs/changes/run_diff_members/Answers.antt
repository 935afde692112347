use Rattle.std.proofs.Common.{sym}
use Rattle.merge_commands.proofs.DifferenceLaws.{empty_text}
use Rattle.merge_commands.proofs.changes.run_diff_members.Goals as goal

pub returns-clause-value : goal.returns-clause-value
returns-clause-value g c = record {
  text = c.in_ok-text.text.items;
  shows = c.in_ok-text.ensures.value;
  taken = rw c.deref.ensures.value at c.in_ok-put_all.ensures.ok;
  empty = empty_text c.in_ok-text.text.items c.is_empty.result c.in_ok-text.text.len c.is_empty.ensures (sym c.in_ok-text.text.ok.0);
}
