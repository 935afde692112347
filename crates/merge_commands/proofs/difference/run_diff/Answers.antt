use Rattle.std.proofs.Common.{string_bytes, string_len}
use Rattle.merge_commands.proofs.DifferenceLaws.{empty_text}
use Rattle.merge_commands.proofs.difference.run_diff.Goals as goal

pub returns-clause-value : goal.returns-clause-value
returns-clause-value g c = record {
  text = string_bytes c.in_ok-text.text;
  shows = c.in_ok-text.ensures.value;
  taken = rw c.as_bytes.ensures.value at c.in_ok-put_all.ensures.ok;
  empty = empty_text (string_bytes c.in_ok-text.text) c.is_empty.result (string_len c.in_ok-text.text) c.is_empty.ensures (rw c.as_bytes.ensures.value at c.as_bytes.ensures.len);
}
