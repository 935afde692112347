use Rattle.std.proofs.Common.{take}
use Rattle.output_words.proofs.PlainLaws.{plain_ascii}
use Rattle.output_words.proofs.text.push_run.Goals as goal

pub push_ascii-requires : goal.push_ascii-requires
push_ascii-requires g c =
    rw c.split_at.ensures.front (plain_ascii (take c.plain_run.result c.args.bytes.now) c.plain_run.ensures.plain)
