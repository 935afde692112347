use Rattle.std.proofs.lemmas.Str.{IsUtf8-from_ascii}
use Rattle.output_words.proofs.text.push_ascii.Goals as goal

pub unreachable-requires : goal.unreachable-requires
unreachable-requires g c = c.in_default.ensures.cases.0 (IsUtf8-from_ascii c.args.bytes.now c.requires)
