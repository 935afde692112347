use Rattle.std.proofs.Common.{◌≡◌, ◌∷◌, [], ◌∙◌, sym, true}
use Rattle.std.specs.Prelude.{encode_utf8}
use Rattle.output_words.specs.Text.{is_plain}
use Rattle.output_words.proofs.TextLaws.{plain_is_ascii}
use Rattle.output_words.proofs.text.push_quoted_byte.Goals as goal

pub returns-in_ok-push : goal.returns-in_ok-push
returns-in_ok-push g c =
    let plain : is_plain c.args.byte ≡ true = sym c.is_plain.ensures ∙ c.if-is_plain.true in
    let one : encode_utf8 c.from.result ≡ c.from.result ∷ [] = c.push.ensures.ascii (rw c.from.ensures (plain_is_ascii c.args.byte plain)) in
    rw plain (rw (one, c.from.ensures) at c.in_ok-push.ensures.bytes)
