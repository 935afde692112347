-- Bytes within quotes.
use Rattle.std.proofs.Common.{◌≡◌, ◌<◌, ℕ, true, List, [], ◌∷◌, nat_lt, IsAscii, arith}
use Rattle.std.proofs.lemmas.Bool.{ltb-true}
use Rattle.std.proofs.lemmas.Bool.Decides.{nat_tests}
use Rattle.std.proofs.lemmas.Str.Ascii.{IsAscii-cons, IsAscii-nil}
use Rattle.std.specs.List.{list_all}
use Rattle.cv_leaves.proofs.TestLaws.{and_both}
use Rattle.output_words.specs.Text.{is_plain}

-- a plain byte is ASCII
pub plain_is_ascii : (byte : ℕ) → is_plain byte ≡ true → byte < 128
unfolding is_plain
plain_is_ascii byte e = grind (arith, nat_tests)

-- where a test says of each byte that it is below 128, the text is ASCII
pub ascii_from : (bytes : List ℕ) → list_all (λ byte. nat_lt byte 128) bytes ≡ true → IsAscii bytes
ascii_from [] all = IsAscii-nil
ascii_from (byte ∷ bytes) all =
    let both = and_both (nat_lt byte 128) (list_all (λ byte. nat_lt byte 128) bytes) all in
    IsAscii-cons byte bytes (ltb-true byte 128 both.0) (ascii_from bytes both.1)
