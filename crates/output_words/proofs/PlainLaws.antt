-- Bytes that are printed as themselves within quotes.
use Rattle.std.proofs.Common.{◌≡◌, ◌≤◌, ◌+◌, ◌/◌, ◌%◌, ◌∙◌, ℕ, Bool, true, false, if◌then◌else◌, List, [], ◌∷◌, ◌++◌, length, take, drop, IsAscii, refl, sym, ap, arith}
use Rattle.std.specs.List.{flat_map}
use Rattle.std.proofs.lemmas.Grind.{flat_map-append}
use Rattle.std.proofs.lemmas.List.{take-append-drop, append_assoc}
use Rattle.std.proofs.Math.Seq.{take-add}
use Rattle.std.proofs.lemmas.Str.Ascii.{IsAscii-cons, IsAscii-nil}
use Rattle.output_words.specs.Text.{digit, is_plain, quoted_byte}
use Rattle.output_words.specs.Bounded.{ArePlain}
use Rattle.output_words.proofs.TakeLaws.{take_again, take_none, take_more}
use Rattle.output_words.proofs.TextLaws.{plain_is_ascii}

-- a block more is plain
pub block_more : (bytes rest block : List ℕ) (count many : ℕ) → rest ≡ drop count bytes → block ≡ take many rest → ArePlain (take count bytes) → ArePlain block → ArePlain (take (count + many) bytes)
block_more bytes rest block count many from first before plain =
    let is : take (count + many) bytes ≡ take count bytes ++ block = take-add count many bytes ∙ ap (λ (xs : List ℕ). take count bytes ++ xs) (sym (first ∙ ap (take many) from)) in
    rw is (flat_map-append quoted_byte (take count bytes) block ∙ rw (before, plain) refl)

-- the plain bytes at the head are appended, and the byte behind them; what is left of the text
-- would be cut alike
pub run_pushed : (end k byte : ℕ) (old bytes plain rest one two : List ℕ) → plain ≡ take k bytes → drop k bytes ≡ byte ∷ rest → ArePlain (take k bytes) → one ≡ take end (old ++ plain) → two ≡ take end (one ++ quoted_byte byte)
    → take end (two ++ flat_map quoted_byte rest) ≡ take end (old ++ flat_map quoted_byte bytes)
run_pushed end k byte old bytes plain rest one two front back are first second =
    let quote : List ℕ → List ℕ = flat_map quoted_byte in
    let both : two ≡ take end (old ++ (plain ++ quoted_byte byte)) = take_more end old plain (quoted_byte byte) one two first second in
    let text : (plain ++ quoted_byte byte) ++ quote rest ≡ quote bytes =
    append_assoc plain (quoted_byte byte) (quote rest)
    ∙ ap (λ (xs : List ℕ). xs ++ (quoted_byte byte ++ quote rest)) (front ∙ sym are)
    ∙ ap (λ (xs : List ℕ). quote (take k bytes) ++ quote xs) (sym back)
    ∙ sym (flat_map-append quoted_byte (take k bytes) (drop k bytes))
    ∙ ap quote (take-append-drop k bytes) in
    ap (λ (xs : List ℕ). take end (xs ++ quote rest)) both
    ∙ take_again end (old ++ (plain ++ quoted_byte byte)) (quote rest)
    ∙ ap (λ (xs : List ℕ). take end xs) (append_assoc old (plain ++ quoted_byte byte) (quote rest) ∙ ap (λ (xs : List ℕ). old ++ xs) text)

-- nothing is left of the text
pub none_left : (end : ℕ) (now rest whole : List ℕ) → length now ≤ end → length rest ≡ 0 → take end (now ++ flat_map quoted_byte rest) ≡ take end whole → now ≡ take end whole
none_left end now [] whole short none left = take_none end now short ∙ left
none_left end now (byte ∷ rest) whole short none left = absurd (omega (arith, none))

-- a byte within quotes, where a test said whether it is plain
abbrev shown_as : Bool → ℕ → List ℕ
shown_as t byte = if t then byte ∷ [] else 92 ∷ 120 ∷ digit (byte / 16) ∷ digit (byte % 16) ∷ []

longer_by : (t : Bool) (byte : ℕ) (bytes rest : List ℕ) → length bytes ≤ length rest → length (byte ∷ bytes) ≤ length (shown_as t byte ++ rest)
longer_by true byte bytes rest longer = omega (arith, longer)
longer_by false byte bytes rest longer = omega (arith, longer)

-- within quotes no text gets shorter
quoted_longer : (bytes : List ℕ) → length bytes ≤ length (flat_map quoted_byte bytes)
quoted_longer [] = omega arith
quoted_longer (byte ∷ bytes) = longer_by (is_plain byte) byte bytes (flat_map quoted_byte bytes) (quoted_longer bytes)

plain_by : (t : Bool) (byte : ℕ) (bytes rest : List ℕ) → length bytes ≤ length rest → shown_as t byte ++ rest ≡ byte ∷ bytes → (t ≡ true) × (rest ≡ bytes)
plain_by true byte bytes rest longer same = (refl, cc)
plain_by false byte bytes rest longer same = absurd (omega (arith, longer, ap (λ (xs : List ℕ). length xs) same))

-- plain bytes are ASCII
pub plain_ascii : (bytes : List ℕ) → ArePlain bytes → IsAscii bytes
plain_ascii [] plain = IsAscii-nil
plain_ascii (byte ∷ bytes) plain =
    let each = plain_by (is_plain byte) byte bytes (flat_map quoted_byte bytes) (quoted_longer bytes) plain in
    IsAscii-cons byte bytes (plain_is_ascii byte each.0) (plain_ascii bytes each.1)
