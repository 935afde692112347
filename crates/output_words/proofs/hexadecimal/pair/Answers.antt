use Rattle.std.proofs.Common.{◌≡◌, ◌/◌, ◌%◌, ◌∷◌, [], ◌∙◌, ℕ, ◌+◌, ◌-◌, ◌*◌, ◌<◌, List, map, take, drop, get_or, IsAscii, refl, sym, ap, arith}
use Rattle.std.proofs.lemmas.List.FromFn.{get_or-map-range_with_len}
use Rattle.std.specs.List.{range_with_len}
use Rattle.output_words.specs.Text.{digit}
use Rattle.output_words.specs.declared.hexadecimal.TheConstants.{PAIRS}
use Rattle.output_words.proofs.TextLaws.{ascii_from}
use Rattle.output_words.proofs.hexadecimal.pair.Goals as goal

abbrev piece : ℕ → List ℕ
piece n = take 2 (drop (2 * n) PAIRS.now)

abbrev two : ℕ → List ℕ
two n = digit (n / 16) ∷ digit (n % 16) ∷ []

table_is : map piece (range_with_len 0 256) ≡ map two (range_with_len 0 256)
table_is = refl

piece_is : (n : ℕ) → n < 256 → piece n ≡ two n
piece_is n h = sym (get_or-map-range_with_len piece 0 256 n n [] h (omega arith))
    ∙ ap (λ t. get_or t n []) table_is ∙ get_or-map-range_with_len two 0 256 n n [] h (omega arith)

IsAscii-table : IsAscii PAIRS.now
IsAscii-table = ascii_from PAIRS.now refl

pub range-requires-clause-start_boundary : goal.range-requires-clause-start_boundary
range-requires-clause-start_boundary c = λ _. (omega arith, λ a b. absurd (omega (arith, IsAscii-table (2 * c.from-at.result))))

pub range-requires-clause-end_boundary : goal.range-requires-clause-end_boundary
range-requires-clause-end_boundary c = (omega arith, λ a b. absurd (omega (arith, IsAscii-table (2 * c.from-at.result + 2))))

pub returns : goal.returns
returns c =
    let at = c.from-at.result in
    let width : 2 * at + 2 - 2 * at ≡ 2 = omega arith in
    let read : c.range.result.now ≡ take (2 * at + 2 - 2 * at) (drop (2 * at) PAIRS.now) = c.range.ensures.value in
    read ∙ ap (λ (n : ℕ). take n (drop (2 * at) PAIRS.now)) width ∙ ap piece c.from-at.ensures ∙ piece_is c.args.byte (omega arith)
