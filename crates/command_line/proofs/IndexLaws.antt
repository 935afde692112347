-- An argument of the command line that is a type index.
use Rattle.std.proofs.Common.{◌≡◌, ◌≤◌, ◌<◌, ◌^◌, ◌++◌, ◌∙◌, ℕ, List, [], ◌∷◌, length, get_or, drop, sym, ap, arith}
use Rattle.std.specs.Prelude.{◌≢◌, Result, Ok, Err, IfNone, codes}
use Rattle.std.specs.Result.{result_ok}
use Rattle.std.specs.Char.{digit_value}
use Rattle.std.specs.Str.Parse.{IsNumeral, digits_value, ParsesUnsigned}
use Rattle.std.proofs.lemmas.Int.Digits.{digits_value-lt}
use Rattle.std.proofs.lemmas.Str.Parse.{without_leading_plus_none}
use Rattle.command_line.specs.Index.{IsIndexArgument}
use native.Mathlib.Nat.{pow-le-pow_right}

-- digits do not begin with a sign
no_plus : (digits : List ℕ) → IsNumeral 16 digits → get_or digits 0 0 ≢ 43
no_plus [] n is = absurd (omega (arith, n.0))
no_plus (c ∷ cs) n is = let small : digit_value 43 < 16 = rw is at n.1.0 in absurd (omega (arith, small))

-- eight digits are a number of four bytes
few_digits : (digits : List ℕ) → IsNumeral 16 digits → length digits ≤ 8 → digits_value 16 digits < 2 ^ 32
few_digits digits n few = omega (arith, digits_value-lt 16 digits n.1, pow-le-pow_right {n = 16} (omega arith) few)

-- a word whose digits are refused is no type index
pub no_index : {E : Type 0} (argument digits : List ℕ) (read : Result ℕ E) → argument ≡ codes "0x" ++ digits → ParsesUnsigned 32 16 digits read → length digits ≤ 8
    → IfNone (result_ok read) ((value : ℕ) → IsIndexArgument argument value → ⊥)
no_index argument digits (Ok value) is parses few = tt
no_index argument digits (Err e) is parses few = λ value index.
    let same : index.0 ≡ digits = ap (λ (x : List ℕ). drop 2 x) (sym index.1 ∙ is) in
    let n : IsNumeral 16 digits = rw same at index.2 in
    let plain = without_leading_plus_none digits (no_plus digits n) in
    parses (rw plain (n, few_digits digits n few))
