-- Numbers in hexadecimal, digit by digit.
use Rattle.std.proofs.Common.{◌≡◌, ◌<◌, ◌≤◌, ◌/◌, ◌%◌, ◌==◌, ◌^◌, ◌∙◌, ℕ, zero, suc, Bool, true, false, if◌then◌else◌, List, [], ◌∷◌, ◌++◌, refl, sym, ap, arith, append_assoc}
use Rattle.std.specs.Fmt.{digits, digits_onto}
use Rattle.std.proofs.lemmas.Bool.Decides.{nat_tests}
use Rattle.output_words.specs.Text.{digit}

-- a choice, and what comes after it
choice_more : (t : Bool) (a b c d more : List ℕ) → a ≡ c ++ more → b ≡ d ++ more → (if t then a else b) ≡ (if t then c else d) ++ more
choice_more true a b c d more is_first is_second = is_first
choice_more false a b c d more is_first is_second = is_second

choice_same : (t : Bool) (a b c : List ℕ) → b ≡ c → (if t then a else b) ≡ (if t then a else c)
choice_same true a b c same = refl
choice_same false a b c same = same

-- digits before a text are the digits, and then the text
onto : (k n : ℕ) (more : List ℕ) → digits_onto k 16 false n more ≡ digits_onto k 16 false n [] ++ more
onto zero n more = refl
onto (suc k) n more =
    let last = digit (n % 16) in
    let front = digits_onto k 16 false (n / 16) in
    let one : front (last ∷ []) ≡ front [] ++ (last ∷ []) = onto k (n / 16) (last ∷ []) in
    choice_more (n / 16 == 0) (last ∷ more) (front (last ∷ more)) (last ∷ []) (front (last ∷ [])) more refl
    (onto k (n / 16) (last ∷ more) ∙ sym (append_assoc (front []) (last ∷ []) more) ∙ ap (λ (xs : List ℕ). xs ++ more) (sym one))

-- the number has at most k + 1 digits
abbrev Short : ℕ → ℕ → Type 0
Short zero n = n < 16
Short (suc k) n = Short k (n / 16)

short_none : (k : ℕ) → Short k 0
short_none zero = omega arith
short_none (suc k) = short_none k

-- room for one digit more changes nothing
roomy : (k n : ℕ) (more : List ℕ) → Short k n → digits_onto (suc k) 16 false n more ≡ digits_onto (suc (suc k)) 16 false n more
roomy zero n more short = let none : n / 16 ≡ 0 = omega (arith, short) in rw none refl
roomy (suc k) n more short =
    let last = digit (n % 16) in
    choice_same (n / 16 == 0) (last ∷ more) (digits_onto (suc k) 16 false (n / 16) (last ∷ more)) (digits_onto (suc (suc k)) 16 false (n / 16) (last ∷ more)) (roomy k (n / 16) (last ∷ more) short)

short_number : (n : ℕ) → n < 2 ^ 32 → Short 62 n
short_number n small =
    let none : n / 16 / 16 / 16 / 16 / 16 / 16 / 16 / 16 ≡ 0 = omega (arith, small) in
    rw none (short_none 54)

-- the last digit stands alone
last_digit : (n : ℕ) → 16 ≤ n → n < 2 ^ 32 → digits 16 false n ≡ digits 16 false (n / 16) ++ digit (n % 16) ∷ []
unfolding digits
last_digit n large small =
    let many : (n / 16 == 0) ≡ false = grind (arith, nat_tests) in
    rw many (onto 63 (n / 16) (digit (n % 16) ∷ []) ∙ ap (λ (xs : List ℕ). xs ++ (digit (n % 16) ∷ [])) (roomy 62 (n / 16) [] (short_number (n / 16) (omega (arith, small)))))

-- a number is its first digits and its last two
pub two_digits : (n : ℕ) → 256 ≤ n → n < 2 ^ 32 → digits 16 false n ≡ digits 16 false (n / 256) ++ digit (n % 256 / 16) ∷ digit (n % 256 % 16) ∷ []
two_digits n large small =
    let front : n / 16 / 16 ≡ n / 256 = omega arith in
    let high : n / 16 % 16 ≡ n % 256 / 16 = omega arith in
    let low : n % 16 ≡ n % 256 % 16 = omega arith in
    last_digit n (omega (arith, large)) small
    ∙ ap (λ (xs : List ℕ). xs ++ (digit (n % 16) ∷ [])) (last_digit (n / 16) (omega (arith, large)) (omega (arith, small)))
    ∙ append_assoc (digits 16 false (n / 16 / 16)) (digit (n / 16 % 16) ∷ []) (digit (n % 16) ∷ [])
    ∙ rw (front, high, low) refl

-- a number is its first digits and its last four
pub four_digits : (n : ℕ) → 65536 ≤ n → n < 2 ^ 32 → digits 16 false n
    ≡ digits 16 false (n / 65536) ++ digit (n % 65536 / 256 / 16) ∷ digit (n % 65536 / 256 % 16) ∷ digit (n % 65536 % 256 / 16) ∷ digit (n % 65536 % 256 % 16) ∷ []
four_digits n large small =
    let front : n / 256 / 256 ≡ n / 65536 = omega arith in
    let high : n / 256 % 256 ≡ n % 65536 / 256 = omega arith in
    let low : n % 256 ≡ n % 65536 % 256 = omega arith in
    let two = digit (n % 256 / 16) ∷ digit (n % 256 % 16) ∷ [] in
    two_digits n (omega (arith, large)) small
    ∙ ap (λ (xs : List ℕ). xs ++ two) (two_digits (n / 256) (omega (arith, large)) (omega (arith, small)))
    ∙ append_assoc (digits 16 false (n / 256 / 256)) (digit (n / 256 % 256 / 16) ∷ digit (n / 256 % 256 % 16) ∷ []) two
    ∙ rw (front, high, low) refl
