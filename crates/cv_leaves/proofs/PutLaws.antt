-- A number that is written into a record: what it leaves as it is.
use Rattle.std.proofs.Common.{◌≡◌, ◌<◌, ◌≤◌, ◌+◌, ◌^◌, ◌++◌, ℕ, List, length, take, drop, get_or, refl, sym, ap, arith, ◌∙◌}
use Rattle.std.proofs.lemmas.List.{append_assoc, length-append, length-take, length-drop, get_or_append_left, get_or-take, get_or-drop, drop-drop, take-append-le, drop-append-le, drop_at, take-take, take-append-drop}
use Rattle.std.proofs.Math.Seq.{take-append-add, drop-append-add}
use Rattle.byte_fields.specs.Number.{number_at, four_bytes}
use Rattle.byte_fields.specs.Bytes.{AreBytes}
use Rattle.byte_fields.proofs.BytesLaws.{bytes_append, bytes_take, bytes_drop, four_are_bytes}
use Rattle.byte_fields.proofs.NumberLaws.{length-four_bytes, number_at-drop, four_bytes-number_at}
use Rattle.cv_leaves.specs.Checks.{body_of}
use Rattle.cv_leaves.specs.Blank.{put_four}

-- a number of the body is four bytes further on in the record
pub number_in_body : (r : List ℕ) (place : ℕ) → number_at 4 (body_of r) place ≡ number_at 4 r (4 + place)
unfolding number_at body_of
number_in_body r place = rw (drop-drop place 4 r) refl

-- the length stays
pub put_len : (x : List ℕ) (at n : ℕ) → at + 4 ≤ length x → length (put_four x at n) ≡ length x
unfolding put_four
put_len x at n inside =
    omega (arith, length-append (take at x) (four_bytes n ++ drop (at + 4) x), length-append (four_bytes n) (drop (at + 4) x), length-take at x, length-drop (at + 4) x, length-four_bytes n)

-- the bytes before it stay
byte_before : (x : List ℕ) (at n i : ℕ) → i < at → at ≤ length x → get_or (put_four x at n) i 0 ≡ get_or x i 0
unfolding put_four
byte_before x at n i below inside =
    get_or_append_left (take at x) (four_bytes n ++ drop (at + 4) x) 0 i (omega (arith, length-take at x)) ∙ get_or-take at x i 0 below

-- a number of two bytes at the front stays
pub two_before : (x : List ℕ) (at n : ℕ) → 2 ≤ at → at ≤ length x → number_at 2 (put_four x at n) 0 ≡ number_at 2 x 0
unfolding number_at
two_before x at n above inside =
    let a = byte_before x at n 0 (omega arith) inside in
    let b = byte_before x at n 1 (omega arith) inside in
    rw (a, b) refl

-- a number of four bytes at the front stays
pub four_before : (x : List ℕ) (at n : ℕ) → 4 ≤ at → at ≤ length x → number_at 4 (put_four x at n) 0 ≡ number_at 4 x 0
unfolding number_at
four_before x at n above inside =
    let a = byte_before x at n 0 (omega arith) inside in
    let b = byte_before x at n 1 (omega arith) inside in
    let c = byte_before x at n 2 (omega arith) inside in
    let d = byte_before x at n 3 (omega arith) inside in
    rw (a, b, c, d) refl

-- the kind of a record stays
pub kind_before : (x : List ℕ) (at n : ℕ) → 4 ≤ at → at ≤ length x → number_at 2 (put_four x at n) 2 ≡ number_at 2 x 2
unfolding number_at
kind_before x at n above inside =
    let y = put_four x at n in
    let a : get_or (drop 2 y) 0 0 ≡ get_or (drop 2 x) 0 0 = get_or-drop 2 y 0 0 ∙ byte_before x at n 2 (omega arith) inside ∙ sym (get_or-drop 2 x 0 0) in
    let b : get_or (drop 2 y) 1 0 ≡ get_or (drop 2 x) 1 0 = get_or-drop 2 y 1 0 ∙ byte_before x at n 3 (omega arith) inside ∙ sym (get_or-drop 2 x 1 0) in
    rw (a, b) refl

-- a number of four bytes before it stays
pub read_before : (x : List ℕ) (p at n : ℕ) → p + 4 ≤ at → at ≤ length x → number_at 4 (put_four x at n) p ≡ number_at 4 x p
unfolding number_at
read_before x p at n apart inside =
    let byte : (i : ℕ) → i < 4 → get_or (drop p (put_four x at n)) i 0 ≡ get_or (drop p x) i 0 =
    λ i below. get_or-drop p (put_four x at n) i 0 ∙ byte_before x at n (p + i) (omega (arith, below, apart)) inside ∙ sym (get_or-drop p x i 0) in
    rw (byte 0 (omega arith), byte 1 (omega arith), byte 2 (omega arith), byte 3 (omega arith)) refl

-- a number that is written in the first of two pieces
pub put_front : (a b : List ℕ) (p n : ℕ) → p + 4 ≤ length a → put_four (a ++ b) p n ≡ put_four a p n ++ b
unfolding put_four
put_front a b p n inside =
    let t : take p (a ++ b) ≡ take p a = take-append-le p a b (omega arith) in
    let d : drop (p + 4) (a ++ b) ≡ drop (p + 4) a ++ b = drop-append-le (p + 4) a b inside in
    rw (t, d) (ap (λ (xs : List ℕ). take p a ++ xs) (sym (append_assoc (four_bytes n) (drop (p + 4) a) b)) ∙ sym (append_assoc (take p a) (four_bytes n ++ drop (p + 4) a) b))

-- a number that is written in the second of two pieces
pub put_back : (a b : List ℕ) (p n : ℕ) → put_four (a ++ b) (length a + p) n ≡ a ++ put_four b p n
unfolding put_four
put_back a b p n =
    let t : take (length a + p) (a ++ b) ≡ a ++ take p b = take-append-add a b p in
    let e : length a + p + 4 ≡ length a + (p + 4) = omega arith in
    let d : drop (length a + (p + 4)) (a ++ b) ≡ drop (p + 4) b = drop-append-add a b (p + 4) in
    rw (t, e, d) (append_assoc a (take p b) (four_bytes n ++ drop (p + 4) b))

-- a number of four bytes at the beginning
number_front : (n : ℕ) (rest : List ℕ) → n < 2 ^ 32 → number_at 4 (four_bytes n ++ rest) 0 ≡ n
unfolding number_at four_bytes
number_front n rest small = omega arith

-- what is written is read again
pub put_read : (x : List ℕ) (at n : ℕ) → at + 4 ≤ length x → n < 2 ^ 32 → number_at 4 (put_four x at n) at ≡ n
unfolding put_four
put_read x at n inside small =
    let long : length (take at x) ≡ at = omega (arith, length-take at x) in
    sym (number_at-drop 4 (put_four x at n) at)
    ∙ ap (λ (y : List ℕ). number_at 4 y 0) (drop_at (take at x) (four_bytes n ++ drop (at + 4) x) at long)
    ∙ number_front n (drop (at + 4) x) small

-- what is written where it is read changes nothing, in a list of bytes
pub put_own : (x : List ℕ) (at : ℕ) → AreBytes x → at + 4 ≤ length x → put_four x at (number_at 4 x at) ≡ x
unfolding put_four
put_own x at bytes inside =
    rw (four_bytes-number_at x at bytes inside, ← drop-drop 4 at x, take-append-drop 4 (drop at x)) (take-append-drop at x)

-- a list of bytes stays one
pub put_bytes : (x : List ℕ) (at n : ℕ) → AreBytes x → AreBytes (put_four x at n)
unfolding put_four
put_bytes x at n bytes =
    bytes_append (take at x) (four_bytes n ++ drop (at + 4) x) (bytes_take at x bytes) (bytes_append (four_bytes n) (drop (at + 4) x) (four_are_bytes n) (bytes_drop (at + 4) x bytes))

-- what is written at a place is read again in the body of a record
pub body_read : (r : List ℕ) (place n : ℕ) → place + 8 ≤ length r → n < 2 ^ 32 → number_at 4 (body_of (put_four r (4 + place) n)) place ≡ n
body_read r place n inside small = number_in_body (put_four r (4 + place) n) place ∙ put_read r (4 + place) n (omega (arith, inside)) small

-- if two numbers are written at one place, the second one stays
pub put_twice : (x : List ℕ) (p m n : ℕ) → p + 4 ≤ length x → put_four (put_four x p m) p n ≡ put_four x p n
unfolding put_four
put_twice x p m n inside =
    let long : length (take p x) ≡ p = omega (arith, length-take p x) in
    let rest = four_bytes m ++ drop (p + 4) x in
    let front : take p (take p x ++ rest) ≡ take p x = take-append-le p (take p x) rest (omega (arith, long)) ∙ take-take p p x (omega arith) in
    let behind : drop (p + 4) (take p x ++ rest) ≡ drop (p + 4) x =
    sym (drop-drop 4 p (take p x ++ rest)) ∙ ap (λ (y : List ℕ). drop 4 y) (drop_at (take p x) rest p long) ∙ drop_at (four_bytes m) (drop (p + 4) x) 4 (length-four_bytes m) in
    rw (front, behind) refl

-- numbers at two places may be written in either order
pub put_swap : (x : List ℕ) (p q m n : ℕ) → p + 4 ≤ q → q + 4 ≤ length x → put_four (put_four x q m) p n ≡ put_four (put_four x p n) q m
put_swap x p q m n apart inside =
    let a = take q x in
    let b = drop q x in
    let long : length a ≡ q = omega (arith, length-take q x) in
    let near : p + 4 ≤ length a = omega (arith, long) in
    let whole : x ≡ a ++ b = sym (take-append-drop q x) in
    let at : q ≡ length a + 0 = omega (arith, long) in
    let after : q ≡ length (put_four a p n) + 0 = omega (arith, long, put_len a p n near) in
    let second : put_four x q m ≡ a ++ put_four b 0 m = ap (λ (y : List ℕ). put_four y q m) whole ∙ ap (λ (k : ℕ). put_four (a ++ b) k m) at ∙ put_back a b 0 m in
    let first : put_four x p n ≡ put_four a p n ++ b = ap (λ (y : List ℕ). put_four y p n) whole ∙ put_front a b p n near in
    ap (λ (y : List ℕ). put_four y p n) second
    ∙ put_front a (put_four b 0 m) p n near
    ∙ sym (ap (λ (y : List ℕ). put_four y q m) first ∙ ap (λ (k : ℕ). put_four (put_four a p n ++ b) k m) after ∙ put_back (put_four a p n) b 0 m)
