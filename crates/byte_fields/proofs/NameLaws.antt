-- The name at an offset, by its first NUL.
use Rattle.std.proofs.Common.{◌≡◌, ◌<◌, ◌+◌, ℕ, suc, Bool, true, false, cond, List, [], ◌∷◌, Some, None, length, take, drop, refl, ◌∙◌, sym, arith}
use Rattle.std.specs.Prelude.{◌==◌, ◌||◌, not, nat_lt}
use Rattle.std.specs.List.{list_any, before_first, position_or_len}
use Rattle.std.proofs.lemmas.List.Sums.{position_or_len_is}
use Rattle.std.proofs.lemmas.Bool.{lt-ltb, le-ltb, false_from_ne_true}
use Rattle.bstr.specs.Find.{IsFirstByte, is_byte}
use Rattle.byte_fields.specs.Name.{name_at, name_len, has_name}

-- the first NUL says how long the name is
name_len-first : (bytes : List ℕ) (k : ℕ) → IsFirstByte (is_byte 0) bytes (Some k) → name_len bytes ≡ k
name_len-first bytes k first =
    position_or_len_is (λ b. b == 0) bytes k 0 (omega (arith, first.0.high)) (λ j below. false_from_ne_true _ (first.0.before j (omega arith) below)) (λ below. first.1)

-- without a NUL all bytes are counted
name_len-none : (bytes : List ℕ) → IsFirstByte (is_byte 0) bytes None → name_len bytes ≡ length bytes
name_len-none bytes none =
    position_or_len_is (λ b. b == 0) bytes (length bytes) 0 (omega arith) (λ j below. false_from_ne_true _ (none j (omega arith) below)) (λ below. absurd (omega (arith, below)))

-- a NUL follows
pub name_here : (bytes rest : List ℕ) (offset k : ℕ) → rest ≡ drop offset bytes → IsFirstByte (is_byte 0) rest (Some k) → name_at bytes offset ≡ Some (take k rest)
unfolding name_at has_name
name_here bytes rest offset k is first =
    let len = name_len-first (drop offset bytes) k (rw is at first) in
    let inside : k < length (drop offset bytes) = rw is at first.0.high in
    rw (len, lt-ltb k (length (drop offset bytes)) inside, is) refl

-- none follows
pub no_name_here : (bytes rest : List ℕ) (offset : ℕ) → rest ≡ drop offset bytes → IsFirstByte (is_byte 0) rest None → name_at bytes offset ≡ None
unfolding name_at has_name
no_name_here bytes rest offset is none =
    let len = name_len-none (drop offset bytes) (rw is at none) in
    rw (len, le-ltb (length (drop offset bytes)) (length (drop offset bytes)) (omega arith)) refl

-- ---- the same by a test of each byte

any_step : (passes some : Bool) (first len : ℕ) → some ≡ nat_lt first len → (passes || some) ≡ nat_lt (cond (not passes) (1 + first) 0) (suc len)
any_step true some first len is = sym (lt-ltb 0 (suc len) (omega arith))
any_step false some first len is = is ∙ grind arith

-- a byte passes a test if the first byte that does is among them
any_by_first : (test : ℕ → Bool) (bytes : List ℕ) → list_any test bytes ≡ nat_lt (position_or_len test bytes) (length bytes)
any_by_first test [] = refl
any_by_first test (b ∷ bytes) = any_step (test b) (list_any test bytes) (position_or_len test bytes) (length bytes) (any_by_first test bytes)

chosen : {X : Type 0} (b : Bool) (x y : X) → cond b (Some x) None ≡ Some y → (b ≡ true) × (x ≡ y)
chosen true x y is = (refl, cc)
chosen false x y is = absurd cc

not_chosen : {X : Type 0} (b : Bool) (x : X) → cond b (Some x) None ≡ None → b ≡ false
not_chosen true x is = absurd cc
not_chosen false x is = refl

-- a name is what precedes the first NUL
pub name_is_before : (bytes name : List ℕ) (offset : ℕ) → name_at bytes offset ≡ Some name → name ≡ before_first (λ byte. byte == 0) (drop offset bytes)
unfolding name_at
name_is_before bytes name offset is = sym ((chosen (has_name bytes offset) (take (name_len (drop offset bytes)) (drop offset bytes)) name is).1)

-- where there is a name, a NUL follows
pub name_has_nul : (bytes name : List ℕ) (offset : ℕ) → name_at bytes offset ≡ Some name → list_any (λ byte. byte == 0) (drop offset bytes) ≡ true
unfolding name_at has_name
name_has_nul bytes name offset is =
    any_by_first (λ byte. byte == 0) (drop offset bytes) ∙ (chosen (has_name bytes offset) (take (name_len (drop offset bytes)) (drop offset bytes)) name is).0

-- where there is none, none follows
pub no_name_no_nul : (bytes : List ℕ) (offset : ℕ) → name_at bytes offset ≡ None → list_any (λ byte. byte == 0) (drop offset bytes) ≡ false
unfolding name_at has_name
no_name_no_nul bytes offset is =
    any_by_first (λ byte. byte == 0) (drop offset bytes) ∙ not_chosen (has_name bytes offset) (take (name_len (drop offset bytes)) (drop offset bytes)) is
