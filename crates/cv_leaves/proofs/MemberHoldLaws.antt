-- A member of a field list passes its checks.
use Rattle.std.proofs.Common.{◌≡◌, ◌<◌, ◌≤◌, ◌+◌, ◌-◌, ◌*◌, ◌%◌, ◌++◌, ◌∙◌, Bool, true, false, cond, ℕ, zero, suc, List, [], Some, None, length, map, drop, get_or, refl, sym, ap, arith, inl, inr}
use Rattle.std.specs.Prelude.{◌⊎◌, ◌&&◌, ◌==◌, nat_lt, nat_le, slice_index}
use Rattle.std.proofs.lemmas.Bool.{cases_lt, le-leb, lt-ltb, lt-leb}
use Rattle.std.proofs.lemmas.Bool.Decides.{nat_tests}
use Rattle.std.proofs.lemmas.List.{length-append, append_assoc, get_or_append_left, get_or-drop}
use Rattle.std.proofs.lemmas.List.Sums.{position_or_len_is, fails_before_first, passes_at_first}
use Rattle.byte_fields.specs.Check.{first_failing}
use Rattle.byte_fields.specs.Number.{number_at}
use Rattle.byte_fields.proofs.CheckLaws.{check_holds, first_failing-append_none}
use Rattle.cv_leaves.specs.Field.{field_checks}
use Rattle.cv_leaves.specs.Numeric.{numeric_len, numeric_end, has_numeric, numeric_checks, numerics_end, numerics_checks}
use Rattle.byte_fields.specs.Name.{name_len, has_name}
use Rattle.cv_leaves.specs.Terminated.{name_end, name_checks}
use Rattle.cv_leaves.specs.Padding.{pads, padding_len, padding_holds, padding_checks}
use Rattle.cv_leaves.specs.Member.{Member, member_of, has_virtual, indices_end, head_end, head_checks, numbers_end, fields_end, padded_end, fields_checks, member_end, member_checks, member_places}
use Rattle.cv_leaves.specs.Place.{IsNumeric, AreNumerics, IsNamed, IsPadding, IsMember}
use Rattle.cv_leaves.specs.declared.fault.LeafFault.TheVariants as fault
use Rattle.cv_leaves.proofs.TextLaws.{text_inside, text_behind, number_of_text, second_met, fits_holds}
use Rattle.cv_leaves.proofs.MemberLaws.{head_is, low_kind, member_long}

-- ---- what follows a member

-- no padding begins here
abbrev pub Unpadded : List ℕ → Type 0
Unpadded back = (get_or back 0 0 < 0xF0) ⊎ (0xFF < get_or back 0 0)

-- a number of two bytes, the lowest of which does not begin padding
low_byte : (t : List ℕ) → number_at 2 t 0 % 256 < 0xF0 → Unpadded t
unfolding number_at
low_byte t low = elim (cases_lt (get_or t 0 0) 256) [
  | inl small ↦ inl (omega (arith, low, small))
  | inr large ↦ inr (omega (arith, large))
]

-- a member doesn't begin as padding does
pub unpadded : (t here back : List ℕ) → IsMember t here → Unpadded (t ++ back)
unpadded t here back part =
    let long = member_long t here part in
    let same : get_or (t ++ back) 0 0 ≡ get_or t 0 0 = get_or_append_left t back 0 0 (omega (arith, long)) in
    rw same (low_byte t (low_kind (number_at 2 t 0) part.member part.kind))

-- ---- numeric leaves

-- a numeric leaf that is met at an offset
numeric_holds : (body : List ℕ) (at : ℕ) (t back : List ℕ) → drop at body ≡ t ++ back → IsNumeric t → (has_numeric body at ≡ true) × (numeric_end body at ≡ at + length t)
unfolding has_numeric numeric_end
numeric_holds body at t back is numeric =
    let n : number_at 2 body at ≡ number_at 2 t 0 = number_of_text 2 body at t back is numeric.0 in
    let inside = text_inside body at t back is (omega (arith, numeric.0)) in
    let len : numeric_len (number_at 2 body at) ≡ length t = ap numeric_len n ∙ sym numeric.1 in
    rw len (rw (le-leb (at + 2) (length body) (omega (arith, inside, numeric.0)), lt-ltb 0 (length t) (omega (arith, numeric.0)), le-leb (at + length t) (length body) inside) refl, refl)

-- numeric leaves that are met one after the other
numerics_hold : (n : ℕ) (body : List ℕ) (at : ℕ) (t back : List ℕ) → drop at body ≡ t ++ back → AreNumerics n t → (first_failing (numerics_checks n body at) ≡ None) × (numerics_end n body at ≡ at + length t)
unfolding numerics_checks numerics_end
numerics_hold zero body at t back is numerics = (refl, omega (arith, ap length numerics))
numerics_hold (suc n) body at t back is (first, others, split, numeric, numerics) =
    let all : drop at body ≡ first ++ (others ++ back) = is ∙ ap (λ (xs : List ℕ). xs ++ back) split ∙ append_assoc first others back in
    let one = numeric_holds body at first (others ++ back) all numeric in
    let next = text_behind body at (numeric_end body at) first (others ++ back) all (sym one.1) in
    let later = numerics_hold n body (numeric_end body at) others back next numerics in (
      first_failing-append_none (numeric_checks body at) (numerics_checks n body (numeric_end body at)) (check_holds (has_numeric body at) (fault.Numeric at) one.0) ∙ later.0,
      omega (arith, later.1, one.1, ap length split, length-append first others),
    )

-- ---- names

-- the first NUL of a list is also the first NUL of a longer list
name_len-append : (xs ys : List ℕ) → name_len xs < length xs → name_len (xs ++ ys) ≡ name_len xs
name_len-append xs ys below =
    position_or_len_is (λ b. b == 0) (xs ++ ys) (name_len xs) 0 (omega (arith, below, length-append xs ys))
    (λ k lt. let same = get_or_append_left xs ys 0 k (omega (arith, lt, below)) in rw same (fails_before_first (λ b. b == 0) xs k 0 lt))
    (λ lt. let same = get_or_append_left xs ys 0 (name_len xs) below in rw same (passes_at_first (λ b. b == 0) xs 0 below))

-- a name that is met at an offset, if there has to be one
name_holds : (named : Bool) (body : List ℕ) (at : ℕ) (t back : List ℕ) → drop at body ≡ t ++ back → IsNamed named t → (first_failing (cond named (name_checks body at) []) ≡ None) × (cond named (name_end body at) at ≡ at + length t)
unfolding has_name name_end
name_holds true body at t back is named =
    let len : name_len (drop at body) ≡ name_len t = ap name_len is ∙ name_len-append t back (omega (arith, named)) in
    let below : name_len t < length (drop at body) = omega (arith, named, ap length is, length-append t back) in
    rw (len, lt-ltb (name_len t) (length (drop at body)) below) (refl, omega (arith, named))
name_holds false body at t back is named = (refl, omega (arith, ap length named))

-- ---- padding

-- the first byte of the bytes at an offset
byte_at : (body : List ℕ) (at : ℕ) (x : List ℕ) → drop at body ≡ x → slice_index body at ≡ get_or x 0 0
byte_at body at x is = ap (λ (k : ℕ). get_or body k 0) (none_more at) ∙ sym (get_or-drop at body 0 0) ∙ ap (λ (xs : List ℕ). get_or xs 0 0) is
  where
    none_more : (n : ℕ) → n ≡ n + 0
    none_more n = omega arith

-- a byte that does not begin padding
no_pads : (byte : ℕ) → (byte < 0xF0) ⊎ (0xFF < byte) → pads byte ≡ false
no_pads byte (inl low) = rw (lt-leb 0xF0 byte low) refl
no_pads byte (inr high) = rw (lt-leb byte 0xFF high) (and_false (nat_le 0xF0 byte))
  where
    and_false : (b : Bool) → (b && false) ≡ false
    and_false true = refl
    and_false false = refl

-- where no padding begins there is none, and its check holds
none_holds : (a : Bool) (body : List ℕ) (at : ℕ) → at ≤ length body → nat_lt at (length body) ≡ a → pads (slice_index body at) ≡ false → (padding_holds body at ≡ true) × (padding_len body at ≡ 0)
unfolding padding_holds padding_len
none_holds false body at inside follows begins = rw follows (refl, refl)
none_holds true body at inside follows begins =
    rw (follows, begins) (rw (other (slice_index body at) begins, le-leb (at + 0) (length body) (omega (arith, inside))) refl, refl)
  where
    other : (byte : ℕ) → pads byte ≡ false → (byte == 0xF0) ≡ false
    other byte begins = grind (arith, nat_tests)

-- padding at an offset that no other padding follows
padding_met : (body : List ℕ) (at : ℕ) (t back : List ℕ) → at ≤ length body → drop at body ≡ t ++ back → Unpadded back → IsPadding t → (padding_holds body at ≡ true) × (padding_len body at ≡ length t)
unfolding padding_holds padding_len
padding_met body at t back inside is unpadded (inl none) =
    let here : drop at body ≡ back = is ∙ ap (λ (xs : List ℕ). xs ++ back) none in
    let begins : pads (slice_index body at) ≡ false = rw (byte_at body at back here) (no_pads (get_or back 0 0) unpadded) in
    rw none (none_holds (nat_lt at (length body)) body at inside refl begins)
padding_met body at t back inside is unpadded (inr (some, few, first)) =
    let fit = text_inside body at t back is some in
    let byte : slice_index body at ≡ 0xF0 + length t = byte_at body at (t ++ back) is ∙ get_or_append_left t back 0 0 some ∙ first in
    let len : 0xF0 + length t - 0xF0 ≡ length t = omega arith in
    rw (byte, lt-ltb at (length body) (omega (arith, fit, some)), le-leb 0xF0 (0xF0 + length t) (omega arith), le-leb (0xF0 + length t) 0xFF (omega (arith, few)), len)
    (rw (more (length t) some, le-leb (at + length t) (length body) fit) refl, refl)
  where
    more : (n : ℕ) → 0 < n → (0xF0 + n == 0xF0) ≡ false
    more n some = grind (arith, nat_tests)

-- ---- the member

-- the bytes of a virtual that fit pass their check
virtual_holds : (b : Bool) (body : List ℕ) (at : ℕ) → at + cond b 4 0 ≤ length body → first_failing (cond b (field_checks body at 4) []) ≡ None
virtual_holds true body at inside = fits_holds body at 4 inside
virtual_holds false body at inside = refl

-- indices that fit pass their checks
indices_hold : (n : ℕ) (body : List ℕ) (at : ℕ) → at + 4 + 4 * n ≤ length body → (first_failing (cond (nat_le 1 n) (field_checks body (at + 4) 4) []) ≡ None) × (first_failing (cond (nat_le 2 n) (field_checks body (at + 8) 4) []) ≡ None)
indices_hold zero body at inside = (refl, refl)
indices_hold (suc zero) body at inside = (fits_holds body (at + 4) 4 (omega (arith, inside)), refl)
indices_hold (suc (suc n)) body at inside = rw (le-leb 1 (suc (suc n)) (omega arith), le-leb 2 (suc (suc n)) (omega arith)) (fits_holds body (at + 4) 4 (omega (arith, inside)), fits_holds body (at + 8) 4 (omega (arith, inside)))

-- and all that comes before the numeric leaves
head_holds : (m : Member) (body : List ℕ) (at : ℕ) → head_end m body at ≤ length body → first_failing (head_checks m body at) ≡ None
unfolding head_checks
head_holds m body at inside =
    let a = field_checks body (at + 2) 2 in
    let b = cond (nat_le 1 m.indices) (field_checks body (at + 4) 4) [] in
    let c = cond (nat_le 2 m.indices) (field_checks body (at + 8) 4) [] in
    let d = cond (has_virtual m body at) (field_checks body (indices_end m at) 4) [] in
    let end = head_is m body at in
    let indices = indices_hold m.indices body at (omega (arith, inside, end)) in
    first_failing-append_none a (b ++ (c ++ d)) (fits_holds body (at + 2) 2 (omega (arith, inside, end)))
    ∙ first_failing-append_none b (c ++ d) indices.0
    ∙ first_failing-append_none c d indices.1
    ∙ virtual_holds (has_virtual m body at) body (indices_end m at) (omega (arith, inside, end))

-- what is known of a member that is met: its checks hold, and where it ends
record Met (m : Member) (body : List ℕ) (at : ℕ) (len : ℕ) : Type 0 where
  pub checks : first_failing (fields_checks m body at) ≡ None
  pub end : padded_end m body at ≡ at + len

-- the parts of a member and what follows it
six_parts : (a b c d e f back : List ℕ) → (a ++ (b ++ (c ++ (d ++ (e ++ f))))) ++ back ≡ a ++ (b ++ (c ++ (d ++ (e ++ (f ++ back)))))
six_parts a b c d e f back =
    append_assoc a (b ++ (c ++ (d ++ (e ++ f)))) back
    ∙ ap (λ (xs : List ℕ). a ++ xs) (append_assoc b (c ++ (d ++ (e ++ f))) back
    ∙ ap (λ (xs : List ℕ). b ++ xs) (append_assoc c (d ++ (e ++ f)) back
    ∙ ap (λ (xs : List ℕ). c ++ xs) (append_assoc d (e ++ f) back
    ∙ ap (λ (xs : List ℕ). d ++ xs) (append_assoc e f back))))

-- the fields of a member that is met pass their checks
fields_met : (body : List ℕ) (at : ℕ) (t back here : List ℕ) → drop at body ≡ t ++ back → Unpadded back → (part : IsMember t here) → Met part.member body at (length t)
unfolding fields_checks
fields_met body at t back here is unpadded part =
    let m = part.member in
    let n = numbers_end m body at in
    let f = fields_end m body at in
    let h = head_end m body at in
    let all = is ∙ ap (λ (xs : List ℕ). xs ++ back) part.parts ∙ six_parts part.front part.indices part.virtual part.numerics part.name part.padding back in
    let long = member_long t here part in
    let inside = text_inside body at t back is (omega (arith, long)) in
    let attributes : number_at 2 body (at + 2) ≡ number_at 2 t 2 = second_met body at t back is (omega (arith, long)) in
    let virtual : length part.virtual ≡ cond (has_virtual m body at) 4 0 = rw attributes part.virtual_long in
    let d1 = text_behind body at (at + 4) part.front _ all (omega (arith, part.front_long)) in
    let d2 = text_behind body (at + 4) (indices_end m at) part.indices _ d1 (omega (arith, part.indices_long)) in
    let d3 = text_behind body (indices_end m at) h part.virtual _ d2 (omega (arith, virtual, head_is m body at)) in
    let numerics = numerics_hold m.numerics body h part.numerics (part.name ++ (part.padding ++ back)) d3 part.numerics_are in
    let d4 = text_behind body h n part.numerics (part.name ++ (part.padding ++ back)) d3 (sym numerics.1) in
    let name = name_holds m.named body n part.name (part.padding ++ back) d4 part.name_is in
    let d5 = text_behind body n f part.name (part.padding ++ back) d4 (sym name.1) in
    let whole : length t ≡ 4 + (length part.indices + (length part.virtual + (length part.numerics + (length part.name + length part.padding)))) = six_lengths part.front part.indices part.virtual part.numerics part.name part.padding t part.parts part.front_long in
    let ends : f + length part.padding ≡ at + length t = omega (arith, whole, name.1, numerics.1, head_is m body at, virtual, part.indices_long) in
    let padding = padding_met body f part.padding back (omega (arith, ends, inside)) d5 unpadded part.padding_is in
    let name_part = cond m.named (name_checks body n) [] in
    record {
      checks = first_failing-append_none (head_checks m body at) (numerics_checks m.numerics body h ++ (name_part ++ padding_checks body f)) (head_holds m body at (omega (arith, ends, inside, name.1, numerics.1)))
          ∙ first_failing-append_none (numerics_checks m.numerics body h) (name_part ++ padding_checks body f) numerics.0
          ∙ first_failing-append_none name_part (padding_checks body f) name.0
          ∙ check_holds (padding_holds body f) (fault.Pad f) padding.0;
      end = ap (λ (k : ℕ). f + k) padding.1 ∙ ends;
    }
  where
    six_lengths : (a b c d e f t : List ℕ) → t ≡ a ++ (b ++ (c ++ (d ++ (e ++ f)))) → length a ≡ 4 → length t ≡ 4 + (length b + (length c + (length d + (length e + length f))))
    six_lengths a b c d e f t is four =
        omega (arith, ap length is, four, length-append a (b ++ (c ++ (d ++ (e ++ f)))), length-append b (c ++ (d ++ (e ++ f))), length-append c (d ++ (e ++ f)), length-append d (e ++ f), length-append e f)

-- a member that is met passes its checks, has this length, and has these places
pub member_holds : (body : List ℕ) (at : ℕ) (t back here : List ℕ) → drop at body ≡ t ++ back → Unpadded back → IsMember t here
    → (first_failing (member_checks body at) ≡ None) × (member_end body at ≡ at + length t) × (member_places body at ≡ map (λ k. at + k) here)
unfolding member_checks member_end member_places
member_holds body at t back here is unpadded part =
    let m = part.member in
    let long = member_long t here part in
    let inside = text_inside body at t back is (omega (arith, long)) in
    let kind : member_of (number_at 2 body at) ≡ Some m = ap member_of (number_of_text 2 body at t back is (omega (arith, long))) ∙ part.kind in
    let met = fields_met body at t back here is unpadded part in
    rw (kind, part.places_are)
    (first_failing-append_none (field_checks body at 2) (fields_checks m body at) (fits_holds body at 2 (omega (arith, inside, long))) ∙ met.checks, met.end, refl)
