-- Where the checks of a member of a field list hold, it is a member.
use Rattle.std.proofs.Common.{◌≡◌, ◌<◌, ◌≤◌, ◌+◌, ◌-◌, ◌*◌, ◌++◌, ◌∙◌, Bool, true, false, cond, ℕ, zero, suc, List, [], ◌∷◌, Option, Some, None, length, map, take, drop, get_or, refl, sym, ap, arith, inl, inr}
use Rattle.std.specs.Prelude.{◌==◌, not, nat_lt, nat_le, slice_index}
use Rattle.std.proofs.lemmas.Bool.{leb-true, ltb-true}
use Rattle.std.proofs.lemmas.Bool.Decides.{nat_tests}
use Rattle.std.proofs.lemmas.List.{length-drop, length-take, get_or-take, get_or-drop}
use Rattle.std.proofs.lemmas.List.Sums.{position_or_len_is, fails_before_first, passes_at_first}
use Rattle.byte_fields.specs.Check.{first_failing}
use Rattle.byte_fields.specs.Number.{number_at}
use Rattle.byte_fields.proofs.CheckLaws.{check_held, first_failing-parts}
use Rattle.byte_fields.proofs.NumberLaws.{number_at-take}
use Rattle.cv_leaves.specs.Field.{field_checks}
use Rattle.cv_leaves.specs.Numeric.{numeric_len, numeric_end, has_numeric, numeric_checks, numerics_end, numerics_checks}
use Rattle.byte_fields.specs.Name.{name_len, has_name}
use Rattle.cv_leaves.specs.Terminated.{name_end, name_checks}
use Rattle.cv_leaves.specs.Padding.{pads, padding_len, padding_holds, padding_checks}
use Rattle.cv_leaves.specs.Member.{Member, member_of, has_virtual, indices_end, head_end, head_checks, numbers_end, fields_end, padded_end, fields_checks, member_end, member_checks, member_places, index_places}
use Rattle.cv_leaves.specs.Place.{AreNumerics, IsNamed, IsPadding, IsMember}
use Rattle.cv_leaves.specs.declared.fault.LeafFault.{LeafFault}
use Rattle.cv_leaves.specs.declared.fault.LeafFault.TheVariants as fault
use Rattle.cv_leaves.proofs.TestLaws.{and_both}
use Rattle.cv_leaves.proofs.TextLaws.{text_of, text_len, text_split, second_of_text, fits_held}
use Rattle.cv_leaves.proofs.NumericLaws.{numeric_end_is, numeric_inside}
use Rattle.cv_leaves.proofs.MemberLaws.{head_is, few_indices}

-- ---- numeric leaves

-- a length of a numeric leaf that isn't 0 is at least two
lens_long : (a b c d e : Bool) → 0 < cond a 2 (cond b 3 (cond c 4 (cond d 6 (cond e 10 0)))) → 2 ≤ cond a 2 (cond b 3 (cond c 4 (cond d 6 (cond e 10 0))))
lens_long true b c d e some = omega arith
lens_long false true c d e some = omega arith
lens_long false false true d e some = omega arith
lens_long false false false true e some = omega arith
lens_long false false false false true some = omega arith
lens_long false false false false false some = absurd (omega (arith, some))

-- a known numeric leaf has at least two bytes
numeric_long : (n : ℕ) → 0 < numeric_len n → 2 ≤ numeric_len n
numeric_long n some = lens_long _ _ _ _ _ some

-- numeric leaves whose checks hold are numeric leaves, and end within the body
numerics_found : (n : ℕ) (body : List ℕ) (at : ℕ) → at ≤ length body → first_failing (numerics_checks n body at) ≡ None
    → (at ≤ numerics_end n body at) × (numerics_end n body at ≤ length body) × AreNumerics n (text_of body at (numerics_end n body at))
unfolding numerics_end numerics_checks
numerics_found zero body at inside held =
    let none : at - at ≡ 0 = omega arith in
    (omega arith, inside, rw none refl)
numerics_found (suc n) body at inside held =
    let both = first_failing-parts (numeric_checks body at) (numerics_checks n body (numeric_end body at)) held in
    let one = numeric_inside body at (check_held (has_numeric body at) (fault.Numeric at) both.0) in
    let others = numerics_found n body (numeric_end body at) one.2 both.1 in
    let text = text_of body at (numeric_end body at) in
    let is : numeric_end body at ≡ at + numeric_len (number_at 2 body at) = numeric_end_is body at in
    let two = numeric_long (number_at 2 body at) one.1 in
    let len : length text ≡ numeric_len (number_at 2 body at) = omega (arith, text_len body at (numeric_end body at) (omega (arith, is)) one.2, is) in
    let first : number_at 2 text 0 ≡ number_at 2 body at = number_at-take 2 body at (numeric_end body at - at) (omega (arith, is, two)) in (
      omega (arith, is, others.0),
      others.1,
      (
        text,
        text_of body (numeric_end body at) (numerics_end n body (numeric_end body at)),
        text_split body at (numeric_end body at) (numerics_end n body (numeric_end body at)) (omega (arith, is)) others.0,
        (omega (arith, len, two), len ∙ ap numeric_len (sym first)),
        others.2,
      ),
    )

-- ---- names

-- the bytes up to the first NUL, and more after it, have the same first NUL
name_len-take : (xs : List ℕ) (n : ℕ) → name_len xs < n → n ≤ length xs → name_len (take n xs) ≡ name_len xs
name_len-take xs n below few =
    let long : length (take n xs) ≡ n = omega (arith, length-take n xs) in
    position_or_len_is (λ b. b == 0) (take n xs) (name_len xs) 0 (omega (arith, long, below))
    (λ k lt. let same = get_or-take n xs k 0 (omega (arith, lt, below)) in rw same (fails_before_first (λ b. b == 0) xs k 0 lt))
    (λ lt. let same = get_or-take n xs (name_len xs) 0 below in rw same (passes_at_first (λ b. b == 0) xs 0 (omega (arith, below, few))))

-- a name whose check holds is one, and ends within the body
name_found : (named : Bool) (body : List ℕ) (at : ℕ) → at ≤ length body → first_failing (cond named (name_checks body at) []) ≡ None
    → (at ≤ cond named (name_end body at) at) × (cond named (name_end body at) at ≤ length body) × IsNamed named (text_of body at (cond named (name_end body at) at))
unfolding has_name name_end
name_found true body at inside held =
    let xs = drop at body in
    let below : name_len xs < length xs = ltb-true (name_len xs) (length xs) (check_held (nat_lt (name_len xs) (length xs)) (fault.Name at) held) in
    let fit : at + name_len xs + 1 ≤ length body = omega (arith, below, length-drop at body, inside) in
    let n : at + name_len xs + 1 - at ≡ name_len xs + 1 = omega arith in
    let len : length (take (name_len xs + 1) xs) ≡ name_len xs + 1 = omega (arith, length-take (name_len xs + 1) xs, below) in
    (omega arith, fit, rw n (omega (arith, len, name_len-take xs (name_len xs + 1) (omega arith) (omega (arith, below)))))
name_found false body at inside held =
    let none : at - at ≡ 0 = omega arith in
    (omega arith, inside, rw none refl)

-- ---- padding

-- padding whose check holds, by whether a byte follows and whether it is one of padding
padding_by : (a b : Bool) (body : List ℕ) (at : ℕ) → at ≤ length body → nat_lt at (length body) ≡ a → pads (slice_index body at) ≡ b → padding_holds body at ≡ true
    → (at + padding_len body at ≤ length body) × IsPadding (text_of body at (at + padding_len body at))
unfolding padding_len padding_holds
padding_by false b body at inside follows begins held =
    let none : at + 0 - at ≡ 0 = omega arith in
    rw follows (omega (arith, inside), inl (rw none refl))
padding_by true false body at inside follows begins held =
    let none : at + 0 - at ≡ 0 = omega arith in
    rw (follows, begins) (omega (arith, inside), inl (rw none refl))
padding_by true true body at inside follows begins held =
    let byte = slice_index body at in
    let below : at < length body = ltb-true at (length body) follows in
    let range = and_both (nat_le 0xF0 byte) (nat_le byte 0xFF) begins in
    let low : 0xF0 ≤ byte = leb-true 0xF0 byte range.0 in
    let high : byte ≤ 0xFF = leb-true byte 0xFF range.1 in
    let both = and_both (not (byte == 0xF0)) (nat_le (at + (byte - 0xF0)) (length body)) (rw (follows, begins) at held) in
    let fit : at + (byte - 0xF0) ≤ length body = leb-true (at + (byte - 0xF0)) (length body) both.1 in
    let some : 0xF0 < byte = counts byte low both.0 in
    let n : at + (byte - 0xF0) - at ≡ byte - 0xF0 = omega arith in
    let len : length (take (byte - 0xF0) (drop at body)) ≡ byte - 0xF0 = omega (arith, length-take (byte - 0xF0) (drop at body), length-drop at body, fit, below) in
    let first : get_or (take (byte - 0xF0) (drop at body)) 0 0 ≡ byte =
    get_or-take (byte - 0xF0) (drop at body) 0 0 (omega (arith, some)) ∙ get_or-drop at body 0 0 ∙ ap (λ (k : ℕ). get_or body k 0) (add_none at) in
    rw (follows, begins) (fit, inr (rw n (omega (arith, len, some), omega (arith, len, high), omega (arith, len, first, low))))
  where
    add_none : (n : ℕ) → n + 0 ≡ n
    add_none n = omega arith

    counts : (byte : ℕ) → 0xF0 ≤ byte → not (byte == 0xF0) ≡ true → 0xF0 < byte
    counts byte low other = grind (arith, nat_tests)

-- padding whose check holds is padding, and ends within the body
padding_found : (body : List ℕ) (at : ℕ) → at ≤ length body → first_failing (padding_checks body at) ≡ None
    → (at + padding_len body at ≤ length body) × IsPadding (text_of body at (at + padding_len body at))
padding_found body at inside held =
    padding_by (nat_lt at (length body)) (pads (slice_index body at)) body at inside refl refl (check_held (padding_holds body at) (fault.Pad at) held)

-- ---- the member

-- the bytes of a virtual fit if they are checked
virtual_found : (b : Bool) (body : List ℕ) (at : ℕ) → at ≤ length body → first_failing (cond b (field_checks body at 4) []) ≡ None → at + cond b 4 0 ≤ length body
virtual_found true body at inside held = fits_held body at 4 held
virtual_found false body at inside held = omega (arith, inside)

-- the indices fit if they are checked; there are at most two
indices_found : (n : ℕ) (body : List ℕ) (at : ℕ) → n ≤ 2 → at + 4 ≤ length body → first_failing (cond (nat_le 1 n) (field_checks body (at + 4) 4) []) ≡ None → first_failing (cond (nat_le 2 n) (field_checks body (at + 8) 4) []) ≡ None
    → at + 4 + 4 * n ≤ length body
indices_found zero body at few front one two = omega (arith, front)
indices_found (suc zero) body at few front one two = omega (arith, fits_held body (at + 4) 4 one)
indices_found (suc (suc zero)) body at few front one two = omega (arith, fits_held body (at + 8) 4 two)
indices_found (suc (suc (suc n))) body at few front one two = absurd (omega (arith, few))

-- all fields before the numeric leaves
head_found : (m : Member) (body : List ℕ) (at : ℕ) → m.indices ≤ 2 → first_failing (head_checks m body at) ≡ None → head_end m body at ≤ length body
unfolding head_checks
head_found m body at few held =
    let a = field_checks body (at + 2) 2 in
    let b = cond (nat_le 1 m.indices) (field_checks body (at + 4) 4) [] in
    let c = cond (nat_le 2 m.indices) (field_checks body (at + 8) 4) [] in
    let d = cond (has_virtual m body at) (field_checks body (indices_end m at) 4) [] in
    let p = first_failing-parts a (b ++ (c ++ d)) held in
    let q = first_failing-parts b (c ++ d) p.1 in
    let r = first_failing-parts c d q.1 in
    let indices : at + 4 + 4 * m.indices ≤ length body = indices_found m.indices body at few (omega (arith, fits_held body (at + 2) 2 p.0)) q.0 r.0 in
    omega (arith, head_is m body at, virtual_found (has_virtual m body at) body (indices_end m at) indices r.1)

-- a member of a known kind
known_found : (body : List ℕ) (at : ℕ) (m : Member) → member_of (number_at 2 body at) ≡ Some m → first_failing (fields_checks m body at) ≡ None
    → (padded_end m body at ≤ length body) × IsMember (text_of body at (padded_end m body at)) (index_places m)
unfolding fields_checks
known_found body at m is held =
    let i = indices_end m at in
    let h = head_end m body at in
    let n = numbers_end m body at in
    let f = fields_end m body at in
    let e = padded_end m body at in
    let name_part = cond m.named (name_checks body n) [] in
    let p = first_failing-parts (head_checks m body at) (numerics_checks m.numerics body h ++ (name_part ++ padding_checks body f)) held in
    let q = first_failing-parts (numerics_checks m.numerics body h) (name_part ++ padding_checks body f) p.1 in
    let r = first_failing-parts name_part (padding_checks body f) q.1 in
    let few = few_indices (number_at 2 body at) m is in
    let head = head_found m body at few p.0 in
    let head_end_is = head_is m body at in
    let numerics = numerics_found m.numerics body h head q.0 in
    let name = name_found m.named body n numerics.1 r.0 in
    let padding = padding_found body f name.1 r.1 in
    let t = text_of body at e in
    let all : t ≡ text_of body at (at + 4) ++ (text_of body (at + 4) i ++ (text_of body i h ++ (text_of body h n ++ (text_of body n f ++ text_of body f e)))) =
    text_split body at (at + 4) e (omega arith) (omega (arith, head_end_is, numerics.0, name.0))
    ∙ ap (λ (xs : List ℕ). text_of body at (at + 4) ++ xs) (text_split body (at + 4) i e (omega arith) (omega (arith, head_end_is, numerics.0, name.0))
    ∙ ap (λ (xs : List ℕ). text_of body (at + 4) i ++ xs) (text_split body i h e (omega (arith, head_end_is)) (omega (arith, numerics.0, name.0))
    ∙ ap (λ (xs : List ℕ). text_of body i h ++ xs) (text_split body h n e numerics.0 (omega (arith, name.0))
    ∙ ap (λ (xs : List ℕ). text_of body h n ++ xs) (text_split body n f e name.0 (omega arith))))) in
    let long : 4 ≤ e - at = omega (arith, head_end_is, numerics.0, name.0) in
    let kind : number_at 2 t 0 ≡ number_at 2 body at = number_at-take 2 body at (e - at) (omega (arith, long)) in
    let attributes : number_at 2 t 2 ≡ number_at 2 body (at + 2) = second_of_text body at (e - at) long in (
      padding.0,
      record {
        member = m;
        kind = rw kind is;
        front = text_of body at (at + 4);
        indices = text_of body (at + 4) i;
        virtual = text_of body i h;
        numerics = text_of body h n;
        name = text_of body n f;
        padding = text_of body f e;
        parts = all;
        front_long = omega (arith, text_len body at (at + 4) (omega arith) (omega (arith, head, head_end_is)));
        indices_long = omega (arith, text_len body (at + 4) i (omega arith) (omega (arith, head, head_end_is)));
        virtual_long = rw attributes (omega (arith, text_len body i h (omega (arith, head_end_is)) head, head_end_is));
        numerics_are = numerics.2;
        name_is = name.2;
        padding_is = padding.1;
        places_are = refl;
      },
    )

-- a check that fails doesn't hold
never_held : (f : LeafFault) → first_failing (record { holds = false; fault = f } ∷ []) ≡ None → ⊥
never_held f held = absurd cc

-- a member, by whether its kind is known
found_by : (o : Option Member) (body : List ℕ) (at : ℕ) → member_of (number_at 2 body at) ≡ o → first_failing (member_checks body at) ≡ None
    → (member_end body at ≤ length body) × ((here : List ℕ) × IsMember (text_of body at (member_end body at)) here × (member_places body at ≡ map (λ k. at + k) here))
unfolding member_checks member_end member_places
found_by None body at is held =
    let unknown = fault.Member at (number_at 2 body at) in
    absurd (never_held unknown (first_failing-parts (field_checks body at 2) (record { holds = false; fault = unknown } ∷ []) (rw is at held)).1)
found_by (Some m) body at is held =
    let both = first_failing-parts (field_checks body at 2) (fields_checks m body at) (rw is at held) in
    let found = known_found body at m is both.1 in
    rw is (found.0, (index_places m, found.1, refl))

-- what passes the checks of a member is one
pub member_found : (body : List ℕ) (at : ℕ) → first_failing (member_checks body at) ≡ None
    → (member_end body at ≤ length body) × ((here : List ℕ) × IsMember (text_of body at (member_end body at)) here × (member_places body at ≡ map (λ k. at + k) here))
member_found body at held = found_by (member_of (number_at 2 body at)) body at refl held
