-- Where names end, by the next NUL.
use Rattle.std.proofs.Common.{◌≡◌, ◌≤◌, ◌<◌, ◌+◌, ◌-◌, ◌*◌, ◌^◌, ℕ, suc, true, false, List, [], ◌∷◌, Some, None, length, take, drop, get_or, set, refl, ◌∙◌, sym, ap, arith, inl, inr}
use Rattle.std.specs.Prelude.{◌==◌, nat_lt}
use Rattle.std.specs.List.{list_any}
use Rattle.std.proofs.lemmas.Bool.{cases_lt, cases_eq, lt-ltb, le-ltb, false_from_ne_true}
use Rattle.std.proofs.lemmas.List.{drop-drop, drop_all, length-drop, length-set, length-take, length-take-le, get_or-drop, get_or-take, get_or-set_same, get_or-set_other}
use Rattle.std.proofs.lemmas.List.Folds.{list_any_at}
use Rattle.std.proofs.lemmas.List.Sums.{position_or_len_is, fails_before_first, passes_at_first, prefix_len-le-length}
use Rattle.bstr.specs.Find.{IsFirstByte, IsLastByte, is_byte}
use Rattle.byte_fields.specs.Name.{name_len}
use Rattle.byte_fields.specs.Bytes.{AreBytes}
use Rattle.byte_fields.specs.Number.{number_at}
use Rattle.byte_fields.proofs.NumberLaws.{number_at-small}
use Rattle.pdb_info.specs.Names.{is_named, buffer_of}
use Rattle.pdb_info.specs.Ends.{AreEnds}

-- ---- The last NUL

none_is_nul : (bytes : List ℕ) → ((k : ℕ) → k < length bytes → (get_or bytes k 0 == 0) ≡ true → ⊥) → list_any (λ byte. byte == 0) bytes ≡ false
none_is_nul [] none = refl
none_is_nul (b ∷ bytes) none =
    let first : (b == 0) ≡ false = false_from_ne_true _ (λ is. none 0 (omega arith) is) in
    rw (first, none_is_nul bytes (λ k inside is. none (suc k) (omega (arith, inside)) is)) refl

-- no name has an end where there is no NUL
pub none_named : (buffer : List ℕ) → IsLastByte (is_byte 0) buffer None → (offset : ℕ) → is_named buffer offset ≡ nat_lt offset 0
none_named buffer none offset =
    none_is_nul (drop offset buffer) (λ k inside is. none (offset + k) (omega arith) (omega (arith, inside, length-drop offset buffer)) (ap (λ byte. byte == 0) (sym (get_or-drop offset buffer k 0)) ∙ is))
    ∙ sym (le-ltb offset 0 (omega arith))

-- a name has an end if it begins at the last NUL or before it
pub last_named : (buffer : List ℕ) (last : ℕ) → IsLastByte (is_byte 0) buffer (Some last) → (offset : ℕ) → is_named buffer offset ≡ nat_lt offset (last + 1)
last_named buffer last is offset = elim (cases_lt offset (last + 1)) [
  | inl low ↦
      let at : get_or (drop offset buffer) (last - offset) 0 ≡ get_or buffer last 0 =
      get_or-drop offset buffer (last - offset) 0 ∙ (let back : offset + (last - offset) ≡ last = omega (arith, low) in ap (λ (k : ℕ). get_or buffer k 0) back) in
      list_any_at (λ byte. byte == 0) (drop offset buffer) (last - offset) 0 (omega (arith, low, is.0.high, length-drop offset buffer)) (ap (λ byte. byte == 0) at ∙ is.1)
      ∙ sym (lt-ltb offset (last + 1) low)
  | inr high ↦
      none_is_nul (drop offset buffer) (λ k inside here. is.0.after (offset + k) (omega (arith, high)) (omega (arith, inside, length-drop offset buffer)) (ap (λ byte. byte == 0) (sym (get_or-drop offset buffer k 0)) ∙ here))
      ∙ sym (le-ltb offset (last + 1) high)
]

-- a name with an end begins in the buffer
pub named_inside : (buffer : List ℕ) (offset : ℕ) → is_named buffer offset ≡ true → offset ≤ length buffer
named_inside buffer offset named = elim (cases_lt (length buffer) offset) [
  | inl past ↦ let none : drop offset buffer ≡ [] = drop_all offset buffer (omega (arith, past)) in never (rw none at named)
  | inr inside ↦ inside
]
  where
    never : {A : Type 0} → false ≡ true → A
    never is = absurd cc

-- ---- The next NUL

name_short : (bytes : List ℕ) → name_len bytes ≤ length bytes
name_short bytes = prefix_len-le-length _ bytes

-- a name ends in the buffer
pub end_inside : (buffer : List ℕ) (start : ℕ) → start ≤ length buffer → start + name_len (drop start buffer) ≤ length buffer
end_inside buffer start inside = omega (arith, inside, name_short (drop start buffer), length-drop start buffer)

-- bytes that are not NUL belong to the name
name_skips : (bytes : List ℕ) (n : ℕ) → n ≤ length bytes → ((k : ℕ) → k < n → (get_or bytes k 0 == 0) ≡ false) → name_len bytes ≡ n + name_len (drop n bytes)
name_skips bytes n le none =
    let rest : List ℕ = drop n bytes in
    let long = length-drop n bytes in
    position_or_len_is (λ byte. byte == 0) bytes (n + name_len rest) 0 (omega (arith, long, le, name_short rest))
    (λ k below. elim (cases_lt k n) [
      | inl low ↦ none k low
      | inr high ↦ ap (λ byte. byte == 0) (sym (there k high)) ∙ fails_before_first (λ byte. byte == 0) rest (k - n) 0 (omega (arith, below, high))
    ])
    (λ inside. ap (λ byte. byte == 0) (sym (get_or-drop n bytes (name_len rest) 0)) ∙ passes_at_first (λ byte. byte == 0) rest 0 (omega (arith, inside, long)))
  where
    there : (k : ℕ) → n ≤ k → get_or (drop n bytes) (k - n) 0 ≡ get_or bytes k 0
    there k high = get_or-drop n bytes (k - n) 0 ∙ (let back : n + (k - n) ≡ k = omega (arith, high) in ap (λ (j : ℕ). get_or bytes j 0) back)

-- no NUL comes between the two offsets
pub end_after : (buffer part : List ℕ) (start stop end : ℕ) → part ≡ take (stop - start) (drop start buffer) → start ≤ stop → stop ≤ length buffer → end ≡ stop + name_len (drop stop buffer) → IsFirstByte (is_byte 0) part None
    → end ≡ start + name_len (drop start buffer)
end_after buffer part start stop end cut order inside known none =
    let long : length part ≡ stop - start = ap length cut ∙ length-take-le (stop - start) (drop start buffer) (omega (arith, length-drop start buffer, inside)) in
    let skipped = name_skips (drop start buffer) (stop - start) (omega (arith, length-drop start buffer, inside))
    (λ k below. false_from_ne_true _ (λ is. none k (omega arith) (omega (arith, below, long)) (ap (λ byte. byte == 0) (ap (λ (x : List ℕ). get_or x k 0) cut ∙ get_or-take (stop - start) (drop start buffer) k 0 below) ∙ is))) in
    let further : drop (stop - start) (drop start buffer) ≡ drop stop buffer = drop-drop (stop - start) start buffer ∙ (let back : start + (stop - start) ≡ stop = omega (arith, order) in ap (λ (k : ℕ). drop k buffer) back) in
    omega (arith, known, skipped, ap name_len further, order)

-- a NUL comes between the two offsets
pub end_between : (buffer part : List ℕ) (start stop len : ℕ) → part ≡ take (stop - start) (drop start buffer) → start ≤ stop → stop ≤ length buffer → IsFirstByte (is_byte 0) part (Some len) → start + len ≡ start + name_len (drop start buffer)
end_between buffer part start stop len cut order inside first =
    let long : length part ≡ stop - start = ap length cut ∙ length-take-le (stop - start) (drop start buffer) (omega (arith, length-drop start buffer, inside)) in
    let below : len < stop - start = omega (arith, first.0.high, long) in
    let found : name_len (drop start buffer) ≡ len = position_or_len_is (λ byte. byte == 0) (drop start buffer) len 0 (omega (arith, below, length-drop start buffer, inside))
    (λ k before. false_from_ne_true _ (λ is. first.0.before k (omega arith) before (ap (λ byte. byte == 0) (at k (omega (arith, before, below))) ∙ is)))
    (λ there. ap (λ byte. byte == 0) (sym (at len below)) ∙ first.1) in
    omega (arith, found)
  where
    at : (k : ℕ) → k < stop - start → get_or part k 0 ≡ get_or (drop start buffer) k 0
    at k below = ap (λ (x : List ℕ). get_or x k 0) cut ∙ get_or-take (stop - start) (drop start buffer) k 0 below

-- ---- The ends at the parts, from the last one on

-- the ends are known for the parts from this one on, and the name that begins at `stop` ends at `end`
pub record IsEnding (buffer ends : List ℕ) (parts stop end : ℕ) : Type 0 where
  pub inside : stop ≤ length buffer
  pub low : 64 * parts ≤ stop + 64
  pub known : end ≡ stop + name_len (drop stop buffer)
  pub all : (part : ℕ) → 64 * part ≤ length buffer → part < length ends
  pub each : (part : ℕ) → parts ≤ part → 64 * part ≤ length buffer → get_or ends part 0 ≡ 64 * part + name_len (drop (64 * part) buffer)

-- the end at one more part
pub ending_more : (buffer ends : List ℕ) (parts before stop end now : ℕ) → IsEnding buffer ends before stop end → before ≡ parts + 1 → now ≡ 64 * parts + name_len (drop (64 * parts) buffer) → IsEnding buffer (set ends parts now) parts (64 * parts) now
ending_more buffer ends parts before stop end now e one is =
    let within : 64 * parts ≤ length buffer = omega (arith, e.low, e.inside, one) in
    record {
      inside = within;
      low = omega arith;
      known = is;
      all = λ part inside. omega (arith, e.all part inside, length-set ends parts now);
      each = λ part from inside. elim (cases_eq part parts) [
        | inl same ↦ rw (same, get_or-set_same ends parts now 0 (e.all parts within)) is
        | inr other ↦ rw (get_or-set_other ends parts part now 0 other) (e.each part (omega (arith, from, other, one)) inside)
      ];
    }

-- at the end all are known
pub ending_ends : (buffer ends : List ℕ) (stop end : ℕ) → IsEnding buffer ends 0 stop end → AreEnds buffer ends
ending_ends buffer ends stop end e part inside = (e.all part inside, e.each part (omega arith) inside)

-- ---- The string buffer

-- a buffer has fewer than 2^32 bytes
pub buffer_short : (stream : List ℕ) → AreBytes stream → length (buffer_of stream) < 2 ^ 32
unfolding buffer_of
buffer_short stream bytes = omega (arith, length-take (number_at 4 stream 28) (drop 32 stream), number_at-small stream 28 bytes)
