-- The keys of texts.
use Rattle.std.proofs.Common.{◌≡◌, ◌≢◌, ℕ, ◌+◌, ◌<◌, ◌≤◌, ◌^◌, Bool, true, false, not, nat_eq, Some, List, [], ◌∷◌, ◌++◌, length, map, take, get_or, slice_get, refl, sym, ap, ◌∙◌, subst, arith, inl, inr, length-append, true≢false, if◌then◌else◌}
use Rattle.std.specs.List.{Contains, IsDistinct, list_any, range_with_len}
use Rattle.std.specs.Set.{is_member}
use Rattle.std.proofs.lemmas.Bool.{cases_lt, cases_order, eqb-true, eq-eqb}
use Rattle.std.proofs.lemmas.Cmp.{nat_eq_equiv}
use Rattle.std.proofs.lemmas.List.{length-map, get_or_default, get_or-take, get_or_append_left, length-take-le}
use Rattle.std.proofs.lemmas.List.FromFn.{get_or-map-range_with_len, length-range_with_len}
use Rattle.std.proofs.lemmas.Map.Keys.{apart_from_distinct, IsDistinct-from_apart}
use Rattle.std.proofs.lemmas.Map.Made.{length-le_from_is_member}
use Rattle.std.proofs.lemmas.Map.Views.{Contains-from_any, list_any-from_Contains}
use Rattle.std.proofs.lemmas.Option.{get_or_from_slice_get}
use Rattle.std.proofs.Math.Seq.{get_or-append_seam}
use Rattle.indexmap.specs.IndexSet.{insert_key}
use Rattle.text_set.specs.TextKeys.{nth_try, IsTaken, IsFirstFree, HaveKeys, LeadTo, AddsKey}

-- the numbers that were tried for this text are keys of other texts
abbrev pub AreOthers : List (List ℕ) → List ℕ → List ℕ → ℕ → ℕ → Type 0
AreOthers texts text keys hash clashes = (i : ℕ) → i < clashes → (k : ℕ) × (k < length texts) × (get_or keys k 0 ≡ nth_try hash i) × (get_or texts k [] ≢ text)

-- ---- Keys that are there

-- a key of the list is the key of a position
taken_from_any : (keys : List ℕ) (number : ℕ) → list_any (nat_eq number) keys ≡ true → IsTaken keys (length keys) number
taken_from_any keys number found =
    let at = Contains-from_any eqb-true number keys found in
    (at.0, at.1, get_or_default keys at.0 0 number at.1 ∙ at.2)

any_from_taken : (keys : List ℕ) (number : ℕ) → IsTaken keys (length keys) number → list_any (nat_eq number) keys ≡ true
any_from_taken keys number taken = list_any-from_Contains nat_eq_equiv number keys (taken.0, taken.1, get_or_default keys taken.0 number 0 taken.1 ∙ taken.2)

-- two positions have two keys
one_position : (keys : List ℕ) (i j : ℕ) → IsDistinct nat_eq keys → i < length keys → j < length keys → get_or keys i 0 ≡ get_or keys j 0 → i ≡ j
one_position keys i j distinct i_in j_in same = elim (cases_order i j) [
  | inl is ↦ is
  | inr w ↦ elim w [
    | inl less ↦ absurd (true≢false (sym (eq-eqb (get_or keys i 0) (get_or keys j 0) same) ∙ apart_from_distinct nat_eq keys i j 0 distinct less j_in))
    | inr more ↦ absurd (true≢false (sym (eq-eqb (get_or keys j 0) (get_or keys i 0) (sym same)) ∙ apart_from_distinct nat_eq keys j i 0 distinct more i_in))
  ]
]

-- ---- Numbers that are tried

-- they are different, as long as they don't come round
tries_apart : (hash i j : ℕ) → i < j → j < 2 ^ 32 → nth_try hash i ≢ nth_try hash j
tries_apart hash i j less small same = omega (arith, less, small, same)

differ : (a b : ℕ) → a ≢ b → nat_eq a b ≡ false
differ a b apart = by (nat_eq a b) refl
  where
    by : (e : Bool) → nat_eq a b ≡ e → nat_eq a b ≡ false
    by true e = absurd (apart (eqb-true a b e))
    by false e = e

module _ (keys : List ℕ) (hash clashes : ℕ) (small : clashes < 2 ^ 32) (taken : (i : ℕ) → i < clashes → IsTaken keys (length keys) (nth_try hash i)) where
  tried : List ℕ
  tried = map (nth_try hash) (range_with_len 0 clashes)

  many : length tried ≡ clashes
  unfolding tried
  many = length-map (range_with_len 0 clashes) (nth_try hash) ∙ length-range_with_len 0 clashes

  nth : (i d : ℕ) → i < clashes → get_or tried i d ≡ nth_try hash i
  unfolding tried
  nth i d inside = get_or-map-range_with_len (nth_try hash) 0 clashes i i d inside (omega arith)

  all_apart : IsDistinct nat_eq tried
  all_apart = IsDistinct-from_apart nat_eq tried (λ i j d less inside. differ (get_or tried i d) (get_or tried j d)
      (λ e. tries_apart hash i j less (omega (arith, inside, many, small)) (sym (nth i d (omega (arith, less, inside, many))) ∙ e ∙ nth j d (omega (arith, inside, many)))))

  all_there : (q : ℕ) → is_member nat_eq tried q ≡ true → is_member nat_eq keys q ≡ true
  all_there q member =
      let at = taken_from_any tried q member in
      any_from_taken keys q (subst (IsTaken keys (length keys)) (sym (nth at.0 0 (omega (arith, at.1, many))) ∙ at.2) (taken at.0 (omega (arith, at.1, many))))

  -- there are no more clashes than keys
  pub few_clashes : clashes ≤ length keys
  few_clashes = omega (arith, many, length-le_from_is_member nat_eq_equiv tried keys all_apart all_there)

-- one more number is the key of another text
pub others_more : (texts : List (List ℕ)) (text keys : List ℕ) (hash clashes position : ℕ) → AreOthers texts text keys hash clashes → position < length texts → get_or keys position 0 ≡ nth_try hash clashes → get_or texts position [] ≢ text → AreOthers texts text keys hash (clashes + 1)
others_more texts text keys hash clashes position others inside at apart i below = elim (cases_lt i clashes) [
  | inl old ↦ others i old
  | inr new ↦ let is : i ≡ clashes = omega (arith, below, new) in (position, inside, at ∙ ap (nth_try hash) (sym is), apart)
]

-- all numbers that were tried are taken
pub others_taken : (texts : List (List ℕ)) (text keys : List ℕ) (hash clashes : ℕ) → length keys ≡ length texts → AreOthers texts text keys hash clashes → (i : ℕ) → i < clashes → IsTaken keys (length keys) (nth_try hash i)
others_taken texts text keys hash clashes each others i below = let o = others i below in (o.0, omega (arith, o.1, each), o.2)

-- a text isn't there if other texts have the numbers that were tried, and no text has the next one
pub new_text : (texts : List (List ℕ)) (text keys : List ℕ) (hash clashes : ℕ) → LeadTo texts keys text hash → AreOthers texts text keys hash clashes → (IsTaken keys (length keys) (nth_try hash clashes) → ⊥) → Contains texts text → ⊥
new_text texts text keys hash clashes keyed others free (k, inside, at) =
    let here : get_or texts k [] ≡ text = get_or_default texts k [] text inside ∙ at in
    let f = keyed.first_free k inside here in
    let k_in : k < length keys = omega (arith, inside, keyed.each) in
    elim (cases_order f.clashes clashes) [
      | inl same ↦ free (k, k_in, f.is ∙ ap (nth_try hash) same)
      | inr w ↦ elim w [
        | inl fewer ↦
            let o = others f.clashes fewer in
            let is : o.0 ≡ k = one_position keys o.0 k keyed.distinct (omega (arith, o.1, keyed.each)) k_in (o.2 ∙ sym f.is) in
            o.3 (ap (λ (n : ℕ). get_or texts n []) is ∙ here)
        | inr more ↦ let t = f.taken clashes more in free (t.0, omega (arith, t.1, k_in), t.2)
      ]
    ]

-- ---- What the set of keys answers

-- it has the key already
pub key_there : (keys after : List ℕ) (key position : ℕ) (new : Bool) → new ≡ false → new ≡ not (list_any (nat_eq key) keys) → after ≡ insert_key nat_eq keys key → after ≡ keys
key_there keys after key position new old added is = by (list_any (nat_eq key) keys) refl (sym old ∙ added) is
  where
    by : (b : Bool) → list_any (nat_eq key) keys ≡ b → false ≡ not b → after ≡ (if b then keys else keys ++ key ∷ []) → after ≡ keys
    by true e same put = put
    by false e same put = absurd (true≢false (sym same))

pub key_at : (keys : List ℕ) (key position : ℕ) → (k : ℕ) × (slice_get keys position ≡ Some k) × (nat_eq key k ≡ true) → get_or keys position 0 ≡ key
key_at keys key position stored = get_or_from_slice_get keys position stored.0 0 stored.1 ∙ sym (eqb-true key stored.0 stored.2)

-- it did not have the key
pub key_last : (keys after : List ℕ) (key : ℕ) (new : Bool) → new ≡ true → new ≡ not (list_any (nat_eq key) keys) → after ≡ insert_key nat_eq keys key → (after ≡ keys ++ key ∷ []) × (IsTaken keys (length keys) key → ⊥)
key_last keys after key new is_new added is = by (list_any (nat_eq key) keys) refl (sym is_new ∙ added) is
  where
    by : (b : Bool) → list_any (nat_eq key) keys ≡ b → true ≡ not b → after ≡ (if b then keys else keys ++ key ∷ []) → (after ≡ keys ++ key ∷ []) × (IsTaken keys (length keys) key → ⊥)
    by true e same put = absurd (true≢false same)
    by false e same put = (put, λ taken. true≢false (sym (any_from_taken keys key taken) ∙ e))

-- and the new key stands after the others
pub key_behind : (keys after : List ℕ) (key position : ℕ) → (after ≡ keys ++ key ∷ []) × (IsTaken keys (length keys) key → ⊥) → (k : ℕ) × (slice_get after position ≡ Some k) × (nat_eq key k ≡ true) → position < length after → position ≡ length keys
key_behind keys after key position last stored within = elim (cases_lt position (length keys)) [
  | inl old ↦
      let at : get_or keys position 0 ≡ key = sym (get_or_append_left keys (key ∷ []) 0 position old) ∙ ap (λ (xs : List ℕ). get_or xs position 0) (sym last.0) ∙ key_at after key position stored in
      absurd (last.1 (position, old, at))
  | inr new ↦ omega (arith, new, within, ap length last.0, length-append keys (key ∷ []))
]

-- ---- Keys of more texts, and of fewer

-- the keys from `end` on don't matter
free_still : (keys after : List ℕ) (end hash key : ℕ) → ((j : ℕ) → j < end → get_or after j 0 ≡ get_or keys j 0) → IsFirstFree keys end hash key → IsFirstFree after end hash key
free_still keys after end hash key same f = record {
  clashes = f.clashes;
  is = f.is;
  taken = λ i below. let t = f.taken i below in (t.0, t.1, same t.0 t.1 ∙ t.2);
}

pub keys_pushed : (h : List ℕ → ℕ) (texts : List (List ℕ)) (text : List ℕ) (hash : ℕ) (keys after : List ℕ) → HaveKeys h texts keys → AddsKey texts text hash keys after → hash ≡ h text → length texts + 1 < 2 ^ 31 → HaveKeys h (texts ++ text ∷ []) after
keys_pushed h texts text hash keys after have adds is few =
    let long : length after ≡ length keys + 1 = ap length adds.last ∙ length-append keys (adds.key ∷ []) in
    let kept : (j : ℕ) → j < length keys → get_or after j 0 ≡ get_or keys j 0 = λ j below. ap (λ (xs : List ℕ). get_or xs j 0) adds.last ∙ get_or_append_left keys (adds.key ∷ []) 0 j below in
    record {
      each = omega (arith, long, have.each, length-append texts (text ∷ []));
      few = omega (arith, long, have.each, few);
      distinct = adds.distinct;
      first_free = λ k inside. elim (cases_lt k (length keys)) [
        | inl old ↦ rw (kept k old, get_or_append_left texts (text ∷ []) [] k (omega (arith, old, have.each)))
            (free_still keys after k (h (get_or texts k [])) (get_or keys k 0) (λ j below. kept j (omega (arith, below, old))) (have.first_free k old))
        | inr new ↦
            let at : k ≡ length keys = omega (arith, new, inside, long) in
            let last : get_or after k 0 ≡ adds.key = ap (λ (xs : List ℕ). get_or xs k 0) adds.last ∙ ap (λ (n : ℕ). get_or (keys ++ adds.key ∷ []) n 0) at ∙ get_or-append_seam keys adds.key [] 0 in
            let here : get_or (texts ++ text ∷ []) k [] ≡ text = ap (λ (n : ℕ). get_or (texts ++ text ∷ []) n []) (at ∙ have.each) ∙ get_or-append_seam texts text [] [] in
            rw (last, here, at, ← is) (free_still keys after (length keys) hash adds.key kept adds.first_free)
      ];
    }

pub keys_first : (h : List ℕ → ℕ) (texts : List (List ℕ)) (keys : List ℕ) (n : ℕ) → HaveKeys h texts keys → n ≤ length texts → IsDistinct nat_eq (take n keys) → HaveKeys h (take n texts) (take n keys)
keys_first h texts keys n have inside distinct =
    let many : length (take n keys) ≡ n = length-take-le n keys (omega (arith, inside, have.each)) in
    record {
      each = many ∙ sym (length-take-le n texts inside);
      few = omega (arith, many, inside, have.each, have.few);
      distinct = distinct;
      first_free = λ k k_in.
          let less : k < n = omega (arith, k_in, many) in
          rw (get_or-take n keys k 0 less, get_or-take n texts k [] less)
          (free_still keys (take n keys) k (h (get_or texts k [])) (get_or keys k 0) (λ j below. get_or-take n keys j 0 (omega (arith, below, less))) (have.first_free k (omega (arith, less, inside, have.each))));
    }
