-- How texts are placed in a set.
use Rattle.std.proofs.Common.{◌≡◌, ◌≢◌, ◌⊎◌, ℕ, zero, suc, ◌+◌, ◌*◌, ◌<◌, ◌≤◌, ◌^◌, Option, Some, None, Result, Ok, Err, IfOk, IfErr, IfSome, IfNone, List, [], ◌∷◌, ◌++◌, length, take, get_or, refl, sym, ap, ◌∙◌, arith, inl, inr, length-append}
use Rattle.std.specs.List.{Contains, concat}
use Rattle.std.proofs.lemmas.Bool.{cases_lt}
use Rattle.std.proofs.lemmas.List.{get_or_default, get_or-take, get_or_append_left, length-take-le}
use Rattle.std.proofs.Math.Seq.{get_or-append_seam, take_all}
use Rattle.std.proofs.lemmas.List.Quantifiers.{all_pairs_push}
use Rattle.text_set.specs.TextKeys.{HaveKeys, AddsKey}
use Rattle.text_set.specs.TextSet.{AreDistinct, IsInterned, IsKeyed}
use Rattle.text_set.proofs.TextKeyLaws.{keys_pushed}

-- a text of at least four bytes that isn't there is appended
pub distinct_pushed : (texts : List (List ℕ)) (text : List ℕ) → AreDistinct texts → 4 ≤ length text → (Contains texts text → ⊥) → AreDistinct (texts ++ text ∷ [])
distinct_pushed texts text h long new = record {
  distinct = all_pairs_push (λ x y. x ≢ y) texts text h.distinct (λ k d lt e. new (k, lt, get_or_default texts k text d lt ∙ e));
  long = λ k inside. elim (cases_lt k (length texts)) [
    | inl old ↦ rw (get_or_append_left texts (text ∷ []) [] k old) (h.long k old)
    | inr new ↦ let at : k ≡ length texts = omega (arith, new, inside, length-append texts (text ∷ [])) in rw (at, get_or-append_seam texts text [] []) long
  ];
}

-- the first of distinct texts are distinct
pub distinct_first : (texts : List (List ℕ)) (n : ℕ) → n ≤ length texts → AreDistinct texts → AreDistinct (take n texts)
distinct_first texts n inside h =
    let many : length (take n texts) ≡ n = length-take-le n texts inside in
    record {
      distinct = λ i j d less j_in. rw (get_or-take n texts i d (omega (arith, less, j_in, many)), get_or-take n texts j d (omega (arith, j_in, many))) (h.distinct i j d less (omega (arith, j_in, many, inside)));
      long = λ k k_in. rw (get_or-take n texts k [] (omega (arith, k_in, many))) (h.long k (omega (arith, k_in, many, inside)));
    }

-- if each text has at least four bytes, all together have at least four for each
pub four_each : (texts : List (List ℕ)) → ((k : ℕ) → k < length texts → 4 ≤ length (get_or texts k [])) → 4 * length texts ≤ length (concat texts)
four_each [] each = omega arith
four_each (t ∷ texts) each =
    let rest = four_each texts (λ k inside. each (suc k) (omega (arith, inside))) in
    let first : 4 ≤ length t = each 0 (omega arith) in
    omega (arith, rest, first, length-append t (concat texts))

-- there are few texts
pub few_texts : (texts : List (List ℕ)) (text : List ℕ) → AreDistinct texts → length (concat texts) + length text < 2 ^ 33 → 4 ≤ length text → length texts + 1 < 2 ^ 31
few_texts texts text h few long = omega (arith, four_each texts h.long, few, long)

-- ---- What a look-up of the last text leaves

-- the texts and their keys stay as they were, or this text is new, and it and its key come after them
abbrev pub Placed : List (List ℕ) → List (List ℕ) → List ℕ → List ℕ → List ℕ → ℕ → Type 0
Placed texts texts_after keys keys_after text hash =
    ((texts_after ≡ texts) × (keys_after ≡ keys))
    ⊎ ((texts_after ≡ texts ++ text ∷ []) × AddsKey texts text hash keys keys_after × (4 ≤ length text))

-- the set stays a set, with the key of each text, when a text is placed
pub placed_kept : (h : List ℕ → ℕ) (texts after : List (List ℕ)) (keys keys_after text : List ℕ) → Placed texts after keys keys_after text (h text) → AreDistinct texts → HaveKeys h texts keys → length texts + 1 < 2 ^ 31
    → AreDistinct after × HaveKeys h after keys_after
placed_kept h texts after keys keys_after text placed distinct have few = elim placed [
  | inl same ↦ (rw same.0 distinct, rw (same.0, same.1) have)
  | inr more ↦ (rw more.0 (distinct_pushed texts text distinct more.2 more.1.absent), rw more.0 (keys_pushed h texts text (h text) keys keys_after have more.1 refl few))
]

-- there are few texts when a text is placed
pub placed_few : (texts after : List (List ℕ)) (keys keys_after : List ℕ) (text : List ℕ) (hash : ℕ) → Placed texts after keys keys_after text hash → length texts + 1 < 2 ^ 31 → length after < 2 ^ 31
placed_few texts after keys keys_after text hash placed few = elim placed [
  | inl same ↦ rw same.0 (omega (arith, few))
  | inr more ↦ rw more.0 (omega (arith, few, length-append texts (text ∷ [])))
]

-- a list by its last text
by_last : (texts : List (List ℕ)) (last : ℕ) → length texts ≡ last + 1 → texts ≡ take last texts ++ get_or texts last [] ∷ []
by_last [] last many = absurd (omega (arith, many))
by_last (t ∷ []) zero many = refl
by_last (t ∷ u ∷ texts) zero many = absurd (omega (arith, many))
by_last (t ∷ texts) (suc last) many = ap (λ (ts : List (List ℕ)). t ∷ ts) (by_last texts last (omega (arith, many)))

-- a given text was put behind the others, and what it became was looked up among them
pub record IsLookedUp {E : Type 0} (P : List ℕ → Type 0) (h : List ℕ → ℕ) (given : List ℕ) (before changed : List (List ℕ)) (last : ℕ) (keys keys_after : List ℕ) (result : Result (Option ℕ) E) : Type 0 where
  pub others : take last changed ≡ before
  pub many : length changed ≡ last + 1
  pub made : IfOk result (λ found. IfSome found (λ _. P (get_or changed last [])))
  pub long : 4 ≤ length given
  pub same : IfOk result (λ found. IfSome found (λ _. length (get_or changed last []) ≡ length given))
  pub keyed : IfOk result (λ found. IfSome found (IsKeyed before (get_or changed last []) (h (get_or changed last [])) keys keys_after))
  pub kept : IfOk result (λ found. IfNone found (keys_after ≡ keys))
  pub err : IfErr result (λ _. keys_after ≡ keys)

-- the texts that have keys are left
module _ (P : List ℕ → Type 0) (h : List ℕ → ℕ) (given : List ℕ) (before changed : List (List ℕ)) (last : ℕ) (keys keys_after : List ℕ) (is : last ≡ length before) (each : length keys ≡ length before) where
  abbrev text : List ℕ
  text = get_or changed last []

  abbrev after : List (List ℕ)
  after = take (length keys_after) changed

  stay : take last changed ≡ before → keys_after ≡ keys → after ≡ before
  stay others same = ap (λ (n : ℕ). take n changed) (ap length same ∙ each ∙ sym is) ∙ others

  grow : take last changed ≡ before → length changed ≡ last + 1 → AddsKey before text (h text) keys keys_after → after ≡ before ++ text ∷ []
  grow others many adds =
      take_all (length keys_after) changed (omega (arith, many, is, each, ap length adds.last, length-append keys (adds.key ∷ [])))
      ∙ by_last changed last many
      ∙ ap (λ (ts : List (List ℕ)). ts ++ text ∷ []) others

  at_position : (k : ℕ) → take last changed ≡ before → length changed ≡ last + 1 → IsKeyed before text (h text) keys keys_after k → get_or after k [] ≡ text
  at_position k others many keyed = elim keyed [
    | inl old ↦ rw (stay others old.2) old.1
    | inr new ↦ rw (grow others many new.1, new.0) (get_or-append_seam before text [] [])
  ]

  pub placed : {E : Type 0} (result : Result (Option ℕ) E) → IsLookedUp P h given before changed last keys keys_after result → Placed before after keys keys_after text (h text)
  placed (Err e) l = inl (stay l.others l.err, l.err)
  placed (Ok None) l = inl (stay l.others l.kept, l.kept)
  placed (Ok (Some k)) l = elim l.keyed [
    | inl old ↦ inl (stay l.others old.2, old.2)
    | inr new ↦ inr (grow l.others l.many new.1, new.1, omega (arith, l.long, l.same))
  ]

  pub found_text : {E : Type 0} (result : Result (Option ℕ) E) → IsLookedUp P h given before changed last keys keys_after result → IfOk result (λ found. IfSome found (IsInterned P before after))
  found_text (Err e) l = tt
  found_text (Ok None) l = tt
  found_text (Ok (Some k)) l =
      let at = at_position k l.others l.many l.keyed in
      elim l.keyed [
        | inl old ↦ let same = stay l.others old.2 in record { text = text; made = l.made; inside = rw same old.0; at = at; holds = inl same }
        | inr new ↦
            let more = grow l.others l.many new.1 in
            record { text = text; made = l.made; inside = rw (more, new.0) (omega (arith, length-append before (text ∷ []))); at = at; holds = inr (more, new.1.absent) }
      ]

  pub same_long : {E : Type 0} (result : Result (Option ℕ) E) → IsLookedUp P h given before changed last keys keys_after result → IfOk result (λ found. IfSome found (λ k. length (get_or after k []) ≡ length given))
  same_long (Err e) l = tt
  same_long (Ok None) l = tt
  same_long (Ok (Some k)) l = ap length (at_position k l.others l.many l.keyed) ∙ l.same
