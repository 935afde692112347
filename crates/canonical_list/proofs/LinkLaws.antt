-- How the positions of each level are linked.
use Rattle.std.proofs.Common.{◌≡◌, ◌≢◌, ℕ, zero, suc, ◌+◌, ◌-◌, ◌<◌, ◌^◌, List, [], ◌∷◌, ◌++◌, length, take, set, get_or, replicate, Option, Some, None, refl, sym, ap, ◌∙◌, subst, arith, inl, inr}
use Rattle.std.specs.Prelude.{IfSome}
use Rattle.std.proofs.lemmas.Bool.{cases_lt, cases_eq}
use Rattle.std.proofs.lemmas.List.{length-take-le, get_or-take, get_or_append_left, get_or-set_same, get_or-set_other}
use Rattle.std.proofs.Math.Seq.{get_or-append_seam}
use Rattle.canonical_list.specs.Links.{IsNewest, AreLinked}

-- the number at any place among zeros is 0
zeros_at : (n d : ℕ) → get_or (replicate {A = ℕ} n 0) d 0 ≡ 0
zeros_at zero d = refl
zeros_at (suc n) zero = refl
zeros_at (suc n) (suc d) = zeros_at n d

-- zeros are small numbers
pub zeros_small : (numbers : List ℕ) (count : ℕ) → numbers ≡ replicate count 0 → (k : ℕ) → get_or numbers k 0 < 2 ^ 31
zeros_small numbers count zeros k = omega (arith, ap (λ (x : List ℕ). get_or x k 0) zeros, zeros_at count k)

-- before the first position, no level leads anywhere
pub linked_none : (newest : List ℕ) (levels : ℕ) → newest ≡ replicate levels 0 → AreLinked [] newest []
linked_none newest levels zeros = record {
  newest_lead = λ d. let nowhere : get_or newest d 0 ≡ 0 = ap (λ (x : List ℕ). get_or x d 0) zeros ∙ zeros_at levels d in
      rw nowhere (record { inside = omega arith; here = λ some. absurd (omega (arith, some)); others = λ j from below. absurd (omega (arith, below)) });
  older_lead = λ k below. absurd (omega (arith, below));
}

-- ---- One more position

-- the depths from `end` on don't matter
newest_still : (depths after : List ℕ) (d end link : ℕ) → ((j : ℕ) → j < end → get_or after j 0 ≡ get_or depths j 0) → IsNewest depths d end link → IsNewest after d end link
newest_still depths after d end link same h = record {
  inside = h.inside;
  here = λ some. rw (same (link - 1) (omega (arith, some, h.inside))) (h.here some);
  others = λ j from below. rw (same j below) (h.others j from below);
}

-- the position has another depth
newest_past : (depths : List ℕ) (d end link : ℕ) → IsNewest depths d end link → get_or depths end 0 ≢ d → IsNewest depths d (end + 1) link
newest_past depths d end link h apart = record {
  inside = omega (arith, h.inside);
  here = h.here;
  others = λ j from below. elim (cases_lt j end) [
    | inl old ↦ h.others j from old
    | inr new ↦ let at : end ≡ j = omega arith in subst (λ (k : ℕ). get_or depths k 0 ≢ d) at apart
  ];
}

-- the position has this depth
newest_here : (depths : List ℕ) (d end : ℕ) → get_or depths end 0 ≡ d → IsNewest depths d (end + 1) (end + 1)
newest_here depths d end is = record {
  inside = omega arith;
  here = λ some. let e : end ≡ end + 1 - 1 = omega arith in subst (λ (k : ℕ). get_or depths k 0 ≡ d) e is;
  others = λ j from below. absurd (omega (arith, from, below));
}

module _ (depths newest older : List ℕ) (k : ℕ) (h : AreLinked (take k depths) newest older) (many : length older ≡ k) (inside : k < length depths) where
  front : List ℕ
  front = take k depths

  all : List ℕ
  all = take (k + 1) depths

  short : length front ≡ k
  unfolding front
  short = length-take-le k depths (omega (arith, inside))

  long : length all ≡ k + 1
  unfolding all
  long = length-take-le (k + 1) depths (omega (arith, inside))

  kept : (j : ℕ) → j < k → get_or all j 0 ≡ get_or front j 0
  unfolding all front
  kept j below = get_or-take (k + 1) depths j 0 (omega (arith, below)) ∙ sym (get_or-take k depths j 0 below)

  seam : get_or all k 0 ≡ get_or depths k 0
  unfolding all
  seam = get_or-take (k + 1) depths k 0 (omega arith)

  -- what leads to the last position of a depth, up to this one
  lead : (d : ℕ) → IsNewest all d k (get_or newest d 0)
  unfolding front
  lead d = newest_still front all d k (get_or newest d 0) kept (rw short at h.newest_lead d)

  newest_after : (d q : ℕ) → d ≡ get_or depths k 0 → d < length newest → IsNewest all q (k + 1) (get_or (set newest d (k + 1)) q 0)
  newest_after d q is low = elim (cases_eq q d) [
    | inl same ↦ rw (same, get_or-set_same newest d (k + 1) 0 low) (newest_here all d k (seam ∙ sym is))
    | inr apart ↦ rw (get_or-set_other newest d q (k + 1) 0 apart) (newest_past all q k (get_or newest q 0) (lead q) (λ e. apart (sym e ∙ seam ∙ sym is)))
  ]

  older_after : (d j : ℕ) → d ≡ get_or depths k 0 → j < k + 1 → IsNewest all (get_or all j 0) j (get_or (older ++ get_or newest d 0 ∷ []) j 0)
  unfolding front
  older_after d j is below = elim (cases_lt j k) [
    | inl old ↦ rw (kept j old, get_or_append_left older (get_or newest d 0 ∷ []) 0 j (omega (arith, old, many)))
        (newest_still front all (get_or front j 0) j (get_or older j 0) (λ i less. kept i (omega (arith, less, old))) (h.older_lead j (omega (arith, old, short))))
    | inr new ↦
        let at : j ≡ k = omega (arith, below, new) in
        let last : get_or (older ++ get_or newest d 0 ∷ []) k 0 ≡ get_or newest d 0 = ap (λ (n : ℕ). get_or (older ++ get_or newest d 0 ∷ []) n 0) (sym many) ∙ get_or-append_seam older (get_or newest d 0) [] 0 in
        rw (at, last, seam, ← is) (lead d)
  ]

  -- one more position is linked
  pub linked_more : (d : ℕ) → d ≡ get_or depths k 0 → d < length newest → AreLinked (take (k + 1) depths) (set newest d (k + 1)) (older ++ get_or newest d 0 ∷ [])
  unfolding all
  linked_more d is low = record {
    newest_lead = λ q. rw long (newest_after d q is low);
    older_lead = λ j below. older_after d j is (rw long at below);
  }

-- ---- Along the links

-- one more than a position, or 0
unfoldable pub bound : Option ℕ → ℕ
bound None = 0
bound (Some k) = k + 1

pub smaller : (P : ℕ → Type 0) (position : ℕ) (o : Option ℕ) → IfSome o (λ k. (k < position) × P k) → bound o < position + 1
unfolding bound
smaller P position None found = omega arith
smaller P position (Some k) found = omega (arith, found.0)

pub bound_of : (position : ℕ) → bound (Some position) ≡ position + 1
unfolding bound
bound_of position = refl

pub bound_none : bound None ≡ 0
unfolding bound
bound_none = refl
