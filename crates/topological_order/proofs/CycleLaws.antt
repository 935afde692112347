-- There is one largest set of nodes that lead into a cycle, and it excludes every rank.
use Rattle.std.proofs.Common.{◌≡◌, ◌<◌, ℕ, suc, List, [], ◌∷◌, refl, sym, ap, ◌∙◌, arith, inl, inr}
use Rattle.std.specs.List.{AllPairs, Contains}
use Rattle.topological_order.specs.Laws.{OneCycleSet, CyclesHaveNoRank}
use Rattle.topological_order.proofs.WalkLaws.{none_in}
use Rattle.topological_order.proofs.OrderLaws.{in_cons, in_head, in_tail, ranked_uncaught}

-- in a rising list, each number after the first one is greater
first_least : (x : ℕ) (xs : List ℕ) (n : ℕ) → AllPairs (λ a b. a < b) (x ∷ xs) → Contains xs n → x < n
first_least x xs n rising (k, lt, at) = omega (arith, rising 0 (suc k) n (omega arith) (omega (arith, lt)), at)

-- the numbers after the first one rise too
others_rise : (x : ℕ) (xs : List ℕ) → AllPairs (λ a b. a < b) (x ∷ xs) → AllPairs (λ a b. a < b) xs
others_rise x xs rising = λ i j d lt below. rising (suc i) (suc j) d (omega (arith, lt)) (omega (arith, below))

-- two rising lists of the same numbers are equal
same_rising : (xs ys : List ℕ) → AllPairs (λ a b. a < b) xs → AllPairs (λ a b. a < b) ys → ((n : ℕ) → Contains xs n → Contains ys n) → ((n : ℕ) → Contains ys n → Contains xs n) → xs ≡ ys
same_rising [] [] rise rose there back = refl
same_rising [] (y ∷ ys) rise rose there back = none_in y (back y (in_head y ys))
same_rising (x ∷ xs) [] rise rose there back = none_in x (there x (in_head x xs))
same_rising (x ∷ xs) (y ∷ ys) rise rose there back =
    let rest = same_rising xs ys (others_rise x xs rise) (others_rise y ys rose) (λ n on. forth n on) (λ n on. back_again n on) in
    ap (λ (z : ℕ). z ∷ xs) first ∙ ap (λ (zs : List ℕ). y ∷ zs) rest
  where
    first : x ≡ y
    first = elim (in_cons y ys x (there x (in_head x xs))) [
      | inl same ↦ sym same
      | inr later ↦ elim (in_cons x xs y (back y (in_head y ys))) [
        | inl same ↦ same
        | inr after ↦ absurd (omega (arith, first_least y ys x rose later, first_least x xs y rise after))
      ]
    ]

    forth : (n : ℕ) → Contains xs n → Contains ys n
    forth n on = elim (in_cons y ys n (there n (in_tail x xs n on))) [
      | inl same ↦ absurd (omega (arith, first_least x xs n rise on, first, same))
      | inr later ↦ later
    ]

    back_again : (n : ℕ) → Contains ys n → Contains xs n
    back_again n on = elim (in_cons x xs n (back n (in_tail y ys n on))) [
      | inl same ↦ absurd (omega (arith, first_least y ys n rose on, first, same))
      | inr later ↦ later
    ]

-- a graph has at most one largest set
pub one_cycle_set : OneCycleSet
one_cycle_set graph nodes others a b = same_rising nodes others a.rising b.rising (λ n on. b.largest nodes a.names n on) (λ n on. a.largest others b.names n on)

-- a graph with nodes that lead into a cycle has no rank
pub cycles_have_no_rank : CyclesHaveNoRank
cycles_have_no_rank graph nodes rank set ranked = ranked_uncaught graph nodes rank set ranked
