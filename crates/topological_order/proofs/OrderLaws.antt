-- The order that a walk leaves, and the nodes that it leaves out.
use Rattle.std.proofs.Common.{◌≡◌, ◌<◌, ◌⊎◌, ℕ, zero, suc, List, [], ◌∷◌, length, take, get_or, refl, sym, ◌∙◌, subst, arith, inl, inr}
use Rattle.std.specs.Prelude.{nat_eq, if◌then◌else◌}
use Rattle.std.specs.List.{Contains}
use Rattle.std.proofs.lemmas.Bool.{cases_lt, cases_eq, eq-eqb, ne_eqb}
use Rattle.std.proofs.lemmas.List.{get_or_past}
use Rattle.std.proofs.lemmas.List.Elements.{All-contains, Contains-get_or}
use Rattle.topological_order.specs.Graph.{Names, IsRank}
use Rattle.topological_order.specs.Order.{ComesAfter, IsOrder}
use Rattle.topological_order.specs.Cycle.{NameOneAnother, IsCycleSet}
use Rattle.topological_order.specs.Laws.{OrdersRank}
use Rattle.topological_order.specs.Walk.{mark_at, IsPlaced, IsWalk, AreCaught}
use Rattle.topological_order.specs.declared.walk.Mark.{Mark}
use Rattle.topological_order.specs.declared.walk.Mark.TheVariants.{New, Met, Placed}
use Rattle.topological_order.proofs.WalkLaws.{marked_inside, none_in, new_placed, met_placed}

-- ---- what is in a list

-- the first of a list, or one of the others
pub in_cons : (x : ℕ) (xs : List ℕ) (y : ℕ) → Contains (x ∷ xs) y → (x ≡ y) ⊎ Contains xs y
in_cons x xs y (zero, lt, at) = inl at
in_cons x xs y (suc k, lt, at) = inr (k, omega (arith, lt), at)

pub in_head : (x : ℕ) (xs : List ℕ) → Contains (x ∷ xs) x
in_head x xs = (0, omega arith, refl)

pub in_tail : (x : ℕ) (xs : List ℕ) (y : ℕ) → Contains xs y → Contains (x ∷ xs) y
in_tail x xs y (k, lt, at) = (suc k, omega (arith, lt), at)

-- ---- the place in an order

-- the first place of a node
place_in : List ℕ → ℕ → ℕ
place_in [] p = 0
place_in (x ∷ xs) p = if nat_eq x p then 0 else suc (place_in xs p)

place_here : (x : ℕ) (xs : List ℕ) (p : ℕ) → x ≡ p → place_in (x ∷ xs) p ≡ 0
unfolding place_in
place_here x xs p same = rw (eq-eqb x p same) refl

place_later : (x : ℕ) (xs : List ℕ) (p : ℕ) → (x ≡ p → ⊥) → place_in (x ∷ xs) p ≡ suc (place_in xs p)
unfolding place_in
place_later x xs p other = rw (ne_eqb x p other) refl

-- a node of the order is at its place
place_is : (order : List ℕ) (p : ℕ) → Contains order p → (place_in order p < length order) × (get_or order (place_in order p) 0 ≡ p)
place_is [] p there = none_in p there
place_is (x ∷ xs) p there = elim (cases_eq x p) [
  | inl same ↦ rw (place_here x xs p same) (omega arith, same)
  | inr other ↦ elim (in_cons x xs p there) [
    | inl same ↦ absurd (other same)
    | inr later ↦
        let rest = place_is xs p later in
        rw (place_later x xs p other) (omega (arith, rest.0), rest.1)
  ]
]

-- a node before a place has a lower place
place_below : (order : List ℕ) (k p : ℕ) → Contains (take k order) p → place_in order p < k
place_below order zero p there = none_in p there
place_below [] (suc k) p there = none_in p there
place_below (x ∷ xs) (suc k) p there = elim (cases_eq x p) [
  | inl same ↦ rw (place_here x xs p same) (omega arith)
  | inr other ↦ elim (in_cons x (take k xs) p there) [
    | inl same ↦ absurd (other same)
    | inr later ↦ rw (place_later x xs p other) (omega (arith, place_below xs k p later))
  ]
]

-- a node among the first ones is in the order
front_in : (xs : List ℕ) (n p : ℕ) → Contains (take n xs) p → Contains xs p
front_in xs zero p there = none_in p there
front_in [] (suc n) p there = none_in p there
front_in (x ∷ xs) (suc n) p there = elim (in_cons x (take n xs) p there) [
  | inl same ↦ subst (λ (y : ℕ). Contains (x ∷ xs) y) same (in_head x xs)
  | inr later ↦ in_tail x xs p (front_in xs n p later)
]

-- what a node in the order names has a lower place
names_below : (graph : List (List ℕ)) (order : List ℕ) (i n : ℕ) → ComesAfter graph order → Contains order i → Names graph i n → Contains order n × (place_in order n < place_in order i)
names_below graph order i n after there names =
    let k = place_in order i in
    let at = place_is order i there in
    let front = after k at.0 n (subst (λ (x : ℕ). Names graph x n) (sym at.1) names) in
    (front_in order k n front, place_below order k n front)

-- what names something is a node
pub names_inside : (graph : List (List ℕ)) (i n : ℕ) → Names graph i n → i < length graph
names_inside graph i n names = elim (cases_lt i (length graph)) [
  | inl lt ↦ lt
  | inr le ↦ none_in n (subst (λ (row : List ℕ). Contains row n) (get_or_past graph i [] le) names)
]

-- ---- where nothing is caught

-- a mark that isn't new
mark_cases : (m : Mark) → (m ≡ New → ⊥) → (m ≡ Met) ⊎ (m ≡ Placed)
mark_cases New new = absurd (new refl)
mark_cases Met new = inl refl
mark_cases Placed new = inr refl

-- the order of a walk that has met all and caught none
pub walk_orders : (graph : List (List ℕ)) (passed : List ℕ) (marks : List Mark) (order nodes : List ℕ) → IsWalk graph passed marks [] order → ((i : ℕ) → i < length graph → mark_at marks i ≡ New → ⊥) → AreCaught marks nodes → nodes ≡ []
    → IsOrder graph order
walk_orders graph passed marks order nodes w marked a none = record {
  inside = λ k d lt. omega (arith, w.marks_many, marked_inside marks (get_or order k d) (λ new. new_placed (sym new ∙ w.placed k d lt)));
  whole = λ i lt. elim (mark_cases (mark_at marks i) (marked i lt)) [
    | inl met ↦ none_in i (subst (λ (xs : List ℕ). Contains xs i) none (a.whole i met))
    | inr placed ↦ w.whole i placed
  ];
  once = w.once;
  after = w.after;
}

-- ---- where some are caught

-- no node that is placed is in a set of nodes in which each names one of the set
none_placed : (graph : List (List ℕ)) (order others : List ℕ) → ComesAfter graph order → NameOneAnother graph others → (fuel i : ℕ) → place_in order i < fuel → Contains order i → Contains others i → ⊥
none_placed graph order others after names zero i lt there member = omega (arith, lt)
none_placed graph order others after names (suc fuel) i lt there member =
    let one = names i member in
    let lower = names_below graph order i one.0 after there one.1 in
    none_placed graph order others after names fuel one.0 (omega (arith, lower.1, lt)) lower.0 one.2

-- the nodes that a walk leaves out when it has met all are the largest set of nodes in which each names one of the set
pub walk_catches : (graph : List (List ℕ)) (passed : List ℕ) (marks : List Mark) (order nodes : List ℕ) → IsWalk graph passed marks [] order → ((i : ℕ) → i < length graph → mark_at marks i ≡ New → ⊥) → AreCaught marks nodes
    → 0 < length nodes → IsCycleSet graph nodes
walk_catches graph passed marks order nodes w marked a some = record {
  some = some;
  rising = a.rising;
  names = λ i member.
      elim (w.caught i (All-contains IsMet nodes i a.met member)) [
        | inl on ↦ none_in i on
        | inr c ↦ (c.0, c.1, a.whole c.0 c.2)
      ];
  largest = λ others names i member.
      let one = names i member in
      elim (mark_cases (mark_at marks i) (marked i (names_inside graph i one.0 one.1))) [
        | inl met ↦ a.whole i met
        | inr placed ↦ absurd (none_placed graph order others w.after names (suc (place_in order i)) i (omega arith) (w.whole i placed) member)
      ];
  beside = (
    place_in order,
    λ i lt isnt n names. elim (mark_cases (mark_at marks i) (marked i lt)) [
      | inl met ↦ absurd (isnt (a.whole i met))
      | inr placed ↦
          let lower = names_below graph order i n w.after (w.whole i placed) names in
          (unmet n (All-contains (IsPlaced marks) order n w.placed lower.0), lower.1)
    ],
  );
}
  where
    IsMet : ℕ → Type 0
    IsMet n = mark_at marks n ≡ Met

    unmet : (n : ℕ) → IsPlaced marks n → Contains nodes n → ⊥
    unmet n placed member = met_placed (sym (All-contains IsMet nodes n a.met member) ∙ placed)

-- ---- ranks

-- the places in an order are a rank
pub orders_rank : OrdersRank
orders_rank graph order o = (place_in order, λ i n names. (names_below graph order i n o.after (o.whole i (names_inside graph i n names)) names).1)

-- if a graph has a rank, no node is in a set of nodes in which each names one of the set
ranked_apart : (graph : List (List ℕ)) (rank : ℕ → ℕ) (nodes : List ℕ) → IsRank graph rank → NameOneAnother graph nodes → (fuel i : ℕ) → rank i < fuel → Contains nodes i → ⊥
ranked_apart graph rank nodes ranked names zero i lt member = omega (arith, lt)
ranked_apart graph rank nodes ranked names (suc fuel) i lt member =
    let one = names i member in
    ranked_apart graph rank nodes ranked names fuel one.0 (omega (arith, ranked i one.0 one.1, lt)) one.2

-- a graph that has a rank has no nodes that lead into a cycle
pub ranked_uncaught : (graph : List (List ℕ)) (nodes : List ℕ) (rank : ℕ → ℕ) → IsCycleSet graph nodes → IsRank graph rank → ⊥
ranked_uncaught graph nodes rank set ranked = ranked_apart graph rank nodes ranked set.names (suc (rank (get_or nodes 0 0))) (get_or nodes 0 0) (omega arith) (Contains-get_or nodes 0 0 set.some)
