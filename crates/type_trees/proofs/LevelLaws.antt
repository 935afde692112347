-- A canonical list stays canonical when a level is added after it.
use Rattle.std.proofs.Common.{◌≡◌, ◌≢◌, ℕ, ◌+◌, ◌-◌, ◌<◌, ◌≤◌, List, [], ◌∷◌, ◌++◌, length, get_or, refl, sym, ap, ◌∙◌, subst, arith, inl, inr, length-append}
use Rattle.std.specs.declared.cmp.Ordering.TheVariants.{Less, Equal}
use Rattle.std.specs.Ordering.{nat_cmp}
use Rattle.std.specs.Cmp.{nat_cmp_is}
use Rattle.std.specs.Cmp.Lexicographic.{slice_cmp}
use Rattle.std.specs.List.{AllByRecursion, AllPairs, Contains}
use Rattle.std.proofs.lemmas.Bool.{cases_lt}
use Rattle.std.proofs.lemmas.Cmp.{tied_itself, nat_cmp_total}
use Rattle.std.proofs.lemmas.Map.Keys.{sorted_from_all_adjacent, Less-from_sorted}
use Rattle.std.proofs.Math.ListN.{get_or-append}
use Rattle.std.proofs.Math.Seq.{get_or-append_right}
use Rattle.type_trees.specs.Tree.{Tree, nothing, branches_of, trees_in, IsClosed}
use Rattle.type_trees.specs.Depth.{depth}
use Rattle.type_trees.specs.Canon.{position_in, text, canonical_order, Canonical, weight, HoldsBranches}
use Rattle.type_trees.proofs.SameLaws.{position_in-lt-length}
use Rattle.type_trees.proofs.CanonLaws.{SameBelow, position_in-below, text-below, canon_total, canonical_order-same}

-- m is a level: its trees are closed and of depth d, l holds their branches, and they are in the order of their texts
pub record IsLevel (l : List Tree) (d : ℕ) (m : List Tree) : Type 0 where
  pub closed : (i : ℕ) → i < length m → IsClosed (get_or m i nothing)
  pub deep : (i : ℕ) → i < length m → depth (get_or m i nothing) ≡ d
  pub held : (i : ℕ) → i < length m → HoldsBranches l (get_or m i nothing)
  pub ordered : (i : ℕ) → i + 1 < length m → slice_cmp nat_cmp (text l (get_or m i nothing)) (text l (get_or m (i + 1) nothing)) ≡ Less

-- a canonical list stays canonical when a deeper level is added after it
abbrev pub LevelAdds : Type 0
LevelAdds =
    (l m : List Tree) (d : ℕ) → Canonical l → ((i : ℕ) → i < length l → depth (get_or l i nothing) < d) → IsLevel l d m
    → weight (l ++ m) ≤ 4294967295 → Canonical (l ++ m)

-- a deeper tree comes later in canonical order
pub canonical_order-deeper : (l : List Tree) (x y : Tree) → depth x < depth y → canonical_order l x y ≡ Less
canonical_order-deeper l x y lt = let e : Less ≡ nat_cmp (depth x) (depth y) = nat_cmp_is (depth x) (depth y) Less lt in rw (← e) refl

pub canonical_order-same_depth : (l : List Tree) (x y : Tree) → depth x ≡ depth y → slice_cmp nat_cmp (text l x) (text l y) ≡ Less → canonical_order l x y ≡ Less
canonical_order-same_depth l x y e less = let t : nat_cmp (depth x) (depth y) ≡ Equal = rw e (tied_itself nat_cmp_total (depth y)) in rw (t, less) refl

-- trees are distinct if each is less than the next
pub distinct-ordered : (l m : List Tree) → ((i : ℕ) → i + 1 < length m → canonical_order l (get_or m i nothing) (get_or m (i + 1) nothing) ≡ Less) → AllPairs (λ t u. t ≢ u) m
distinct-ordered l m ordered i j d lt j_in e =
    let less : canonical_order l (get_or m i d) (get_or m j d) ≡ Less = Less-from_sorted (canonical_order l) m i j d (sorted_from_all_adjacent (canon_total l) m nothing ordered) lt j_in in
    let tied : canonical_order l (get_or m j d) (get_or m j d) ≡ Equal = tied_itself (canon_total l) (get_or m j d) in
    let same : canonical_order l (get_or m j d) (get_or m j d) ≡ Less = subst (λ (x : Tree). canonical_order l x (get_or m j d) ≡ Less) e less in
    let mixed : Less ≡ Equal = sym same ∙ tied in
    absurd cc

-- trees keep their positions when more trees are added after l
earlier_still : (l m : List Tree) (k : ℕ) (us : List Tree) → SameBelow (length l) l m → length l ≤ length m → k ≤ length l → AllByRecursion (λ u. position_in l u < k) us → AllByRecursion (λ u. position_in m u < k) us
earlier_still l m k [] same le kl h = tt
earlier_still l m k (u ∷ us) same le kl h =
    let lt = h.0 in
    let e = position_in-below (length l) l m u same (omega arith) le (omega arith) in
    (omega arith, earlier_still l m k us same le kl h.1)

earlier_held : (l : List Tree) (us : List Tree) → AllByRecursion (Contains l) us → AllByRecursion (λ u. position_in l u < length l) us
earlier_held l [] h = tt
earlier_held l (u ∷ us) h = (position_in-lt-length l u h.0, earlier_held l us h.1)

-- trees keep their texts when more trees are added after l
pub text-more : (l m : List Tree) (t : Tree) → HoldsBranches l t → text l t ≡ text (l ++ m) t
text-more l m t held =
    let long = length-append l m in
    text-below (length l) l (l ++ m) t (λ i lt. sym (get_or-append l m nothing i lt)) (omega arith) (omega arith) (earlier_held l (trees_in (branches_of t)) held)

weaker : (l : List Tree) (j k : ℕ) (us : List Tree) → j ≤ k → AllByRecursion (λ u. position_in l u < j) us → AllByRecursion (λ u. position_in l u < k) us
weaker l j k [] le h = tt
weaker l j k (u ∷ us) le h = let lt = h.0 in (omega arith, weaker l j k us le h.1)

pub level_ordered : (l m : List Tree) (d : ℕ) → Canonical l → ((i : ℕ) → i < length l → depth (get_or l i nothing) < d) → IsLevel l d m
    → (i : ℕ) → i + 1 < length (l ++ m) → canonical_order (l ++ m) (get_or (l ++ m) i nothing) (get_or (l ++ m) (i + 1) nothing) ≡ Less
level_ordered l m d c shallow level i lt =
    let n : ℕ = length l in
    let both : List Tree = l ++ m in
    let long : length both ≡ n + length m = length-append l m in
    let left : (i : ℕ) → i < n → get_or both i nothing ≡ get_or l i nothing = λ i lt. get_or-append l m nothing i lt in
    let right : (i : ℕ) → n ≤ i → get_or both i nothing ≡ get_or m (i - n) nothing = λ i ge. get_or-append_right l m i nothing ge in
    let same : SameBelow n l both = λ i lt. sym (left i lt) in
    let texts_left : (i : ℕ) → i < n → text l (get_or l i nothing) ≡ text both (get_or l i nothing) = λ i lt.
    text-below n l both (get_or l i nothing) same (omega arith) (omega arith) (weaker l i n (trees_in (branches_of (get_or l i nothing))) (omega arith) (c.earlier i lt)) in
    let texts_right : (i : ℕ) → i < length m → text l (get_or m i nothing) ≡ text both (get_or m i nothing) = λ i lt.
    text-below n l both (get_or m i nothing) same (omega arith) (omega arith) (earlier_held l (trees_in (branches_of (get_or m i nothing))) (level.held i lt)) in
    elim (cases_lt (i + 1) n) [
      | inl low ↦
          let at : i < n = omega arith in
          let one = left i at in
          let two = left (i + 1) low in
          rw (one, two) (sym (canonical_order-same l both (get_or l i nothing) (get_or l (i + 1) nothing) (texts_left i at) (texts_left (i + 1) low)) ∙ c.ordered i low)
      | inr high ↦ elim (cases_lt i n) [
        | inl low ↦
            let at : i + 1 - n < length m = omega arith in
            let one = left i low in
            let two = right (i + 1) high in
            let x = shallow i low in
            let y = level.deep (i + 1 - n) at in
            rw (one, two) (canonical_order-deeper both (get_or l i nothing) (get_or m (i + 1 - n) nothing) (omega arith))
        | inr higher ↦
            let at : i - n < length m = omega arith in
            let next : i - n + 1 < length m = omega arith in
            let e : i + 1 - n ≡ i - n + 1 = omega arith in
            let one = right i higher in
            let two : get_or both (i + 1) nothing ≡ get_or m (i - n + 1) nothing = right (i + 1) high ∙ ap (λ (k : ℕ). get_or m k nothing) e in
            let x = level.deep (i - n) at in
            let y = level.deep (i - n + 1) next in
            let tx = texts_right (i - n) at in
            let ty = texts_right (i - n + 1) next in
            rw (one, two) (canonical_order-same_depth both (get_or m (i - n) nothing) (get_or m (i - n + 1) nothing) (x ∙ sym y) (rw (← tx, ← ty) (level.ordered (i - n) next)))
      ]
    ]

pub level_adds : LevelAdds
level_adds l m d c shallow level light =
    let n : ℕ = length l in
    let both : List Tree = l ++ m in
    let long : length both ≡ n + length m = length-append l m in
    let left : (i : ℕ) → i < n → get_or both i nothing ≡ get_or l i nothing = λ i lt. get_or-append l m nothing i lt in
    let right : (i : ℕ) → n ≤ i → get_or both i nothing ≡ get_or m (i - n) nothing = λ i ge. get_or-append_right l m i nothing ge in
    let same : SameBelow n l both = λ i lt. sym (left i lt) in
    let ordered : (i : ℕ) → i + 1 < length both → canonical_order both (get_or both i nothing) (get_or both (i + 1) nothing) ≡ Less = level_ordered l m d c shallow level in
    record {
      closed = λ i lt. elim (cases_lt i n) [
        | inl low ↦ rw (left i low) (c.closed i low)
        | inr high ↦ let at : i - n < length m = omega arith in rw (right i high) (level.closed (i - n) at)
      ];
      distinct = distinct-ordered both both ordered;
      light = light;
      earlier = λ i lt. elim (cases_lt i n) [
        | inl low ↦ rw (left i low) (earlier_still l both i (trees_in (branches_of (get_or l i nothing))) same (omega arith) (omega arith) (c.earlier i low))
        | inr high ↦
            let at : i - n < length m = omega arith in
            let us : List Tree = trees_in (branches_of (get_or m (i - n) nothing)) in
            rw (right i high) (weaker both n i us high (earlier_still l both n us same (omega arith) (omega arith) (earlier_held l us (level.held (i - n) at))))
      ];
      ordered = ordered;
    }
