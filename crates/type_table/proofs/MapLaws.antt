-- Maps: numbers of records that are followed by other numbers.
use Rattle.std.proofs.Common.{◌≡◌, ◌≤◌, ◌<◌, ◌+◌, ◌^◌, ℕ, All, List, [], ◌∷◌, ◌++◌, length, map, set, drop, get_or, refl, sym, ap, ◌∙◌, subst, arith, inl, inr, length-set, length-append}
use Rattle.std.proofs.lemmas.Bool.{cases_lt}
use Rattle.std.proofs.lemmas.List.{get_or-set_same, get_or-set_other, get_or-map, get_or_past, get_or_append_left, length-map, ext_get_or}
use Rattle.std.proofs.Math.Seq.{get_or-append_seam}
use Rattle.canonical_list.specs.Numbers.{AreNumbers}
use Rattle.type_trees.specs.Tree.{IsTreeAt, IsRanked}
use Rattle.type_trees.specs.Depth.{AreBelow}
use Rattle.type_trees.proofs.TreeLaws.{tree_there}
use Rattle.type_trees.proofs.NextLaws.{in_range}
use Rattle.type_trees.proofs.TableLaws.{stands_still}
use Rattle.type_table.specs.Maps.{IsMap, followed_by}
use Rattle.type_table.specs.Merge.{StartsWith, IsAdded}
use Rattle.type_table.proofs.AddLaws.{starts_whole}

-- the numbers stay right when more types come after those of the table
pub numbers_still : (records before after : List (List ℕ)) (numbers : List ℕ) → AreNumbers records before numbers → StartsWith after before → AreNumbers records after numbers
numbers_still records before after numbers are front = record {
  many = are.many;
  stand = λ i t stands. subst (λ (x : List (List ℕ)). IsTreeAt x (get_or numbers i 0) t) (starts_whole before after front) (stands_still before (drop (length before) after) (get_or numbers i 0) t (are.stand i t stands));
}

-- numbers of a table, followed by those of the table in a list, are numbers of the list
pub numbers_follow : (records table list : List (List ℕ)) (numbers next : List ℕ) → AreNumbers records table numbers → AreNumbers table list next → AreNumbers records list (followed_by numbers next)
numbers_follow records table list numbers next first then = record {
  many = length-map numbers (λ n. get_or next n 0) ∙ first.many;
  stand = λ i t at.
      let inside : i < length numbers = omega (arith, in_range records i t at, first.many) in
      rw (get_or-map (λ n. get_or next n 0) numbers i 0 0 inside) (then.stand (get_or numbers i 0) t (first.stand i t at));
}

-- each number is a position of the table
pub numbers_below : (records table : List (List ℕ)) (numbers : List ℕ) (rank : ℕ → ℕ) → IsRanked records rank → AreNumbers records table numbers → AreBelow (length table) numbers
numbers_below records table numbers rank ranked are k lt =
    let there = tree_there records rank k ranked (omega (arith, lt, are.many)) in
    in_range table (get_or numbers k 0) there.0 (are.stand k there.0 there.1)

-- so they are a map where the records are few
pub numbers_map : (records before after : List (List ℕ)) (numbers : List ℕ) → IsAdded records before after → length records < 2 ^ 30 → AreNumbers records after numbers → IsMap numbers
numbers_map records before after numbers added few are = record {
  few = omega (arith, are.many, few);
  small = λ k lt. omega (arith, numbers_below records after numbers added.types.ranked.0 added.types.ranked.1 are k lt, added.few);
}

pub one_map_more : (maps : List (List ℕ)) (numbers : List ℕ) → All IsMap maps → IsMap numbers → All IsMap (maps ++ numbers ∷ [])
one_map_more maps numbers all is k d inside = elim (cases_lt k (length maps)) [
  | inl less ↦ rw (get_or_append_left maps (numbers ∷ []) d k less) (all k d less)
  | inr le ↦
      let at : k ≡ length maps = omega (arith, le, inside, length-append maps (numbers ∷ [])) in
      let here : get_or (maps ++ numbers ∷ []) k d ≡ numbers = ap (λ j. get_or (maps ++ numbers ∷ []) j d) at ∙ get_or-append_seam maps numbers [] d in
      rw here is
]

-- ---- maps that are followed one after the other

-- what follows is a map too
pub followed_map : (numbers next made : List ℕ) → AreBelow (2 ^ 31) next → made ≡ followed_by numbers next → IsMap numbers → IsMap made
followed_map numbers next made below is of =
    let many : length made ≡ length numbers = ap length is ∙ length-map numbers (λ n. get_or next n 0) in
    record {
      few = omega (arith, many, of.few);
      small = λ k lt.
          let at : get_or made k 0 ≡ get_or next (get_or numbers k 0) 0 = ap (λ l. get_or l k 0) is ∙ get_or-map (λ n. get_or next n 0) numbers k 0 0 (omega (arith, lt, many)) in
          rw at (elim (cases_lt (get_or numbers k 0) (length next)) [
            | inl inside ↦ below (get_or numbers k 0) inside
            | inr past ↦ rw (get_or_past next (get_or numbers k 0) 0 past) (omega arith)
          ]);
    }

pub all_followed : (maps : List (List ℕ)) (next : List ℕ) → AreBelow (2 ^ 31) next → All IsMap maps → All IsMap (map (λ numbers. followed_by numbers next) maps)
all_followed maps next below all = λ k d inside.
    let lt : k < length maps = omega (arith, inside, length-map maps (λ numbers. followed_by numbers next)) in
    followed_map (get_or maps k []) next (get_or (map (λ numbers. followed_by numbers next) maps) k d) below
    (get_or-map (λ numbers. followed_by numbers next) maps k [] d lt) (all k [] lt)

-- the maps before position i are followed, and the others are as they were
pub record AreFollowedTo (i : ℕ) (first now : List (List ℕ)) (next : List ℕ) : Type 0 where
  pub many : length now ≡ length first
  pub done : (k : ℕ) → k < i → get_or now k [] ≡ followed_by (get_or first k []) next
  pub kept : (k : ℕ) → i ≤ k → get_or now k [] ≡ get_or first k []

pub followed_none : (first : List (List ℕ)) (next : List ℕ) → AreFollowedTo 0 first first next
followed_none first next = record { many = refl; done = λ k lt. absurd (omega (arith, lt)); kept = λ k le. refl }

pub followed_more : (i : ℕ) (first now : List (List ℕ)) (next made : List ℕ) → AreFollowedTo i first now next → i < length first → made ≡ followed_by (get_or now i []) next → AreFollowedTo (i + 1) first (set now i made) next
followed_more i first now next made so inside is = record {
  many = length-set now i made ∙ so.many;
  done = λ k lt. elim (cases_lt k i) [
    | inl old ↦ rw (get_or-set_other now i k made [] (λ e. omega (arith, e, old))) (so.done k old)
    | inr new ↦
        let at : k ≡ i = omega (arith, lt, new) in
        rw (at, get_or-set_same now i made [] (omega (arith, inside, so.many))) (is ∙ ap (λ m. followed_by m next) (so.kept i (omega arith)))
  ];
  kept = λ k le. rw (get_or-set_other now i k made [] (λ e. omega (arith, e, le))) (so.kept k (omega (arith, le)));
}

pub followed_all : (i : ℕ) (first now : List (List ℕ)) (next : List ℕ) → AreFollowedTo i first now next → length first ≤ i → now ≡ map (λ numbers. followed_by numbers next) first
followed_all i first now next so all =
    ext_get_or [] now (map (λ numbers. followed_by numbers next) first) (so.many ∙ sym (length-map first (λ numbers. followed_by numbers next)))
    (λ k inside. so.done k (omega (arith, inside, so.many, all)) ∙ sym (get_or-map (λ numbers. followed_by numbers next) first k [] [] (omega (arith, inside, so.many))))
