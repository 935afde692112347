-- The difference of two lists of types, by the numbers of their types.
use Rattle.std.proofs.Common.{◌≡◌, ◌≤◌, ◌<◌, ◌⊎◌, ◌+◌, ◌-◌, ◌↔◌, ℕ, zero, suc, Bool, true, false, List, [], ◌∷◌, ◌++◌, length, map, take, set, replicate, get_or, refl, sym, ap, ◌∙◌, subst, arith, inl, inr}
use Rattle.std.proofs.lemmas.Bool.{cases_lt, cases_eq}
use Rattle.std.proofs.lemmas.List.{get_or-replicate, get_or-set_same, get_or-set_other, get_or_default, get_or_append_left, get_or_at, take_more, get_or-take, length-take-le}
use Rattle.std.proofs.lemmas.List.Elements.{Contains-get_or, Contains-push, Contains-push_cases, Contains-append_left}
use Rattle.std.specs.List.{AllByRecursion, Contains}
use Rattle.cv_leaves.specs.Checks.{places_of}
use Rattle.cv_leaves.specs.References.{reference_at, references}
use Rattle.topological_order.proofs.WalkLaws.{none_in}
use Rattle.type_trees.specs.Tree.{Tree, Branches, tree, no_branch, simple, branch, branches_of, trees_in, IsTreeAt, AreBranches, IsType, NamesLower}
use Rattle.type_trees.specs.Types.{AreTypes, NamesThere}
use Rattle.type_trees.specs.Table.{IsTable}
use Rattle.canonical_list.specs.Numbers.{AreNumbers}
use Rattle.type_difference.specs.Marks.{TellApart, IsMarked, AreMarks, MarkTypesOf, NamesMarked, IsStandingBy}
use Rattle.type_difference.specs.Difference.{IsLacked, IsOrigin, HasStanding, DifferenceBegins}
use Rattle.type_difference.specs.declared.standing.Standing.{Standing}
use Rattle.type_difference.specs.declared.standing.Standing.TheVariants.{Shared, Again, Follows, Origin}
use Rattle.type_trees.proofs.TreeLaws.{one, tree_there, branches_are_types}
use Rattle.type_trees.proofs.SameLaws.{same_or_not, unlike}
use Rattle.type_trees.proofs.TableLaws.{table_is_set}
use Rattle.type_trees.proofs.NextLaws.{in_range}
use Rattle.tpi_records.specs.Header.{first_index}

-- ---- Numbers

-- if a record has the number of a type, it is of this type
same_number : (records table : List (List ℕ)) (numbers : List ℕ) (i : ℕ) (t : Tree) → AreTypes records → AreNumbers records table numbers → i < length records → IsTreeAt table (get_or numbers i 0) t → IsTreeAt records i t
same_number records table numbers i t types are inside stands =
    let there = tree_there records types.ranked.0 i types.ranked.1 inside in
    subst (IsTreeAt records i) (one table (get_or numbers i 0) there.0 t (are.stand i there.0 there.1) stands) there.1

-- numbers tell types apart
pub numbers_tell : (records table : List (List ℕ)) (numbers : List ℕ) → AreTypes records → IsTable table → AreNumbers records table numbers → TellApart records numbers
numbers_tell records table numbers types is_table are = record {
  many = are.many;
  equal = λ i k t at_i at_k. table_is_set table (get_or numbers i 0) (get_or numbers k 0) t is_table (are.stand i t at_i) (are.stand k t at_k);
  same = λ i k t inside equal at_k. same_number records table numbers i t types are inside (subst (λ (n : ℕ). IsTreeAt table n t) (sym equal) (are.stand k t at_k));
}

-- ---- Marks

-- the element where a number is in a list
there : (numbers : List ℕ) (n : ℕ) (h : Contains numbers n) → get_or numbers h.0 0 ≡ n
there numbers n h = get_or_default numbers h.0 0 n h.1 ∙ h.2

-- the marked numbers are those of the types of the others
pub marks_tell : (records others table : List (List ℕ)) (numbers theirs : List ℕ) (marks : List Bool) → AreTypes others → IsTable table → AreNumbers records table numbers → AreNumbers others table theirs → AreMarks theirs marks
    → MarkTypesOf others records numbers marks
marks_tell records others table numbers theirs marks types is_table are their are_marks i t stands = (
  λ marked.
      let h = (are_marks (get_or numbers i 0)).0 marked in
      (h.0, same_number others table theirs h.0 t types their (omega (arith, h.1, their.many)) (subst (λ (n : ℕ). IsTreeAt table n t) (sym (there theirs (get_or numbers i 0) h)) (are.stand i t stands))),
  λ has.
      let equal = table_is_set table (get_or theirs has.0 0) (get_or numbers i 0) t is_table (their.stand has.0 t has.1) (are.stand i t stands) in
      (are_marks (get_or numbers i 0)).1 (subst (Contains theirs) equal (Contains-get_or theirs has.0 0 (omega (arith, their.many, in_range others has.0 t has.1)))),
)

-- nothing is marked at the start
pub marks_none : (numbers : List ℕ) (end : ℕ) (marks : List Bool) → marks ≡ replicate end false → AreMarks (take 0 numbers) marks
marks_none numbers end marks is n = (
  λ marked. elim (cases_lt n end) [
    | inl low ↦
        let at : get_or marks n false ≡ false = rw is (get_or-replicate {A = Bool} end n false false low) in
        absurd cc
    | inr high ↦
        let at : get_or marks n false ≡ false = rw is (past end n high) in
        absurd cc
  ],
  λ h. absurd (none_in n h),
)
  where
    past : (many k : ℕ) → many ≤ k → get_or (replicate many false) k false ≡ false
    past zero k le = refl
    past (suc many) zero le = absurd (omega (arith, le))
    past (suc many) (suc k) le = past many k (omega (arith, le))

-- one more number is marked
pub marks_more : (numbers : List ℕ) (marks : List Bool) (k n : ℕ) → AreMarks (take k numbers) marks → k < length numbers → get_or numbers k 0 ≡ n → n < length marks → AreMarks (take (k + 1) numbers) (set marks n true)
marks_more numbers marks k n are lt at below m =
    let more : take (k + 1) numbers ≡ take k numbers ++ n ∷ [] = take_more numbers k 0 lt ∙ ap (λ (x : ℕ). take k numbers ++ x ∷ []) at in
    rw more
    (elim (cases_eq m n) [
      | inl same ↦ (
        λ _. subst (Contains (take k numbers ++ n ∷ [])) (sym same) (Contains-push (take k numbers) n),
        λ _. ap (λ (x : ℕ). get_or (set marks n true) x false) same ∙ get_or-set_same marks n true false below,
      )
      | inr other ↦
          let kept : get_or (set marks n true) m false ≡ get_or marks m false = get_or-set_other marks n m true false other in (
            λ marked. Contains-append_left (take k numbers) (n ∷ []) m ((are m).0 (sym kept ∙ marked)),
            λ h. elim (Contains-push_cases (take k numbers) n m h) [
              | inl old ↦ kept ∙ (are m).1 old
              | inr same ↦ absurd (other (sym same))
            ],
          )
    ])

-- ---- What a record names

-- if each reference is simple or names a marked number, the others have each branch
marked_branches : (records others : List (List ℕ)) (numbers : List ℕ) (marks : List Bool) (ns : List ℕ) (bs : Branches) → MarkTypesOf others records numbers marks → AreBranches records ns bs → AllByRecursion (NamesMarked numbers marks) ns
    → AllByRecursion (IsType others) (trees_in bs)
marked_branches records others numbers marks ns no_branch tells h all = tt
marked_branches records others numbers marks ns (simple m bs) tells h all =
    let tail = subst (AllByRecursion (NamesMarked numbers marks)) h.2 all in
    marked_branches records others numbers marks h.1 bs tells h.5 tail.1
marked_branches records others numbers marks ns (branch t bs) tells h all =
    let tail = subst (AllByRecursion (NamesMarked numbers marks)) h.2 all in
    (elim tail.0 [ inl small ↦ absurd (omega (arith, small, h.3)) | inr marked ↦ (tells (h.0 - first_index) t h.4).0 marked ], marked_branches records others numbers marks h.1 bs tells h.5 tail.1)

-- if the others have each branch, each reference is simple or names a marked number
branches_marked : (records others : List (List ℕ)) (numbers : List ℕ) (marks : List Bool) (ns : List ℕ) (bs : Branches) → MarkTypesOf others records numbers marks → AreBranches records ns bs → AllByRecursion (IsType others) (trees_in bs)
    → AllByRecursion (NamesMarked numbers marks) ns
branches_marked records others numbers marks ns no_branch tells h all = subst (AllByRecursion (NamesMarked numbers marks)) (sym h) tt
branches_marked records others numbers marks ns (simple m bs) tells h all =
    subst (AllByRecursion (NamesMarked numbers marks)) (sym h.2) (inl h.3, branches_marked records others numbers marks h.1 bs tells h.5 all)
branches_marked records others numbers marks ns (branch t bs) tells h all =
    subst (AllByRecursion (NamesMarked numbers marks)) (sym h.2) (inr ((tells (h.0 - first_index) t h.4).1 all.0), branches_marked records others numbers marks h.1 bs tells h.5 all.1)

-- the same of the tree at a position
marked_tree : (records others : List (List ℕ)) (numbers : List ℕ) (marks : List Bool) (i : ℕ) (t : Tree) → MarkTypesOf others records numbers marks → IsTreeAt records i t → AllByRecursion (NamesMarked numbers marks) (references (get_or records i []))
    → AllByRecursion (IsType others) (trees_in (branches_of t))
marked_tree records others numbers marks i (tree b bs) tells stands all = marked_branches records others numbers marks (references (get_or records i [])) bs tells stands.2 all

tree_marked : (records others : List (List ℕ)) (numbers : List ℕ) (marks : List Bool) (i : ℕ) (t : Tree) → MarkTypesOf others records numbers marks → IsTreeAt records i t → AllByRecursion (IsType others) (trees_in (branches_of t))
    → AllByRecursion (NamesMarked numbers marks) (references (get_or records i []))
tree_marked records others numbers marks i (tree b bs) tells stands all = branches_marked records others numbers marks (references (get_or records i [])) bs tells stands.2 all

-- all references are left at the start
pub all_left : (r places : List ℕ) (P : ℕ → Type 0) → places ≡ places_of r → AllByRecursion P (map (reference_at r) places) ↔ AllByRecursion P (references r)
unfolding references
all_left r places P own = rw own ((λ h. h), (λ h. h))

-- P holds of all, if none is left
pub none_left : (r : List ℕ) (P : ℕ → Type 0) (left : List ℕ) (All : Type 0) → left ≡ [] → AllByRecursion P (map (reference_at r) left) ↔ All → All
none_left r P left All none so_far = so_far.0 (rw none tt)

-- ---- The standing of a record

-- a record is lacked if its number is not marked, and not seen before
is_lacked : (records others : List (List ℕ)) (numbers : List ℕ) (marks seen : List Bool) (i n : ℕ) → TellApart records numbers → MarkTypesOf others records numbers marks → AreMarks (take i numbers) seen → i < length records → get_or numbers i 0 ≡ n
    → (IsMarked marks n → ⊥) → (IsMarked seen n → ⊥) → IsLacked records others i
is_lacked records others numbers marks seen i n apart tells are inside at unmarked unseen = record {
  inside = inside;
  lacked = λ t stands has. unmarked (subst (IsMarked marks) at ((tells i t stands).1 has));
  first = λ k t at_i at_k. elim (cases_lt k i) [
    | inl early ↦
        let within : k < length (take i numbers) = omega (arith, early, length-take-le i numbers (omega (arith, inside, apart.many))) in
        let same : get_or (take i numbers) k 0 ≡ n = get_or-take i numbers k 0 early ∙ apart.equal k i t at_k at_i ∙ at in
        absurd (unseen ((are n).1 (subst (Contains (take i numbers)) same (Contains-get_or (take i numbers) k 0 within))))
    | inr late ↦ late
  ];
}

-- a record whose number is seen before is of the type of an earlier record
seen_before : (records : List (List ℕ)) (numbers : List ℕ) (seen : List Bool) (i n : ℕ) (t : Tree) → TellApart records numbers → AreMarks (take i numbers) seen → i < length records → get_or numbers i 0 ≡ n → IsMarked seen n → IsTreeAt records i t
    → (k : ℕ) × (k < i) × IsTreeAt records k t
seen_before records numbers seen i n t apart are inside at marked stands =
    let h = (are n).0 marked in
    let long : length (take i numbers) ≡ i = length-take-le i numbers (omega (arith, inside, apart.many)) in
    let early : h.0 < i = omega (arith, h.1, long) in
    let same : get_or numbers h.0 0 ≡ get_or numbers i 0 = sym (get_or-take i numbers h.0 0 early) ∙ there (take i numbers) n h ∙ sym at in
    (h.0, early, apart.same h.0 i t (omega (arith, early, inside)) same stands)

-- the numbers tell how a record stands to the others
pub standing_is : (records others : List (List ℕ)) (numbers : List ℕ) (marks seen : List Bool) (i n : ℕ) (bytes : List ℕ) (s : Standing) → AreTypes records → TellApart records numbers → MarkTypesOf others records numbers marks → AreMarks (take i numbers) seen
    → i < length records → get_or numbers i 0 ≡ n → bytes ≡ get_or records i [] → IsStandingBy numbers marks seen bytes n s → HasStanding records others i s
standing_is records others numbers marks seen i n bytes Shared types apart tells are inside at is by = λ t stands. (tells i t stands).0 (subst (IsMarked marks) (sym at) by)
standing_is records others numbers marks seen i n bytes Again types apart tells are inside at is by = (
  λ t stands has. by.0 (subst (IsMarked marks) at ((tells i t stands).1 has)),
  λ t stands. seen_before records numbers seen i n t apart are inside at by.1 stands,
)
standing_is records others numbers marks seen i n bytes Follows types apart tells are inside at is by = (
  is_lacked records others numbers marks seen i n apart tells are inside at by.0 by.1,
  λ origin.
      let here = tree_there records types.ranked.0 i types.ranked.1 inside in
      by.2 (subst (λ (r : List ℕ). AllByRecursion (NamesMarked numbers marks) (references r)) (sym is) (tree_marked records others numbers marks i here.0 tells here.1 (origin.named here.0 here.1))),
)
standing_is records others numbers marks seen i n bytes Origin types apart tells are inside at is by = record {
  lacked = is_lacked records others numbers marks seen i n apart tells are inside at by.0 by.1;
  named = λ t stands. marked_tree records others numbers marks i t tells stands (subst (λ (r : List ℕ). AllByRecursion (NamesMarked numbers marks) (references r)) is by.2);
}

-- one more standing
pub standings_more : (records others : List (List ℕ)) (standings : List Standing) (k : ℕ) (s : Standing) → length standings ≡ k → ((i : ℕ) → i < k → HasStanding records others i (get_or standings i Shared)) → HasStanding records others k s
    → (i : ℕ) → i < k + 1 → HasStanding records others i (get_or (standings ++ s ∷ []) i Shared)
standings_more records others standings k s many each here i lt = elim (cases_lt i k) [
  | inl low ↦
      let at : get_or (standings ++ s ∷ []) i Shared ≡ get_or standings i Shared = get_or_append_left standings (s ∷ []) Shared i (omega (arith, low, many)) in
      rw at (each i low)
  | inr high ↦
      let last : i ≡ k = omega (arith, high, lt) in
      let at : get_or (standings ++ s ∷ []) k Shared ≡ s = get_or_at standings s [] Shared k many in
      rw (last, at) here
]

-- each reference of a type is simple or names a record
names_some : (records : List (List ℕ)) (rank : ℕ → ℕ) (i : ℕ) (ns : List ℕ) → AllByRecursion (NamesLower records rank i) ns → NamesThere (length records) ns
names_some records rank i [] lower = tt
names_some records rank i (n ∷ ns) lower = (elim lower.0 [ inl small ↦ omega (arith, small) | inr low ↦ omega (arith, low.0) ], names_some records rank i ns lower.1)

pub names_there : (records : List (List ℕ)) (i : ℕ) → AreTypes records → i < length records → NamesThere (length records) (references (get_or records i []))
names_there records i types inside = names_some records types.ranked.0 i (references (get_or records i [])) (types.ranked.1 i inside)

-- ---- Where a difference begins

-- a tree is at a position, or it isn't
stands_or_not : (records : List (List ℕ)) (i : ℕ) (t : Tree) → AreTypes records → i < length records → IsTreeAt records i t ⊎ (IsTreeAt records i t → ⊥)
stands_or_not records i t types inside =
    let here = tree_there records types.ranked.0 i types.ranked.1 inside in
    elim (same_or_not here.0 t) [
      | inl same ↦ inl (subst (IsTreeAt records i) same here.1)
      | inr apart ↦ inr (λ stands. unlike here.0 t (one records i here.0 t here.1 stands) apart)
    ]

-- this is the first position of a tree
abbrev pub IsFirst : List (List ℕ) → Tree → ℕ → Type 0
IsFirst records t k = IsTreeAt records k t × ((j : ℕ) → j < k → IsTreeAt records j t → ⊥)

-- a tree has a first position below the end, or it is at none of these
first_below : (records : List (List ℕ)) (t : Tree) (end : ℕ) → AreTypes records → end ≤ length records → ((k : ℕ) × (k < end) × IsFirst records t k) ⊎ ((j : ℕ) → j < end → IsTreeAt records j t → ⊥)
first_below records t zero types le = inr (λ j lt stands. omega (arith, lt))
first_below records t (suc end) types le = elim (first_below records t end types (omega (arith, le))) [
  | inl found ↦ inl (found.0, omega (arith, found.1), found.2)
  | inr none ↦ elim (stands_or_not records end t types (omega (arith, le))) [
    | inl here ↦ inl (end, omega arith, (here, none))
    | inr absent ↦ inr (λ j lt stands. elim (cases_eq j end) [
      | inl same ↦ absent (subst (λ (k : ℕ). IsTreeAt records k t) same stands)
      | inr other ↦ none j (omega (arith, lt, other)) stands
    ])
  ]
]

-- a tree is a type of the records, or it isn't
pub type_or_not : (records : List (List ℕ)) (t : Tree) → AreTypes records → IsType records t ⊎ (IsType records t → ⊥)
type_or_not records t types = elim (first_below records t (length records) types (omega arith)) [
  | inl found ↦ inl (found.0, found.2.0)
  | inr none ↦ inr (λ has. none has.0 (in_range records has.0 t has.1) has.1)
]

-- a type has a first position
first_of : (records : List (List ℕ)) (t : Tree) → AreTypes records → IsType records t → (k : ℕ) × (k < length records) × IsFirst records t k
first_of records t types has = elim (first_below records t (length records) types (omega arith)) [
  | inl found ↦ found
  | inr none ↦ absurd (none has.0 (in_range records has.0 t has.1) has.1)
]

-- where a type is first, it is lacked, if the others lack it
lacked_first : (records others : List (List ℕ)) (t : Tree) (k : ℕ) → k < length records → IsFirst records t k → (IsType others t → ⊥) → IsLacked records others k
lacked_first records others t k inside first lacks = record {
  inside = inside;
  lacked = λ u stands has. lacks (subst (IsType others) (one records k u t stands first.0) has);
  first = λ j u at_k at_j. elim (cases_lt j k) [
    | inl early ↦ absurd (first.1 j early (subst (IsTreeAt records j) (one records k u t at_k first.0) at_j))
    | inr late ↦ late
  ];
}

mutual
  held_by : (records others : List (List ℕ)) → AreTypes records → AreTypes others → ((i : ℕ) → IsOrigin records others i → ⊥) → (t : Tree) → IsType records t → IsType others t
  held_by records others types others_types none (tree b bs) has = elim (type_or_not others (tree b bs) others_types) [
    | inl held ↦ held
    | inr lacks ↦
        let first = first_of records (tree b bs) types has in
        let each : AllByRecursion (IsType others) (trees_in bs) = each_held_by records others types others_types none bs (branches_are_types records (tree b bs) has) in
        absurd (none first.0 (record {
          lacked = lacked_first records others (tree b bs) first.0 first.1 first.2 lacks;
          named = λ u stands. subst (λ (x : Tree). AllByRecursion (IsType others) (trees_in (branches_of x))) (one records first.0 (tree b bs) u first.2.0 stands) each;
        }))
  ]

  each_held_by : (records others : List (List ℕ)) → AreTypes records → AreTypes others → ((i : ℕ) → IsOrigin records others i → ⊥) → (bs : Branches) → AllByRecursion (IsType records) (trees_in bs) → AllByRecursion (IsType others) (trees_in bs)
  each_held_by records others types others_types none no_branch all = tt
  each_held_by records others types others_types none (simple n bs) all = each_held_by records others types others_types none bs all
  each_held_by records others types others_types none (branch t bs) all = (held_by records others types others_types none t all.0, each_held_by records others types others_types none bs all.1)

-- if the difference begins at no record, the others have all types
pub difference_begins : DifferenceBegins
difference_begins records others types others_types none t has = held_by records others types others_types none t has

-- if the others have all types, no record is lacked
pub none_lacked : (records others : List (List ℕ)) (i : ℕ) → AreTypes records → ((t : Tree) → IsType records t → IsType others t) → IsLacked records others i → ⊥
none_lacked records others i types all lacked =
    let here = tree_there records types.ranked.0 i types.ranked.1 lacked.inside in
    lacked.lacked here.0 here.1 (all here.0 (i, here.1))
