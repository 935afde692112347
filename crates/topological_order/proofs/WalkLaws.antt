-- A walk along a graph, step by step.
use Rattle.std.proofs.Common.{◌≡◌, ◌≢◌, ◌≤◌, ◌<◌, ◌⊎◌, ◌+◌, ℕ, zero, suc, List, [], ◌∷◌, ◌++◌, length, take, set, replicate, get_or, refl, sym, ap, ◌∙◌, subst, arith, inl, inr}
use Rattle.std.specs.List.{All, Contains}
use Rattle.std.proofs.lemmas.Bool.{cases_lt, cases_eq}
use Rattle.std.proofs.lemmas.List.{length-append, length-set, length-replicate, get_or-replicate, get_or_past, get_or_push, get_or_append_left, get_or_default, get_or-set_same, get_or-set_other, take-append-le, take_at, take_all, take_more}
use Rattle.std.proofs.lemmas.List.Elements.{All-push, All-weaker, All-contains, Contains-get_or, Contains-push, Contains-push_cases, Contains-append_left}
use Rattle.std.proofs.lemmas.List.Quantifiers.{all_pairs_push}
use Rattle.topological_order.specs.Graph.{Names, NamesNodes}
use Rattle.topological_order.specs.Walk.{mark_at, IsPlaced, IsPassed, NamesCaught, IsWalk, AreCaught, new_one, new_count}
use Rattle.topological_order.specs.declared.walk.Mark.{Mark}
use Rattle.topological_order.specs.declared.walk.Mark.TheVariants.{New, Met, Placed}

-- ---- marks

-- a mark that was set
mark_same : (marks : List Mark) (i : ℕ) (m : Mark) → i < length marks → mark_at (set marks i m) i ≡ m
mark_same marks i m inside = get_or-set_same marks i m New inside

-- the other marks stay
mark_other : (marks : List Mark) (i j : ℕ) (m : Mark) → (j ≡ i → ⊥) → mark_at (set marks i m) j ≡ mark_at marks j
mark_other marks i j m other = get_or-set_other marks i j m New other

-- a position has no two marks
two_marks : {A : Type 0} (marks : List Mark) (i j : ℕ) (m n : Mark) → mark_at marks i ≡ m → mark_at marks j ≡ n → (m ≡ n → ⊥) → i ≡ j → A
two_marks marks i j m n here there apart same = absurd (apart (sym here ∙ ap (mark_at marks) same ∙ there))

pub new_met : New ≡ Met → ⊥
new_met same = absurd cc

pub new_placed : New ≡ Placed → ⊥
new_placed same = absurd cc

pub met_placed : Met ≡ Placed → ⊥
met_placed same = absurd cc

-- a mark that was read
pub mark_read : (marks : List Mark) (i : ℕ) (m : Mark) → i < length marks → m ≡ get_or marks i m → mark_at marks i ≡ m
mark_read marks i m inside read = get_or_default marks i New m inside ∙ sym read

-- a number that was read from a list
number_read : (xs : List ℕ) (i x : ℕ) → i < length xs → x ≡ get_or xs i x → get_or xs i 0 ≡ x
number_read xs i x inside read = get_or_default xs i 0 x inside ∙ sym read

-- a node that is marked is a node of the graph
pub marked_inside : (marks : List Mark) (i : ℕ) → (mark_at marks i ≡ New → ⊥) → i < length marks
marked_inside marks i marked = elim (cases_lt i (length marks)) [ inl lt ↦ lt | inr le ↦ absurd (marked (get_or_past marks i New le)) ]

-- a placed node stays placed when a node that isn't placed gets a mark
placed_stays : (marks : List Mark) (to : ℕ) (before after : Mark) → mark_at marks to ≡ before → (before ≡ Placed → ⊥) → (n : ℕ) → IsPlaced marks n → IsPlaced (set marks to after) n
placed_stays marks to before after is isnt n placed = elim (cases_eq n to) [
  | inl same ↦ two_marks marks to n before Placed is placed isnt (sym same)
  | inr other ↦ mark_other marks to n after other ∙ placed
]

-- ---- the start

-- at first all nodes are new
new_all : (n i : ℕ) → mark_at (replicate n New) i ≡ New
new_all n i = elim (cases_lt i n) [
  | inl lt ↦ get_or-replicate n i New New lt
  | inr le ↦ get_or_past (replicate n New) i New (omega (arith, le, length-replicate n New))
]

-- at first no named node is passed
zero_all : (n i : ℕ) → ◌≡◌ {A = ℕ} (get_or (replicate {A = ℕ} n 0) i 0) 0
zero_all n i = elim (cases_lt i n) [
  | inl lt ↦ get_or-replicate n i 0 0 lt
  | inr le ↦ get_or_past (replicate n 0) i 0 (omega (arith, le, length-replicate {A = ℕ} n 0))
]

-- nothing is in an empty list
pub none_in : {A : Type 0} (n : ℕ) → Contains {X = ℕ} [] n → A
none_in n there = absurd (omega (arith, there.1))

-- a walk begins
pub walk_starts : (graph : List (List ℕ)) (n : ℕ) → n ≡ length graph → IsWalk graph (replicate n 0) (replicate n New) [] []
walk_starts graph n many = record {
  passed_many = length-replicate {A = ℕ} n 0 ∙ many;
  marks_many = length-replicate n New ∙ many;
  passes = λ i. subst (IsPassed (replicate n New) (get_or graph i [])) (sym (zero_all n i)) (omega arith, λ k d lt. absurd (omega (arith, lt)));
  whole = λ i placed. absurd (new_placed (sym (new_all n i) ∙ placed));
  placed = λ k d lt. absurd (omega (arith, lt));
  once = λ i j d lt below. absurd (omega (arith, below));
  after = λ k lt. absurd (omega (arith, lt));
  met = λ k d lt. absurd (omega (arith, lt));
  apart = λ i j d lt below. absurd (omega (arith, below));
  linked = λ k lt. absurd (omega (arith, lt));
  caught = λ i met. absurd (new_met (sym (new_all n i) ∙ met));
}

-- ---- a node that is met

-- a new node that the last node of the path names is met
pub walk_meets : (graph : List (List ℕ)) (passed : List ℕ) (marks : List Mark) (path order : List ℕ) (to : ℕ) → IsWalk graph passed marks path order → mark_at marks to ≡ New → to < length graph
    → ((k : ℕ) → k + 1 ≡ length path → Contains (get_or graph (get_or path k 0) []) to) → IsWalk graph passed (set marks to Met) (path ++ to ∷ []) order
walk_meets graph passed marks path order to w is inside names = record {
  passed_many = w.passed_many;
  marks_many = length-set marks to Met ∙ w.marks_many;
  passes = λ i. let p = w.passes i in (p.0, All-weaker (IsPlaced marks) (IsPlaced (set marks to Met)) keeps (take (get_or passed i 0) (get_or graph i [])) p.1);
  whole = λ i placed. elim (cases_eq i to) [
    | inl same ↦ absurd (met_placed (sym here ∙ ap (mark_at (set marks to Met)) (sym same) ∙ placed))
    | inr other ↦ w.whole i (sym (mark_other marks to i Met other) ∙ placed)
  ];
  placed = All-weaker (IsPlaced marks) (IsPlaced (set marks to Met)) keeps order w.placed;
  once = w.once;
  after = w.after;
  met = All-push (λ i. mark_at (set marks to Met) i ≡ Met) path to (All-weaker (λ i. mark_at marks i ≡ Met) (λ i. mark_at (set marks to Met) i ≡ Met) met_keeps path w.met) here;
  apart = all_pairs_push (λ i j. i ≢ j) path to w.apart (λ k d lt same. two_marks marks (get_or path k d) to Met New (w.met k d lt) is (λ e. new_met (sym e)) same);
  linked = λ k lt. elim (cases_lt (k + 1) (length path)) [
    | inl below ↦ rw (get_or_append_left path (to ∷ []) 0 k (omega arith), get_or_append_left path (to ∷ []) 0 (k + 1) below) (w.linked k below)
    | inr above ↦
        let last : k + 1 ≡ length path = omega (arith, above, lt, length-append path (to ∷ [])) in
        rw (get_or_append_left path (to ∷ []) 0 k (omega arith), get_or_push path to 0 (k + 1) (sym last)) (names k last)
  ];
  caught = λ i met. elim (cases_eq i to) [
    | inl same ↦ inl (subst (λ (x : ℕ). Contains (path ++ to ∷ []) x) (sym same) (Contains-push path to))
    | inr other ↦ elim (w.caught i (sym (mark_other marks to i Met other) ∙ met)) [
      | inl on ↦ inl (Contains-append_left path (to ∷ []) i on)
      | inr c ↦ inr (
        c.0,
        c.1,
        met_keeps c.0 c.2,
        λ on. elim (Contains-push_cases path to c.0 on) [
          | inl old ↦ c.3 old
          | inr same ↦ two_marks marks to c.0 New Met is c.2 new_met same
        ],
      )
    ]
  ];
}
  where
    here : mark_at (set marks to Met) to ≡ Met
    here = mark_same marks to Met (omega (arith, inside, w.marks_many))

    keeps : (n : ℕ) → IsPlaced marks n → IsPlaced (set marks to Met) n
    keeps = placed_stays marks to New Met is new_placed

    met_keeps : (n : ℕ) → mark_at marks n ≡ Met → mark_at (set marks to Met) n ≡ Met
    met_keeps n met = elim (cases_eq n to) [ inl same ↦ ap (mark_at (set marks to Met)) same ∙ here | inr other ↦ mark_other marks to n Met other ∙ met ]

-- ---- a node that is placed

-- the last node of the path is placed when all nodes that it names are passed
pub walk_places : (graph : List (List ℕ)) (passed : List ℕ) (marks : List Mark) (path front order : List ℕ) (top : ℕ) → IsWalk graph passed marks path order → path ≡ front ++ top ∷ [] → length (get_or graph top []) ≤ get_or passed top 0
    → IsWalk graph passed (set marks top Placed) front (order ++ top ∷ [])
walk_places graph passed marks path front order top w split all = record {
  passed_many = w.passed_many;
  marks_many = length-set marks top Placed ∙ w.marks_many;
  passes = λ i. let p = w.passes i in (p.0, All-weaker (IsPlaced marks) (IsPlaced (set marks top Placed)) keeps (take (get_or passed i 0) (get_or graph i [])) p.1);
  whole = λ i placed. elim (cases_eq i top) [
    | inl same ↦ subst (λ (x : ℕ). Contains (order ++ top ∷ []) x) (sym same) (Contains-push order top)
    | inr other ↦ Contains-append_left order (top ∷ []) i (w.whole i (sym (mark_other marks top i Placed other) ∙ placed))
  ];
  placed = All-push (IsPlaced (set marks top Placed)) order top (All-weaker (IsPlaced marks) (IsPlaced (set marks top Placed)) keeps order w.placed) here;
  once = all_pairs_push (λ i j. i ≢ j) order top w.once (λ k d lt same. two_marks marks (get_or order k d) top Placed Met (w.placed k d lt) is (λ e. met_placed (sym e)) same);
  after = λ k lt. elim (cases_lt k (length order)) [
    | inl below ↦ rw (get_or_append_left order (top ∷ []) 0 k below, take-append-le k order (top ∷ []) (omega arith)) (w.after k below)
    | inr above ↦
        let last : length order ≡ k = omega (arith, above, lt, length-append order (top ∷ [])) in
        rw (get_or_push order top 0 k last, take_at order (top ∷ []) k last) (λ n there. w.whole n (all_placed n there))
  ];
  met = λ k d lt. mark_other marks top (get_or front k d) Placed (below_top k d lt) ∙ old_met k d lt;
  apart = λ i j d lt below same. w.apart i j d lt (omega (arith, many, below)) (rw (split, get_or_append_left front (top ∷ []) d i (omega arith), get_or_append_left front (top ∷ []) d j below) same);
  linked = λ k lt.
      let old = w.linked k (omega (arith, many, lt)) in
      rw (split, get_or_append_left front (top ∷ []) 0 k (omega arith), get_or_append_left front (top ∷ []) 0 (k + 1) lt) at old;
  caught = λ i met. elim (cases_eq i top) [
    | inl same ↦ absurd (met_placed (sym met ∙ ap (mark_at (set marks top Placed)) same ∙ here))
    | inr other ↦ elim (w.caught i (sym (mark_other marks top i Placed other) ∙ met)) [
      | inl on ↦ elim (Contains-push_cases front top i (subst (λ (p : List ℕ). Contains p i) split on)) [
        | inl old ↦ inl old
        | inr same ↦ absurd (other (sym same))
      ]
      | inr c ↦ inr (c.0, c.1, mark_other marks top c.0 Placed (off c.0 c.3) ∙ c.2, λ on. c.3 (subst (λ (p : List ℕ). Contains p c.0) (sym split) (Contains-append_left front (top ∷ []) c.0 on)))
    ]
  ];
}
  where
    many : length path ≡ length front + 1
    many = ap length split ∙ length-append front (top ∷ [])

    is : mark_at marks top ≡ Met
    is = All-contains (λ i. mark_at marks i ≡ Met) path top w.met (subst (λ (p : List ℕ). Contains p top) (sym split) (Contains-push front top))

    in_marks : top < length marks
    in_marks = marked_inside marks top (λ new. new_met (sym new ∙ is))

    here : mark_at (set marks top Placed) top ≡ Placed
    here = mark_same marks top Placed in_marks

    keeps : (n : ℕ) → IsPlaced marks n → IsPlaced (set marks top Placed) n
    keeps = placed_stays marks top Met Placed is met_placed

    all_placed : (n : ℕ) → Contains (get_or graph top []) n → IsPlaced marks n
    all_placed n there =
        let p = w.passes top in
        All-contains (IsPlaced marks) (take (get_or passed top 0) (get_or graph top [])) n p.1
        (subst (λ (r : List ℕ). Contains r n) (sym (take_all (get_or passed top 0) (get_or graph top []) all)) there)

    old_met : (k d : ℕ) → k < length front → mark_at marks (get_or front k d) ≡ Met
    old_met k d lt =
        let same : get_or path k d ≡ get_or front k d = ap (λ (p : List ℕ). get_or p k d) split ∙ get_or_append_left front (top ∷ []) d k lt in
        ap (mark_at marks) (sym same) ∙ w.met k d (omega (arith, many, lt))

    below_top : (k d : ℕ) → k < length front → get_or front k d ≡ top → ⊥
    below_top k d lt same = w.apart k (length front) d lt (omega (arith, many)) (rw (split, get_or_append_left front (top ∷ []) d k lt, get_or_push front top d (length front) refl) same)

    off : (n : ℕ) → (Contains path n → ⊥) → n ≡ top → ⊥
    off n isnt same = isnt (subst (λ (x : ℕ). Contains path x) (sym same) (subst (λ (p : List ℕ). Contains p top) (sym split) (Contains-push front top)))

-- ---- a cycle

-- if the last node of the path names a node that was met and isn't placed, the whole path is caught
pub walk_stops : (graph : List (List ℕ)) (passed : List ℕ) (marks : List Mark) (path front order : List ℕ) (top to : ℕ) → IsWalk graph passed marks path order → path ≡ front ++ top ∷ [] → Contains (get_or graph top []) to → mark_at marks to ≡ Met
    → IsWalk graph passed marks [] order
walk_stops graph passed marks path front order top to w split names is = record {
  passed_many = w.passed_many;
  marks_many = w.marks_many;
  passes = w.passes;
  whole = w.whole;
  placed = w.placed;
  once = w.once;
  after = w.after;
  met = λ k d lt. absurd (omega (arith, lt));
  apart = λ i j d lt below. absurd (omega (arith, below));
  linked = λ k lt. absurd (omega (arith, lt));
  caught = λ i met. elim (w.caught i met) [
    | inl on ↦ inr (on_path i on.0 on.1 on.2)
    | inr c ↦ inr (c.0, c.1, c.2, λ there. none_in c.0 there)
  ];
}
  where
    many : length path ≡ length front + 1
    many = ap length split ∙ length-append front (top ∷ [])

    on_path : (i k : ℕ) → k < length path → get_or path k i ≡ i → NamesCaught graph marks [] i
    on_path i k lt at =
        let here : get_or path k 0 ≡ i = get_or_default path k 0 i lt ∙ at in
        elim (cases_lt (k + 1) (length path)) [
          | inl below ↦ (get_or path (k + 1) 0, subst (λ (x : ℕ). Contains (get_or graph x []) (get_or path (k + 1) 0)) here (w.linked k below), w.met (k + 1) 0 below, λ there. none_in (get_or path (k + 1) 0) there)
          | inr above ↦
              let last : length front ≡ k = omega (arith, above, lt, many) in
              let same : top ≡ i = sym (get_or_push front top 0 k last) ∙ ap (λ (p : List ℕ). get_or p k 0) (sym split) ∙ here in
              (to, subst (λ (x : ℕ). Contains (get_or graph x []) to) same names, is, λ there. none_in to there)
        ]

-- ---- what is passed

-- more of the nodes that a node names are passed
pub walk_passes : (graph : List (List ℕ)) (passed : List ℕ) (marks : List Mark) (path order : List ℕ) (i at : ℕ) → IsWalk graph passed marks path order → i < length graph → IsPassed marks (get_or graph i []) at
    → IsWalk graph (set passed i at) marks path order
walk_passes graph passed marks path order i at w inside p = record {
  passed_many = length-set passed i at ∙ w.passed_many;
  marks_many = w.marks_many;
  passes = λ j. elim (cases_eq j i) [
    | inl same ↦ rw (same, get_or-set_same passed i at 0 (omega (arith, inside, w.passed_many))) p
    | inr other ↦ rw (get_or-set_other passed i j at 0 other) (w.passes j)
  ];
  whole = w.whole;
  placed = w.placed;
  once = w.once;
  after = w.after;
  met = w.met;
  apart = w.apart;
  linked = w.linked;
  caught = w.caught;
}

-- if the next node of a row is placed, one more is passed
pub passed_more : (marks : List Mark) (row : List ℕ) (at : ℕ) → IsPassed marks row at → at < length row → IsPlaced marks (get_or row at 0) → IsPassed marks row (at + 1)
passed_more marks row at p lt placed =
    (omega (arith, lt), subst (All (IsPlaced marks)) (sym (take_more row at 0 lt)) (All-push (IsPlaced marks) (take at row) (get_or row at 0) p.1 placed))

-- ---- one step

-- the last place of a path holds its last node
last_of : (path : List ℕ) (top k : ℕ) → k + 1 ≡ length (path ++ top ∷ []) → get_or (path ++ top ∷ []) k 0 ≡ top
last_of path top k last = get_or_push path top 0 k (omega (arith, last, length-append path (top ∷ [])))

-- the last of a path was met
top_met : (graph : List (List ℕ)) (passed : List ℕ) (marks : List Mark) (path order : List ℕ) (top : ℕ) → IsWalk graph passed marks (path ++ top ∷ []) order → mark_at marks top ≡ Met
top_met graph passed marks path order top w = All-contains (λ i. mark_at marks i ≡ Met) (path ++ top ∷ []) top w.met (Contains-push path top)

-- the last of a path has a mark
pub top_marked : (graph : List (List ℕ)) (passed : List ℕ) (marks : List Mark) (path order : List ℕ) (top : ℕ) → IsWalk graph passed marks (path ++ top ∷ []) order → top < length marks
top_marked graph passed marks path order top w = marked_inside marks top (λ new. new_met (sym new ∙ top_met graph passed marks path order top w))

-- the last of a path is a node
pub top_inside : (graph : List (List ℕ)) (passed : List ℕ) (marks : List Mark) (path order : List ℕ) (top : ℕ) → IsWalk graph passed marks (path ++ top ∷ []) order → top < length graph
top_inside graph passed marks path order top w = omega (arith, w.marks_many, top_marked graph passed marks path order top w)

-- `passed` says how many of the nodes that the last node of a path names are passed
pub top_passed : (graph : List (List ℕ)) (passed : List ℕ) (marks : List Mark) (path order : List ℕ) (top n : ℕ) → IsWalk graph passed marks (path ++ top ∷ []) order → n ≡ get_or passed top n → IsPassed marks (get_or graph top []) n
top_passed graph passed marks path order top n w read =
    subst (IsPassed marks (get_or graph top [])) (number_read passed top n (omega (arith, w.passed_many, top_inside graph passed marks path order top w)) read) (w.passes top)

-- it names each node of its row
pub top_names : (graph : List (List ℕ)) (named : List ℕ) (top at : ℕ) → named ≡ get_or graph top [] → at < length named → Names graph top (get_or named at 0)
top_names graph named top at is lt = subst (λ (row : List ℕ). Contains row (get_or named at 0)) is (Contains-get_or named at 0 lt)

-- and each node of its row has a mark
pub next_marked : (graph : List (List ℕ)) (passed : List ℕ) (marks : List Mark) (path order named : List ℕ) (top at : ℕ) → NamesNodes graph → IsWalk graph passed marks (path ++ top ∷ []) order → named ≡ get_or graph top [] → at < length named
    → get_or named at 0 < length marks
next_marked graph passed marks path order named top at nodes w is lt = omega (arith, w.marks_many, nodes top (get_or named at 0) (top_names graph named top at is lt))

-- a mark that is neither of the two others
pub is_met : (m : Mark) → (m ≡ New → ⊥) → (m ≡ Placed → ⊥) → m ≡ Met
is_met New new placed = absurd (new refl)
is_met Met new placed = refl
is_met Placed new placed = absurd (placed refl)

-- more of what the last of a path names is passed
top_passes : (graph : List (List ℕ)) (passed : List ℕ) (marks : List Mark) (path order : List ℕ) (top at : ℕ) → IsWalk graph passed marks (path ++ top ∷ []) order → IsPassed marks (get_or graph top []) at
    → IsWalk graph (set passed top at) marks (path ++ top ∷ []) order
top_passes graph passed marks path order top at w p = walk_passes graph passed marks (path ++ top ∷ []) order top at w (top_inside graph passed marks path order top w) p

-- if all nodes that it names are passed, it is placed
pub step_places : (graph : List (List ℕ)) (passed : List ℕ) (marks : List Mark) (path order : List ℕ) (top at : ℕ) → IsWalk graph passed marks (path ++ top ∷ []) order → IsPassed marks (get_or graph top []) at
    → length (get_or graph top []) ≤ at → IsWalk graph (set passed top at) (set marks top Placed) path (order ++ top ∷ [])
step_places graph passed marks path order top at w p all =
    walk_places graph (set passed top at) marks (path ++ top ∷ []) path order top (top_passes graph passed marks path order top at w p) refl
    (rw (get_or-set_same passed top at 0 (omega (arith, w.passed_many, top_inside graph passed marks path order top w))) all)

-- a new node that it names is met
pub step_meets : (graph : List (List ℕ)) (passed : List ℕ) (marks : List Mark) (path order : List ℕ) (top at to : ℕ) → NamesNodes graph → IsWalk graph passed marks (path ++ top ∷ []) order → IsPassed marks (get_or graph top []) at
    → Names graph top to → mark_at marks to ≡ New → IsWalk graph (set passed top at) (set marks to Met) ((path ++ top ∷ []) ++ to ∷ []) order
step_meets graph passed marks path order top at to nodes w p names new =
    walk_meets graph (set passed top at) marks (path ++ top ∷ []) order to (top_passes graph passed marks path order top at w p) new (nodes top to names)
    (λ k last. subst (λ (x : ℕ). Names graph x to) (sym (last_of path top k last)) names)

-- if it names a node that was met, the path is cleared
pub step_stops : (graph : List (List ℕ)) (passed : List ℕ) (marks : List Mark) (path order : List ℕ) (top at to : ℕ) → IsWalk graph passed marks (path ++ top ∷ []) order → IsPassed marks (get_or graph top []) at
    → Names graph top to → mark_at marks to ≡ Met → IsWalk graph (set passed top at) marks [] order
step_stops graph passed marks path order top at to w p names met =
    walk_stops graph (set passed top at) marks (path ++ top ∷ []) path order top to (top_passes graph passed marks path order top at w p) refl names met

-- ---- how many are new

-- a new node that is met
pub count_meets : (marks : List Mark) (i : ℕ) → i < length marks → mark_at marks i ≡ New → new_count (set marks i Met) + 1 ≡ new_count marks
unfolding new_count new_one
count_meets [] i inside new = absurd (omega (arith, inside))
count_meets (m ∷ ms) zero inside new = rw new (omega arith)
count_meets (m ∷ ms) (suc i) inside new = omega (arith, count_meets ms i (omega (arith, inside)) new)

-- a node that is placed
pub count_places : (marks : List Mark) (i : ℕ) → mark_at marks i ≡ Met → new_count (set marks i Placed) ≡ new_count marks
unfolding new_count new_one
count_places [] i met = refl
count_places (m ∷ ms) zero met = rw met refl
count_places (m ∷ ms) (suc i) met = ap (λ (n : ℕ). new_one m + n) (count_places ms i met)

-- the last node of a path that is placed
pub count_top : (graph : List (List ℕ)) (passed : List ℕ) (marks : List Mark) (path order : List ℕ) (top : ℕ) → IsWalk graph passed marks (path ++ top ∷ []) order → new_count (set marks top Placed) ≡ new_count marks
count_top graph passed marks path order top w = count_places marks top (top_met graph passed marks path order top w)

-- ---- marks that stay

-- a walk that begins at a new node
pub walk_from_root : (graph : List (List ℕ)) (passed : List ℕ) (marks : List Mark) (order : List ℕ) (root : ℕ) → IsWalk graph passed marks [] order → mark_at marks root ≡ New → root < length marks → IsWalk graph passed (set marks root Met) ([] ++ root ∷ []) order
walk_from_root graph passed marks order root w new inside = walk_meets graph passed marks [] order root w new (omega (arith, inside, w.marks_many)) (λ k last. absurd (omega (arith, last)))

-- ---- those that are caught

-- marks with one more after them
mark_push : (marks : List Mark) (m : Mark) (i : ℕ) → mark_at (marks ++ m ∷ []) i ≡ Met → ((i < length marks) × (mark_at marks i ≡ Met)) ⊎ ((i ≡ length marks) × (m ≡ Met))
mark_push marks m i met = elim (cases_lt i (length marks)) [
  | inl lt ↦ inl (lt, sym (get_or_append_left marks (m ∷ []) New i lt) ∙ met)
  | inr le ↦
      let inside : i < length (marks ++ m ∷ []) = marked_inside (marks ++ m ∷ []) i (λ new. new_met (sym new ∙ met)) in
      let last : i ≡ length marks = omega (arith, le, inside, length-append marks (m ∷ [])) in
      inr (last, sym (get_or_push marks m New i (sym last)) ∙ met)
]

-- a node that was met stays met
met_push : (marks : List Mark) (m : Mark) (i : ℕ) → mark_at marks i ≡ Met → mark_at (marks ++ m ∷ []) i ≡ Met
met_push marks m i met = get_or_append_left marks (m ∷ []) New i (marked_inside marks i (λ new. new_met (sym new ∙ met))) ∙ met

-- one more node, which was met
pub caught_more : (marks : List Mark) (nodes : List ℕ) (m : Mark) (node : ℕ) → AreCaught marks nodes → m ≡ Met → node ≡ length marks → AreCaught (marks ++ m ∷ []) (nodes ++ node ∷ [])
caught_more marks nodes m node a is at = record {
  rising = all_pairs_push (λ x y. x < y) nodes node a.rising (λ k d lt.
      let inside : get_or nodes k d < length marks = marked_inside marks (get_or nodes k d) (λ new. new_met (sym new ∙ a.met k d lt)) in
      omega (arith, inside, at));
  met = All-push (λ n. mark_at (marks ++ m ∷ []) n ≡ Met) nodes node (All-weaker (λ n. mark_at marks n ≡ Met) (λ n. mark_at (marks ++ m ∷ []) n ≡ Met) (met_push marks m) nodes a.met) (get_or_push marks m New node (sym at) ∙ is);
  whole = λ i met. elim (mark_push marks m i met) [
    | inl old ↦ Contains-append_left nodes (node ∷ []) i (a.whole i old.1)
    | inr new ↦
        let same : node ≡ i = omega (arith, at, new.0) in
        subst (λ (x : ℕ). Contains (nodes ++ node ∷ []) x) same (Contains-push nodes node)
  ];
}

-- one more node, which wasn't met
pub caught_other : (marks : List Mark) (nodes : List ℕ) (m : Mark) → AreCaught marks nodes → (m ≡ Met → ⊥) → AreCaught (marks ++ m ∷ []) nodes
caught_other marks nodes m a isnt = record {
  rising = a.rising;
  met = All-weaker (λ n. mark_at marks n ≡ Met) (λ n. mark_at (marks ++ m ∷ []) n ≡ Met) (met_push marks m) nodes a.met;
  whole = λ i met. elim (mark_push marks m i met) [ inl old ↦ a.whole i old.1 | inr new ↦ absurd (isnt new.1) ];
}
