-- What is the same by a test is the same.
use Rattle.std.proofs.Common.{◌≡◌, ◌∙◌, ℕ, Bool, true, false, not, cond, ◌&&◌, ◌||◌, ◌==◌, List, [], ◌∷◌, ◌++◌, filter, refl, sym, ap, subst, true≢false}
use Rattle.std.specs.Bool.{Decides, one_answer}
use Rattle.std.specs.List.{list_any}
use Rattle.std.specs.Str.{bytes_eq}
use Rattle.std.proofs.lemmas.Bool.{eqb-true, eq-eqb}
use Rattle.std.proofs.lemmas.List.{append_assoc}
use Rattle.std.proofs.lemmas.List.Folds.{list_any-append}
use Rattle.std.proofs.lemmas.Slice.Eq.{bytes_eq-Decides}
use Rattle.indexmap.specs.IndexSet.{insert_key}
use Rattle.type_changes.specs.Definition.{Key, Definition}
use Rattle.type_changes.specs.Lone.{is_same_key, is_same}
use Rattle.type_changes.proofs.ListLaws.{filter_twice, or_none}

-- ---- the tests

-- such a test may be turned
turned : {A : Type 0} (same : A → A → Bool) → ((x y : A) → Decides (same x y) (x ≡ y)) → (x y : A) → same x y ≡ same y x
turned same decides x y = one_answer (same x y) (same y x) (decides x y) (λ e. sym ((decides y x).0 e), λ e. (decides y x).1 (sym e))

both_hold : (a b : Bool) → (a && b) ≡ true → (a ≡ true) × (b ≡ true)
both_hold true b e = (refl, e)
both_hold false b e = absurd (true≢false (sym e))

hold_both : (a b : Bool) → a ≡ true → b ≡ true → (a && b) ≡ true
hold_both a b p q = rw (p, q) refl

bytes_own : (xs : List ℕ) → bytes_eq xs xs ≡ true
bytes_own xs = (bytes_eq-Decides xs xs).1 refl

pub keys_decide : (one other : Key) → Decides (is_same_key one other) (one ≡ other)
keys_decide one other = (
  λ e.
      let both = both_hold (one.kind == other.kind) (bytes_eq one.name other.name) e in
      let kind : one.kind ≡ other.kind = eqb-true one.kind other.kind both.0 in
      let name : one.name ≡ other.name = (bytes_eq-Decides one.name other.name).0 both.1 in
      λ j. record { kind = kind j; name = name j },
  λ e. subst (λ (k : Key). is_same_key one k ≡ true) e (hold_both (one.kind == one.kind) (bytes_eq one.name one.name) (eq-eqb one.kind one.kind refl) (bytes_own one.name)),
)

pub same_decides : (one other : Definition) → Decides (is_same one other) (one ≡ other)
same_decides one other = (
  λ e.
      let first = both_hold (is_same_key one.key other.key) _ e in
      let second = both_hold (bytes_eq one.title other.title) _ first.1 in
      let third = both_hold (bytes_eq one.size other.size) _ second.1 in
      let key : one.key ≡ other.key = (keys_decide one.key other.key).0 first.0 in
      let title : one.title ≡ other.title = (bytes_eq-Decides one.title other.title).0 second.0 in
      let size : one.size ≡ other.size = (bytes_eq-Decides one.size other.size).0 third.0 in
      let lines : one.lines ≡ other.lines = (bytes_eq-Decides one.lines other.lines).0 third.1 in
      λ j. record { key = key j; title = title j; size = size j; lines = lines j },
  λ e. subst (λ (d : Definition). is_same one d ≡ true) e
      (hold_both (is_same_key one.key one.key) _ ((keys_decide one.key one.key).1 refl)
      (hold_both (bytes_eq one.title one.title) _ (bytes_own one.title)
      (hold_both (bytes_eq one.size one.size) _ (bytes_own one.size) (bytes_own one.lines)))),
)

pub same_turned : (one other : Definition) → is_same one other ≡ is_same other one
same_turned one other = turned is_same same_decides one other

-- ---- what is inserted

module _ {A : Type 0} (same : A → A → Bool) (decides : (x y : A) → Decides (same x y) (x ≡ y)) where
  -- what is inserted is found
  pub found_insert : (us : List A) (k x : A) → list_any (same x) (insert_key same us k) ≡ (list_any (same x) us || same x k)
  found_insert us k x = by (list_any (same k) us) refl
    where
      here : (b : Bool) → same x k ≡ b → list_any (same k) us ≡ true → list_any (same x) us ≡ (list_any (same x) us || b)
      here true e found = rw ((decides x k).0 e, found) refl
      here false e found = sym (or_none (list_any (same x) us))

      by : (b : Bool) → list_any (same k) us ≡ b → list_any (same x) (cond b us (us ++ k ∷ [])) ≡ (list_any (same x) us || same x k)
      by true found = here (same x k) refl found
      by false none = list_any-append (same x) us (k ∷ []) ∙ ap (λ b. list_any (same x) us || b) (or_none (same x k))

  -- the first of the others, and those that are not the same, of which these are not found
  pub distinct_more : (us : List A) (d : A) (others : List A)
      → us ++ filter (λ x. not (list_any (same x) us)) (d ∷ filter (λ x. not (same d x)) others)
      ≡ insert_key same us d ++ filter (λ x. not (list_any (same x) (insert_key same us d))) others
  distinct_more us d others = by (list_any (same d) us) refl
    where
      gone : (x : A) → list_any (same d) us ≡ true → cond (not (same d x)) (not (list_any (same x) us)) false ≡ not (list_any (same x) us)
      gone x found = of (same d x) refl
        where
          of : (b : Bool) → same d x ≡ b → cond (not b) (not (list_any (same x) us)) false ≡ not (list_any (same x) us)
          of true e = rw (← (decides d x).0 e, found) refl
          of false e = refl

      kept : (x : A) → cond (not (same d x)) (not (list_any (same x) us)) false ≡ not (list_any (same x) (us ++ d ∷ []))
      kept x = of (same d x) (list_any (same x) us) ∙ ap not (ap (λ b. list_any (same x) us || (b || false)) (turned same decides d x) ∙ sym (list_any-append (same x) us (d ∷ [])))
        where
          of : (b c : Bool) → cond (not b) (not c) false ≡ not (c || (b || false))
          of true true = refl
          of true false = refl
          of false true = refl
          of false false = refl

      by : (b : Bool) → list_any (same d) us ≡ b
          → us ++ filter (λ x. not (list_any (same x) us)) (d ∷ filter (λ x. not (same d x)) others)
          ≡ cond b us (us ++ d ∷ []) ++ filter (λ x. not (list_any (same x) (cond b us (us ++ d ∷ [])))) others
      by true found = ap (λ xs. us ++ xs) (rw found (filter_twice (λ x. not (list_any (same x) us)) (λ x. not (same d x)) (λ x. not (list_any (same x) us)) (λ x. gone x found) others))
      by false none =
          ap (λ xs. us ++ xs) (rw none (ap (λ xs. d ∷ xs) (filter_twice (λ x. not (list_any (same x) us)) (λ x. not (same d x)) (λ x. not (list_any (same x) (us ++ d ∷ []))) kept others)))
          ∙ sym (append_assoc us (d ∷ []) (filter (λ x. not (list_any (same x) (us ++ d ∷ []))) others))
