-- Nothing is shown exactly where both lists have the same definitions.
use Rattle.std.proofs.Common.{◌≡◌, ◌∙◌, ◌↔◌, ℕ, Bool, true, false, not, cond, ◌||◌, List, [], ◌∷◌, ◌++◌, filter, refl, sym, ap, codes, true≢false, inl, inr}
use Rattle.std.specs.Prelude.{Option, Some, None, ◌⊎◌, is_some}
use Rattle.std.specs.List.{Contains, flat_map}
use Rattle.std.specs.Option.{option_map_or}
use Rattle.std.proofs.lemmas.List.{append_assoc}
use Rattle.std.specs.Cmp.{IsEquivalence}
use Rattle.std.proofs.lemmas.Option.{same_Some}
use Rattle.std.proofs.lemmas.Map.Views.{list_any-from_Contains, Contains-from_any}
use Rattle.type_changes.specs.Definition.{Definition, Key}
use Rattle.type_changes.specs.Lone.{is_same, is_same_key, has, distinct, lone, only, sole}
use Rattle.type_changes.specs.Changes.{changed, changes_between, changes_text, come_text, gone_text, successor, whole}
use Rattle.type_changes.proofs.ListLaws.{filter_agrees, filter_twice, or_none}
use Rattle.type_changes.proofs.SameLaws.{keys_decide, same_decides, same_turned}

-- ---- what is in a list is found there

same_laws : IsEquivalence is_same
same_laws = record {
  refl = λ x. (same_decides x x).1 refl;
  symm = λ x y. same_turned x y;
  congr = λ x y z e. ap (λ (d : Definition). is_same d z) ((same_decides x y).0 e);
}

pub found : (all : List Definition) (d : Definition) → Contains all d → has all d ≡ true
found all d is = list_any-from_Contains same_laws d all is

pub there : (all : List Definition) (d : Definition) → has all d ≡ true → Contains all d
there all d is = Contains-from_any (λ x y. (same_decides x y).0) d all is

-- ---- each once

any_left : (d : Definition) (p : Definition → Bool) → ((x : Definition) → is_same d x ≡ true → p x ≡ true) → (xs : List Definition) → has (filter p xs) d ≡ has xs d
any_left d p passes [] = refl
any_left d p passes (x ∷ xs) = by (p x) (is_same d x) refl refl (any_left d p passes xs)
  where
    by : (b c : Bool) → p x ≡ b → is_same d x ≡ c → has (filter p xs) d ≡ has xs d → has (cond b (x ∷ filter p xs) (filter p xs)) d ≡ (is_same d x || has xs d)
    by true c q e rest = ap (λ r. is_same d x || r) rest
    by false true q e rest = absurd (true≢false (sym (passes x e) ∙ q))
    by false false q e rest = rest ∙ rw e refl

pub has_distinct : (all : List Definition) (d : Definition) → has (distinct all) d ≡ has all d
unfolding distinct
has_distinct [] d = refl
has_distinct (x ∷ xs) d = by (is_same d x) refl (has_distinct xs d)
  where
    other_one : is_same d x ≡ false → (y : Definition) → is_same d y ≡ true → is_same x y ≡ false
    other_one e y same = ap (is_same x) (sym ((same_decides d y).0 same)) ∙ same_turned x d ∙ e

    by : (c : Bool) → is_same d x ≡ c → has (distinct xs) d ≡ has xs d → (is_same d x || has (filter (λ other. not (is_same x other)) (distinct xs)) d) ≡ (is_same d x || has xs d)
    by true e rest = rw e refl
    by false e rest = rw e (any_left d (λ other. not (is_same x other)) (λ y same. ap not (other_one e y same)) (distinct xs) ∙ rest)

-- ---- none is left

-- each of these fails the test, or one of them passes it
none_left : (p : Definition → Bool) (xs : List Definition) → ((d : Definition) → has xs d ≡ true → p d ≡ false) → filter p xs ≡ []
none_left p [] fails = refl
none_left p (x ∷ xs) fails = rw (fails x (rw ((same_decides x x).1 refl) refl)) (none_left p xs (λ d is. fails d (more d is)))
  where
    more : (d : Definition) → has xs d ≡ true → has (x ∷ xs) d ≡ true
    more d is = by (is_same d x)
      where
        by : (b : Bool) → (b || has xs d) ≡ true
        by true = refl
        by false = is

all_fail : (p : Definition → Bool) (xs : List Definition) → filter p xs ≡ [] → (d : Definition) → has xs d ≡ true → p d ≡ false
all_fail p [] none d is = absurd (true≢false (sym is))
all_fail p (x ∷ xs) none d is = by (p x) (is_same d x) refl refl (λ left rest. all_fail p xs left d rest)
  where
    by : (b c : Bool) → p x ≡ b → is_same d x ≡ c → (filter p xs ≡ [] → has xs d ≡ true → p d ≡ false) → p d ≡ false
    by true c q e rest = absurd (let gone = rw q at none in cc)
    by false true q e rest = ap p ((same_decides d x).0 e) ∙ q
    by false false q e rest = rest (rw q at none) (rw e at is)

no_lone : (ours theirs : List Definition) → ((d : Definition) → Contains ours d → Contains theirs d) → lone ours theirs ≡ []
no_lone ours theirs inside =
    none_left (λ d. not (has theirs d)) (distinct ours) (λ d is. ap not (found theirs d (inside d (there ours d (sym (has_distinct ours d) ∙ is)))))

all_there : (ours theirs : List Definition) → lone ours theirs ≡ [] → (d : Definition) → Contains ours d → Contains theirs d
all_there ours theirs none d is =
    there theirs d (turned (has theirs d) (all_fail (λ x. not (has theirs x)) (distinct ours) none d (has_distinct ours d ∙ found ours d is)))
  where
    turned : (b : Bool) → not b ≡ false → b ≡ true
    turned true e = refl
    turned false e = absurd (true≢false e)

-- ---- each that is lone is shown

abbrev shows : List ℕ → Type 0
shows text = (first : ℕ) × (others : List ℕ) × (text ≡ first ∷ others)

whole_shows : (sign : ℕ) (d : Definition) → shows (whole (sign ∷ codes " ") d)
unfolding whole
whole_shows sign d = (sign, _, refl)

changed_shows : (old new : Definition) → shows (changed old new)
unfolding changed
changed_shows old new = (126, _, refl)

gone_shows : (gone come : List Definition) (d : Definition) → shows (gone_text gone come d)
unfolding gone_text
gone_shows gone come d = by (successor gone come d.key)
  where
    by : (o : Option Definition) → shows (option_map_or (changed d) o (whole (codes "- ") d))
    by (Some new) = changed_shows d new
    by None = whole_shows 45 d

come_shows : (come : List Definition) (d : Definition) → shows (come_text [] come d)
unfolding come_text successor
come_shows come d = whole_shows 43 d

not_empty : (text rest : List ℕ) → shows text → (text ++ rest ≡ []) → ⊥
not_empty text rest (first, others, is) none = absurd (let gone = rw is at none in cc)

none_shown : (gone come : List Definition) → changes_between gone come ≡ [] → (gone ≡ []) × (come ≡ [])
unfolding changes_between
none_shown [] [] none = (refl, refl)
none_shown [] (d ∷ ds) none = absurd (not_empty (come_text [] (d ∷ ds) d) (flat_map (come_text [] (d ∷ ds)) ds) (come_shows (d ∷ ds) d) none)
none_shown (d ∷ ds) come none =
    absurd (not_empty (gone_text (d ∷ ds) come d) (flat_map (gone_text (d ∷ ds) come) ds ++ flat_map (come_text (d ∷ ds) come) come) (gone_shows (d ∷ ds) come d)
    (sym (append_assoc (gone_text (d ∷ ds) come d) (flat_map (gone_text (d ∷ ds) come) ds) (flat_map (come_text (d ∷ ds) come) come)) ∙ none))

nothing_between : changes_between [] [] ≡ []
unfolding changes_between
nothing_between = refl

-- nothing is shown exactly where both lists have the same definitions
pub nothing_changed : (ours theirs : List Definition) → (changes_text ours theirs ≡ []) ↔ ((d : Definition) → Contains ours d ↔ Contains theirs d)
nothing_changed ours theirs = (
  λ none. let both = none_shown (lone ours theirs) (lone theirs ours) none in
      λ d. (all_there ours theirs both.0 d, all_there theirs ours both.1 d),
  λ same. rw (no_lone ours theirs (λ d. (same d).0), no_lone theirs ours (λ d. (same d).1)) nothing_between,
)

-- what is lone among definitions that come once each is what is lone
pub lone_is : (ours theirs ours_each theirs_each found : List Definition) → ours_each ≡ distinct ours → theirs_each ≡ distinct theirs
    → found ≡ filter (λ d. not (has theirs_each d)) ours_each → found ≡ lone ours theirs
lone_is ours theirs ours_each theirs_each found one other is =
    is ∙ rw (one, other) (filter_agrees (λ d. not (has (distinct theirs) d)) (λ d. not (has theirs d)) (λ d. ap not (has_distinct theirs d)) (distinct ours))

-- both texts, one behind the other
pub both_shown : (gone come : List Definition) (old middle now : List ℕ) → middle ≡ old ++ flat_map (gone_text gone come) gone → now ≡ middle ++ flat_map (come_text gone come) come → now ≡ old ++ changes_between gone come
unfolding changes_between
both_shown gone come old middle now first second =
    second ∙ ap (λ (xs : List ℕ). xs ++ flat_map (come_text gone come) come) first ∙ append_assoc old (flat_map (gone_text gone come) gone) (flat_map (come_text gone come) come)

-- ---- each is shown

shown_among : (show : Definition → List ℕ) (all : List Definition) (d : Definition) → has all d ≡ true → (before after : List ℕ) × (flat_map show all ≡ before ++ show d ++ after)
shown_among show [] d is = absurd (true≢false (sym is))
shown_among show (x ∷ xs) d is = by (is_same d x) refl (λ rest. shown_among show xs d rest)
  where
    by : (b : Bool) → is_same d x ≡ b → (has xs d ≡ true → (before after : List ℕ) × (flat_map show xs ≡ before ++ show d ++ after)) → (before after : List ℕ) × (flat_map show (x ∷ xs) ≡ before ++ show d ++ after)
    by true e rest = ([], flat_map show xs, ap (λ y. show y ++ flat_map show xs) (sym ((same_decides d x).0 e)))
    by false e rest =
        let there = rest (rw e at is) in
        (show x ++ there.0, there.1, ap (λ (ys : List ℕ). show x ++ ys) there.2 ∙ simp append_assoc refl)

kept_there : (p : Definition → Bool) (all : List Definition) (d : Definition) → has all d ≡ true → p d ≡ true → has (filter p all) d ≡ true
kept_there p all d is passes = any_left d p (λ x same. ap p (sym ((same_decides d x).0 same)) ∙ passes) all ∙ is

-- each definition that only our list has is shown
pub lone_is_shown : (ours theirs : List Definition) (d : Definition) → Contains ours d → (Contains theirs d → ⊥)
    → (before after : List ℕ) × (changes_text ours theirs ≡ before ++ gone_text (lone ours theirs) (lone theirs ours) d ++ after)
unfolding changes_between
lone_is_shown ours theirs d is other =
    let gone = lone ours theirs in
    let come = lone theirs ours in
    let missing : has theirs d ≡ false = none (has theirs d) refl in
    let among = shown_among (gone_text gone come) gone d (kept_there (λ x. not (has theirs x)) (distinct ours) d (has_distinct ours d ∙ found ours d is) (ap not missing)) in
    (among.0, among.1 ++ flat_map (come_text gone come) come, ap (λ (xs : List ℕ). xs ++ flat_map (come_text gone come) come) among.2 ∙ simp append_assoc refl)
  where
    none : (b : Bool) → has theirs d ≡ b → b ≡ false
    none true e = absurd (other (there theirs d e))
    none false e = refl

-- ---- each that came is shown

-- what passes a test is in the list
passing : (p : Definition → Bool) (all : List Definition) (d : Definition) → has (filter p all) d ≡ true → (p d ≡ true) × (has all d ≡ true)
passing p [] d is = absurd (true≢false (sym is))
passing p (x ∷ xs) d is = by (p x) (is_same d x) refl refl (λ rest. passing p xs d rest) is
  where
    by : (b c : Bool) → p x ≡ b → is_same d x ≡ c → (has (filter p xs) d ≡ true → (p d ≡ true) × (has xs d ≡ true)) → has (cond b (x ∷ filter p xs) (filter p xs)) d ≡ true → (p d ≡ true) × ((is_same d x || has xs d) ≡ true)
    by true true q e rest is = (ap p ((same_decides d x).0 e) ∙ q, rw e refl)
    by true false q e rest is = let more = rest (rw e at is) in (more.0, rw e more.1)
    by false true q e rest is = let more = rest is in (more.0, rw e refl)
    by false false q e rest is = let more = rest is in (more.0, rw e more.1)

-- the only one is alone in its list
alone : (all : List Definition) (d : Definition) → only all ≡ Some d → all ≡ d ∷ []
alone [] d is = absurd cc
alone (x ∷ []) d is = ap (λ (y : Definition). y ∷ []) (same_Some x d is)
alone (x ∷ y ∷ others) d is = absurd cc

-- the only definition with a key is in the list, and has the key
sole_there : (all : List Definition) (key : Key) (d : Definition) → sole all key ≡ Some d → (is_same_key key d.key ≡ true) × (has all d ≡ true)
sole_there all key d is =
    let one = alone (filter (λ x. is_same_key key x.key) all) d is in
    passing (λ x. is_same_key key x.key) all d (rw (one, (same_decides d d).1 refl) refl)

-- any definition with the key is that one
sole_is : (all : List Definition) (d one : Definition) → has all d ≡ true → sole all d.key ≡ Some one → d ≡ one
sole_is all d one is found =
    let kept = kept_there (λ x. is_same_key d.key x.key) all d is ((keys_decide d.key d.key).1 refl) in
    let same : (is_same d one || false) ≡ true = rw (alone (filter (λ x. is_same_key d.key x.key) all) one found) at kept in
    (same_decides d one).0 (sym (or_none (is_same d one)) ∙ same)

-- a definition that changed is what one of ours is now
changed_from : (gone come : List Definition) (d new : Definition) → has come d ≡ true → successor gone come d.key ≡ Some new
    → (old : Definition) × (has gone old ≡ true) × (gone_text gone come old ≡ changed old d)
unfolding successor gone_text
changed_from gone come d new is found = by (sole gone d.key) refl found
  where
    by : (o : Option Definition) → sole gone d.key ≡ o → cond (is_some o) (sole come d.key) None ≡ Some new → (old : Definition) × (has gone old ≡ true) × (gone_text gone come old ≡ changed old d)
    by None e found = absurd cc
    by (Some old) e found =
        let there = sole_there gone d.key old e in
        let key : d.key ≡ old.key = (keys_decide d.key old.key).0 there.0 in
        (old, there.1, rw (← key, e, found, ← sole_is come d new is found) refl)

-- a list among two that are joined
joined : (first all before shown after : List ℕ) → all ≡ before ++ shown ++ after → first ++ all ≡ (first ++ before) ++ shown ++ after
joined first all before shown after is = ap (λ (xs : List ℕ). first ++ xs) is ∙ simp append_assoc refl

-- each definition that only their list has is shown
pub came_is_shown : (ours theirs : List Definition) (d : Definition) → Contains theirs d → (Contains ours d → ⊥)
    → (before shown after : List ℕ) × (changes_text ours theirs ≡ before ++ shown ++ after)
    × ((shown ≡ whole (codes "+ ") d) ⊎ ((old : Definition) × Contains (lone ours theirs) old × (shown ≡ changed old d)))
unfolding changes_between come_text
came_is_shown ours theirs d is other = by (successor gone come d.key) refl
  where
    gone : List Definition
    gone = lone ours theirs

    come : List Definition
    come = lone theirs ours

    none : (b : Bool) → has ours d ≡ b → b ≡ false
    none true e = absurd (other (there ours d e))
    none false e = refl

    inside : has come d ≡ true
    inside = kept_there (λ x. not (has ours x)) (distinct theirs) d (has_distinct theirs d ∙ found theirs d is) (ap not (none (has ours d) refl))

    by : (o : Option Definition) → successor gone come d.key ≡ o
        → (before shown after : List ℕ) × (changes_text ours theirs ≡ before ++ shown ++ after)
        × ((shown ≡ whole (codes "+ ") d) ⊎ ((old : Definition) × Contains gone old × (shown ≡ changed old d)))
    by None e =
        let among = shown_among (come_text gone come) come d inside in
        let text : come_text gone come d ≡ whole (codes "+ ") d = rw e refl in (
          flat_map (gone_text gone come) gone ++ among.0,
          come_text gone come d,
          among.1,
          joined (flat_map (gone_text gone come) gone) (flat_map (come_text gone come) come) among.0 (come_text gone come d) among.1 among.2,
          inl text,
        )
    by (Some new) e =
        let from = changed_from gone come d new inside e in
        let among = shown_among (gone_text gone come) gone from.0 from.1 in (
          among.0,
          gone_text gone come from.0,
          among.1 ++ flat_map (come_text gone come) come,
          ap (λ (xs : List ℕ). xs ++ flat_map (come_text gone come) come) among.2 ∙ simp append_assoc refl,
          inr (from.0, there gone from.0 from.1, from.2),
        )

-- ---- what may be left out

-- one test after the other, where they agree on what is in the list
among_twice : (p q both : Definition → Bool) (xs : List Definition) → ((x : Definition) → has xs x ≡ true → cond (q x) (p x) false ≡ both x) → filter p (filter q xs) ≡ filter both xs
among_twice p q both [] agree = refl
among_twice p q both (x ∷ xs) agree =
    by (q x) (both x) (agree x (rw ((same_decides x x).1 refl) refl)) (among_twice p q both xs (λ y is. agree y (more y is)))
  where
    more : (y : Definition) → has xs y ≡ true → has (x ∷ xs) y ≡ true
    more y is = of (is_same y x)
      where
        of : (b : Bool) → (b || has xs y) ≡ true
        of true = refl
        of false = is

    by : (b d : Bool) → cond b (p x) false ≡ d → filter p (filter q xs) ≡ filter both xs
        → filter p (cond b (x ∷ filter q xs) (filter q xs)) ≡ cond d (x ∷ filter both xs) (filter both xs)
    by true d e rest = rw (e, rest) refl
    by false true e rest = absurd (true≢false (sym e))
    by false false e rest = rest

-- those that pass a test, each once
distinct_passes : (v : Definition → Bool) (all : List Definition) → distinct (filter v all) ≡ filter v (distinct all)
unfolding distinct
distinct_passes v [] = refl
distinct_passes v (x ∷ xs) = by (v x) refl (distinct_passes v xs)
  where
    swapped : (a b : Bool) → cond a b false ≡ cond b a false
    swapped true true = refl
    swapped true false = refl
    swapped false true = refl
    swapped false false = refl

    other : Definition → Bool
    other y = not (is_same x y)

    turns : (ds : List Definition) → filter other (filter v ds) ≡ filter v (filter other ds)
    turns ds = filter_twice other v (λ y. cond (v y) (other y) false) (λ y. refl) ds ∙ sym (filter_twice v other (λ y. cond (v y) (other y) false) (λ y. swapped (other y) (v y)) ds)

    gone : v x ≡ false → (y : Definition) → cond (other y) (v y) false ≡ v y
    gone fails y = of (is_same x y) refl
      where
        of : (b : Bool) → is_same x y ≡ b → cond (not b) (v y) false ≡ v y
        of true e = sym (ap v (sym ((same_decides x y).0 e)) ∙ fails)
        of false e = refl

    by : (b : Bool) → v x ≡ b → distinct (filter v xs) ≡ filter v (distinct xs) → distinct (cond b (x ∷ filter v xs) (filter v xs)) ≡ cond b (x ∷ filter v (filter other (distinct xs))) (filter v (filter other (distinct xs)))
    by true e rest = ap (λ (ds : List Definition). x ∷ ds) (ap (filter other) rest ∙ turns (distinct xs))
    by false e rest = rest ∙ sym (filter_twice v other v (gone e) (distinct xs))

-- what fails a test that each lone definition passes may be left out
pub lone_kept : (v : Definition → Bool) (ours theirs : List Definition) → ((d : Definition) → has ours d ≡ true → has theirs d ≡ false → v d ≡ true) → lone (filter v ours) (filter v theirs) ≡ lone ours theirs
lone_kept v ours theirs noted =
    ap (filter (λ d. not (has (filter v theirs) d))) (distinct_passes v ours)
    ∙ among_twice (λ d. not (has (filter v theirs) d)) v (λ d. not (has theirs d)) (distinct ours) agree
  where
    agree : (d : Definition) → has (distinct ours) d ≡ true → cond (v d) (not (has (filter v theirs) d)) false ≡ not (has theirs d)
    agree d is = by (v d) (has theirs d) refl refl
      where
        by : (b c : Bool) → v d ≡ b → has theirs d ≡ c → cond b (not (has (filter v theirs) d)) false ≡ not c
        by true c e found = ap not (any_left d v (λ y same. ap v (sym ((same_decides d y).0 same)) ∙ e) theirs ∙ found)
        by false true e found = refl
        by false false e found = absurd (true≢false (sym (noted d (sym (has_distinct ours d) ∙ is) found) ∙ e))
