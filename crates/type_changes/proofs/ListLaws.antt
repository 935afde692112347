-- Lists that are filtered and searched.
use Rattle.std.proofs.Common.{ℕ, ◌≡◌, ◌∙◌, Bool, true, false, cond, ◌||◌, List, [], ◌∷◌, ◌++◌, map, filter, refl, sym, ap, true≢false}
use Rattle.std.specs.List.{list_any}
use Rattle.std.specs.Str.{bytes_eq}
use Rattle.std.proofs.lemmas.List.{append_assoc}
use Rattle.type_changes.specs.Changes.{lone_lines, signed}
use Rattle.indexmap.specs.IndexSet.{insert_key}

pub or_three : (a b c : Bool) → ((a || b) || c) ≡ (a || (b || c))
or_three true b c = refl
or_three false b c = refl

pub or_none : (b : Bool) → (b || false) ≡ b
or_none true = refl
or_none false = refl

-- a line comes after a sign
pub signed_more : (sign text line end : List ℕ) (others : List (List ℕ)) → text ++ signed sign (line ∷ others) ≡ end → (text ++ sign ++ line) ++ signed sign others ≡ end
signed_more sign text line end others so_far =
    let rest = signed sign others in
    append_assoc (text ++ sign) line rest ∙ append_assoc text sign (line ++ rest) ∙ ap (λ (xs : List ℕ). text ++ xs) (sym (append_assoc sign line rest)) ∙ so_far

-- a line that is not among others comes after a sign; any other line is left out
pub lone_more : (sign text line end : List ℕ) (others theirs : List (List ℕ)) → list_any (bytes_eq line) theirs ≡ false
    → text ++ signed sign (lone_lines (line ∷ others) theirs) ≡ end → (text ++ sign ++ line) ++ signed sign (lone_lines others theirs) ≡ end
lone_more sign text line end others theirs none so_far = signed_more sign text line end (lone_lines others theirs) (rw none at so_far)

pub lone_skips : (sign text line end : List ℕ) (others theirs : List (List ℕ)) → list_any (bytes_eq line) theirs ≡ true
    → text ++ signed sign (lone_lines (line ∷ others) theirs) ≡ end → text ++ signed sign (lone_lines others theirs) ≡ end
lone_skips sign text line end others theirs found so_far = rw found at so_far

-- a test of what a function gives
pub any_map : {A B : Type 0} (f : A → B) (p : B → Bool) (xs : List A) → list_any p (map f xs) ≡ list_any (λ x. p (f x)) xs
any_map f p [] = refl
any_map f p (x ∷ xs) = ap (λ b. p (f x) || b) (any_map f p xs)

pub map_append : {A B : Type 0} (f : A → B) (xs ys : List A) → map f (xs ++ ys) ≡ map f xs ++ map f ys
map_append f [] ys = refl
map_append f (x ∷ xs) ys = ap (λ zs. f x ∷ zs) (map_append f xs ys)

any_agrees : {A B : Type 0} (f : A → B) (p : A → Bool) (q : B → Bool) → ((x : A) → p x ≡ q (f x)) → (xs : List A) → list_any p xs ≡ list_any q (map f xs)
any_agrees f p q agree [] = refl
any_agrees f p q agree (x ∷ xs) = rw (agree x, any_agrees f p q agree xs) refl

-- a key is inserted among what a function gives
pub map_insert : {A B : Type 0} (f : A → B) (eq : A → A → Bool) (same : B → B → Bool) → ((x y : A) → eq x y ≡ same (f x) (f y))
    → (ks : List A) (k : A) → map f (insert_key eq ks k) ≡ insert_key same (map f ks) (f k)
map_insert {A = A} {B = B} f eq same agree ks k = by (list_any (eq k) ks) (list_any (same (f k)) (map f ks)) (any_agrees f (eq k) (same (f k)) (agree k) ks)
  where
    by : (b c : Bool) → b ≡ c → map f (cond b ks (ks ++ k ∷ [])) ≡ cond c (map f ks) (map f ks ++ f k ∷ [])
    by true true e = refl
    by false false e = map_append f ks (k ∷ [])
    by true false e = absurd (true≢false e)
    by false true e = absurd (true≢false (sym e))

-- two tests that agree
pub filter_agrees : {A : Type 0} (p q : A → Bool) → ((x : A) → p x ≡ q x) → (xs : List A) → filter p xs ≡ filter q xs
filter_agrees p q agree [] = refl
filter_agrees p q agree (x ∷ xs) = rw (agree x, filter_agrees p q agree xs) refl

-- one test after the other
pub filter_twice : {A : Type 0} (p q both : A → Bool) → ((x : A) → cond (q x) (p x) false ≡ both x) → (xs : List A) → filter p (filter q xs) ≡ filter both xs
filter_twice p q both agree [] = refl
filter_twice {A = A} p q both agree (x ∷ xs) = by (q x) (both x) (agree x) (filter_twice p q both agree xs)
  where
    by : (b d : Bool) → cond b (p x) false ≡ d → filter p (filter q xs) ≡ filter both xs
        → filter p (cond b (x ∷ filter q xs) (filter q xs)) ≡ cond d (x ∷ filter both xs) (filter both xs)
    by true d e rest = rw (e, rest) refl
    by false true e rest = absurd (true≢false (sym e))
    by false false e rest = rest
