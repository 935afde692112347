-- Definitions one after the other: each once, those that are lone, and what is shown of each.
use Rattle.std.proofs.Common.{◌≡◌, ◌∙◌, ◌+◌, ℕ, Bool, true, false, not, cond, List, [], ◌∷◌, ◌++◌, filter, drop, refl, sym, ap, is_some, codes}
use Rattle.std.specs.Prelude.{Option}
use Rattle.std.specs.Option.{option_map_or}
use Rattle.std.specs.List.{flat_map}
use Rattle.std.proofs.lemmas.List.{append_assoc, append-nil}
use Rattle.indexmap.specs.IndexSet.{insert_key}
use Rattle.type_changes.specs.Changes.{changed, come_text, gone_text, successor, whole}
use Rattle.type_changes.specs.Definition.{Definition}
use Rattle.type_changes.specs.Lone.{is_same, has, distinct}
use Rattle.type_changes.proofs.SameLaws.{same_decides, distinct_more}

-- ---- each once

all_pass : (xs : List Definition) → filter (λ d. not (has [] d)) xs ≡ xs
all_pass [] = refl
all_pass (x ∷ xs) = ap (λ (ys : List Definition). x ∷ ys) (all_pass xs)

pub distinct_starts : (all : List Definition) → [] ++ filter (λ d. not (has [] d)) (distinct (drop 0 all)) ≡ distinct all
distinct_starts all = all_pass (distinct all)

pub distinct_goes : (us : List Definition) (d : Definition) (others end : List Definition) → us ++ filter (λ x. not (has us x)) (distinct (d ∷ others)) ≡ end
    → insert_key is_same us d ++ filter (λ x. not (has (insert_key is_same us d) x)) (distinct others) ≡ end
unfolding distinct
distinct_goes us d others end so_far = sym (distinct_more is_same same_decides us d (distinct others)) ∙ so_far

pub distinct_ends : (us end : List Definition) → us ++ filter (λ x. not (has us x)) (distinct []) ≡ end → us ≡ end
unfolding distinct
distinct_ends us end so_far = sym (append-nil us) ∙ so_far

-- ---- those that pass

pub passes_next : (p : Definition → Bool) (us : List Definition) (d : Definition) (others end : List Definition) → p d ≡ true → us ++ filter p (d ∷ others) ≡ end → (us ++ d ∷ []) ++ filter p others ≡ end
passes_next p us d others end passes so_far = append_assoc us (d ∷ []) (filter p others) ∙ (rw passes at so_far)

pub fails_next : (p : Definition → Bool) (us : List Definition) (d : Definition) (others end : List Definition) → p d ≡ false → us ++ filter p (d ∷ others) ≡ end → us ++ filter p others ≡ end
fails_next p us d others end fails so_far = rw fails at so_far

-- ---- what is shown of each

pub shown_next : (show : Definition → List ℕ) (text more end : List ℕ) (d : Definition) (others : List Definition) → more ≡ text ++ show d → text ++ flat_map show (d ∷ others) ≡ end → more ++ flat_map show others ≡ end
shown_next show text more end d others grown so_far = rw grown (append_assoc text (show d) (flat_map show others)) ∙ so_far

pub come_shown : (gone come : List Definition) (d : Definition) (b : Bool) → is_some (successor gone come d.key) ≡ b → come_text gone come d ≡ cond b [] (whole (codes "+ ") d)
unfolding come_text
come_shown gone come d b is = rw is refl

pub gone_shown : (gone come : List Definition) (d : Definition) (o : Option Definition) → o ≡ successor gone come d.key → gone_text gone come d ≡ option_map_or (changed d) o (whole (codes "- ") d)
unfolding gone_text
gone_shown gone come d o is = rw is refl
