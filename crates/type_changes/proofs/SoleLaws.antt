-- Which definition is the only one with its key, one definition after the other.
use Rattle.std.proofs.Common.{◌≡◌, ◌∙◌, Bool, true, false, cond, List, [], ◌∷◌, ◌++◌, filter, refl, sym, ap, is_some}
use Rattle.std.specs.Prelude.{Option, Some, None}
use Rattle.std.specs.Bool.{one_answer}
use Rattle.std.proofs.lemmas.List.{append-nil}
use Rattle.std.proofs.lemmas.Option.{same_Some}
use Rattle.std.proofs.lemmas.List.Elements.{filter-append}
use Rattle.type_changes.specs.Definition.{Key, Definition}
use Rattle.type_changes.specs.Lone.{is_same_key, only, sole}
use Rattle.type_changes.specs.Seen.{one_or_several}
use Rattle.type_changes.proofs.SameLaws.{keys_decide}

-- those of these definitions that have a key
abbrev pub with_key : Key → List Definition → List Definition
with_key key definitions = filter (λ d. is_same_key key d.key) definitions

one_more : (there : Bool) (found : List Definition) (d : Definition) → there ≡ is_some (one_or_several found) → Some (cond there None (Some d)) ≡ one_or_several (found ++ d ∷ [])
one_more there [] d is = rw is refl
one_more there (x ∷ []) d is = rw is refl
one_more there (x ∷ y ∷ others) d is = rw is refl

-- one definition more: the state of its key changes, and that of no other
pub sole_more : (done : List Definition) (d : Definition) (key : Key) (there : Bool) (before after : Option (Option Definition))
    → there ≡ is_some (one_or_several (with_key d.key done))
    → before ≡ one_or_several (with_key key done)
    → after ≡ cond (is_same_key d.key key) (Some (cond there None (Some d))) before
    → after ≡ one_or_several (with_key key (done ++ d ∷ []))
sole_more done d key there before after is so_far put = by (is_same_key d.key key) refl
  where
    turned : is_same_key key d.key ≡ is_same_key d.key key
    turned = one_answer (is_same_key key d.key) (is_same_key d.key key) (keys_decide key d.key) (λ e. sym ((keys_decide d.key key).0 e), λ e. (keys_decide d.key key).1 (sym e))

    last : with_key key (done ++ d ∷ []) ≡ with_key key done ++ cond (is_same_key key d.key) (d ∷ []) []
    last = filter-append (λ x. is_same_key key x.key) done (d ∷ [])

    by : (b : Bool) → is_same_key d.key key ≡ b → after ≡ one_or_several (with_key key (done ++ d ∷ []))
    by true same =
        let own : d.key ≡ key = (keys_decide d.key key).0 same in
        put ∙ rw (same, last, turned, same) (one_more there (with_key key done) d (rw own at is))
    by false other = put ∙ rw (other, last, turned, other) (so_far ∙ ap one_or_several (sym (append-nil (with_key key done))))

-- ---- what is asked for

-- what is stored for a key tells which definition is the only one with it
pub sole_got : (key : Key) (definitions : List Definition) (found : Option Definition) → Some found ≡ one_or_several (with_key key definitions) → found ≡ sole definitions key
sole_got key definitions found is = by (with_key key definitions) is
  where
    by : (ds : List Definition) → Some found ≡ one_or_several ds → found ≡ only ds
    by [] e = absurd cc
    by (d ∷ []) e = same_Some found (Some d) e
    by (d ∷ other ∷ others) e = same_Some found None e

pub sole_missing : (key : Key) (definitions : List Definition) → None ≡ one_or_several (with_key key definitions) → None ≡ sole definitions key
sole_missing key definitions is = by (with_key key definitions) is
  where
    by : (ds : List Definition) → None ≡ one_or_several ds → None ≡ only ds
    by [] e = refl
    by (d ∷ []) e = absurd cc
    by (d ∷ other ∷ others) e = absurd cc
