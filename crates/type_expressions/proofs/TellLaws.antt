-- The words of a type depend on nothing but the type, and there are words.
use Rattle.std.specs.Prelude.{Result, Ok, Err, OnOk}
use Rattle.std.proofs.Common.{◌≡◌, codes, ◌+◌, ◌-◌, ◌∙◌, ℕ, List, refl, sym, ap, subst, arith, inl, inr}
use Rattle.std.proofs.lemmas.Bool.{cases_lt}
use Rattle.tpi_records.specs.Header.{first_index}
use Rattle.type_trees.specs.Tree.{Tree, IsTreeAt}
use Rattle.type_trees.proofs.TreeLaws.{one, one_tree_each}
use Rattle.type_expressions.specs.Simple.{simple_words}
use Rattle.type_expressions.specs.Expression.{expression, IsTold}
use Rattle.type_expressions.specs.Laws.{SameTypeSameWords, WordsExist}

told_is : (records : List (List ℕ)) (i deep : ℕ) (t : Tree) (words : List ℕ) → IsTreeAt records i t → IsTold records deep (first_index + i) words → words ≡ expression deep t
told_is records i deep t words stands (inl small) = absurd (omega (arith, small.0))
told_is records i deep t words stands (inr (_, u, there, is)) =
    let place : first_index + i - first_index ≡ i = omega arith in
    is ∙ ap (λ (v : Tree). expression deep v) (one records i u t (subst (λ (k : ℕ). IsTreeAt records k u) place there) stands)

pub same_type_same_words : SameTypeSameWords
same_type_same_words records others i k deep t words told one_stands other_stands first second =
    told_is records i deep t words one_stands first ∙ sym (told_is others k deep t told other_stands second)

pub words_exist : WordsExist
words_exist records deep to types inside = elim (cases_lt to first_index) [
  | inl small ↦ (simple_words (codes "no type") to, inl (small, refl))
  | inr large ↦
      let t = one_tree_each records types (to - first_index) (omega (arith, large, inside)) in
      (expression deep t.0, inr (large, t.0, t.2, refl))
]

-- what holds after Ok has what follows from it
pub on_ok : {A E : Type 0} (P Q : Type 0) (r : Result A E) → (P → Q) → OnOk r P → OnOk r Q
on_ok P Q (Ok value) from holds = from holds
on_ok P Q (Err e) from holds = tt
