use Rattle.std.proofs.Common.{rules, ◌≡◌, ◌++◌, ◌∙◌, ap, sym, subst, refl, length, List, ℕ}
use Rattle.std.specs.Prelude.{Some, None, slice_get}
use Rattle.cv_leaves.specs.Checks.{body_of, kind_of}
use Rattle.type_expressions.specs.Definition.{defined_words, end_of_head, list_place, size_text, title}
use Rattle.type_expressions.specs.Field.{number_in}
use Rattle.type_expressions.specs.Lines.{AreLines}
use Rattle.output_words.specs.Bounded.{cut}
use Rattle.type_expressions.proofs.BranchLaws.{got, gone}
use Rattle.type_expressions.proofs.DefinitionLaws.{tree_undefined, tree_defined, nothing_told, whole_text}
use Rattle.std.proofs.lemmas.List.{append-nil}
use Rattle.type_expressions.proofs.LinesLaws.{stands_inside}
use Rattle.type_expressions.proofs.SpanLaws.{spans_grow}
use Rattle.type_expressions.proofs.definition.push_definition.Goals as goal

pub returns-in_default-clause-value : goal.returns-in_default-clause-value
returns-in_default-clause-value g c = λ t stands.
    let records = c.args.types.now in
    let none : slice_get records c.args.position ≡ None = search rules in
    absurd (gone records c.args.position none (stands_inside records c.args.position t stands))

pub returns-in_default-clause-parts : goal.returns-in_default-clause-parts
returns-in_default-clause-parts g c = λ t stands.
    let records = c.args.types.now in
    let none : slice_get records c.args.position ≡ None = search rules in
    absurd (gone records c.args.position none (stands_inside records c.args.position t stands))

pub returns-in_default-defined_words-clause-value : goal.returns-in_default-defined_words-clause-value
returns-in_default-defined_words-clause-value g c = λ t stands.
    let records = c.args.types.now in
    let r = c.in-Some.record.now in
    let found : Some r ≡ slice_get records c.args.position = search rules in
    let none : None ≡ defined_words (kind_of r) = search rules in
    let old = c.args.text.now.items in
    let told = nothing_told (length old) t (tree_undefined records c.args.position r t (got records c.args.position r found) c.in-Some.ensures.checked none stands) in
    sym (append-nil old) ∙ ap (λ (xs : List ℕ). old ++ xs) (sym told.0)

pub returns-in_default-defined_words-clause-parts : goal.returns-in_default-defined_words-clause-parts
returns-in_default-defined_words-clause-parts g c = λ t stands.
    let records = c.args.types.now in
    let r = c.in-Some.record.now in
    let found : Some r ≡ slice_get records c.args.position = search rules in
    let none : None ≡ defined_words (kind_of r) = search rules in
    let told = nothing_told (length c.args.text.now.items) t (tree_undefined records c.args.position r t (got records c.args.position r found) c.in-Some.ensures.checked none stands) in
    sym told.1

pub push_members-requires-clause-lists : goal.push_members-requires-clause-lists
push_members-requires-clause-lists g c =
    let records = c.args.types.now in
    let r = c.in-Some.record.now in
    let words = c.in-Some-defined_words.words.now in
    let found : Some r ≡ slice_get records c.args.position = search rules in
    let some : Some words ≡ defined_words (kind_of r) = search rules in
    let told = tree_defined records c.args.position r words c.requires.there.0 (got records c.args.position r found) c.in-Some.ensures.checked some c.requires.there.1 in
    let spans = c.args.lists.now.spans.items in
    let size = c.in_ok-push_size.ensures.value told.0 told.2 in
    let end : c.add.new.text.items ≡ c.push_size.new.text.items ++ end_of_head r = rw (← c.end_of_head.ensures) c.in_ok-add.ensures in (
      spans_grow records c.push_size.new.text.items c.add.new.text.items (end_of_head r) spans end
          (spans_grow records c.push_title.new.text.items c.push_size.new.text.items (size_text r (λ place. cut 400 told.0)) spans size
          (spans_grow records c.args.text.now.items c.push_title.new.text.items (title words r) spans c.in_ok-push_title.ensures c.requires.lists.0)),
      c.requires.lists.1,
    )

pub push_members-requires-clause-there : goal.push_members-requires-clause-there
push_members-requires-clause-there g c =
    let records = c.args.types.now in
    let r = c.in-Some.record.now in
    let words = c.in-Some-defined_words.words.now in
    let found : Some r ≡ slice_get records c.args.position = search rules in
    let some : Some words ≡ defined_words (kind_of r) = search rules in
    let told = tree_defined records c.args.position r words c.requires.there.0 (got records c.args.position r found) c.in-Some.ensures.checked some c.requires.there.1 in
    let place : c.list_place.result ≡ list_place (kind_of r) = search rules in
    let to : c.u32_in-list.result ≡ number_in 4 (body_of r) (list_place (kind_of r)) = rw (c.u32_in-list.ensures, c.body_of.ensures.bytes, place) refl in
    (told.1, subst (λ (k : ℕ). AreLines records k told.1) (sym to) told.3)

pub returns-clause-value : goal.returns-clause-value
returns-clause-value g c = λ t stands.
    let records = c.args.types.now in
    let r = c.in-Some.record.now in
    let words = c.in-Some-defined_words.words.now in
    let found : Some r ≡ slice_get records c.args.position = search rules in
    let some : Some words ≡ defined_words (kind_of r) = search rules in
    let told = tree_defined records c.args.position r words t (got records c.args.position r found) c.in-Some.ensures.checked some stands in
    let place : c.list_place.result ≡ list_place (kind_of r) = search rules in
    let to : c.u32_in-list.result ≡ number_in 4 (body_of r) (list_place (kind_of r)) = rw (c.u32_in-list.ensures, c.body_of.ensures.bytes, place) refl in
    let more = c.in_ok-push_members.ensures.value told.1 (subst (λ (k : ℕ). AreLines records k told.1) (sym to) told.3) in
    let end : c.add.new.text.items ≡ c.push_size.new.text.items ++ end_of_head r = rw (← c.end_of_head.ensures) c.in_ok-add.ensures in
    let whole = whole_text r words told.0 told.1 t c.args.text.now.items c.push_title.new.text.items c.push_size.new.text.items c.add.new.text.items c.push_members.new.text.items told.4
    (record { first = c.in_ok-push_title.ensures; second = c.in_ok-push_size.ensures.value told.0 told.2; third = end; fourth = more }) in
    whole.0

pub returns-clause-parts : goal.returns-clause-parts
returns-clause-parts g c = λ t stands.
    let records = c.args.types.now in
    let r = c.in-Some.record.now in
    let words = c.in-Some-defined_words.words.now in
    let found : Some r ≡ slice_get records c.args.position = search rules in
    let some : Some words ≡ defined_words (kind_of r) = search rules in
    let told = tree_defined records c.args.position r words t (got records c.args.position r found) c.in-Some.ensures.checked some stands in
    let place : c.list_place.result ≡ list_place (kind_of r) = search rules in
    let to : c.u32_in-list.result ≡ number_in 4 (body_of r) (list_place (kind_of r)) = rw (c.u32_in-list.ensures, c.body_of.ensures.bytes, place) refl in
    let more = c.in_ok-push_members.ensures.value told.1 (subst (λ (k : ℕ). AreLines records k told.1) (sym to) told.3) in
    let end : c.add.new.text.items ≡ c.push_size.new.text.items ++ end_of_head r = rw (← c.end_of_head.ensures) c.in_ok-add.ensures in
    let whole = whole_text r words told.0 told.1 t c.args.text.now.items c.push_title.new.text.items c.push_size.new.text.items c.add.new.text.items c.push_members.new.text.items told.4
    (record { first = c.in_ok-push_title.ensures; second = c.in_ok-push_size.ensures.value told.0 told.2; third = end; fourth = more }) in
    let size : c.len-size.result ≡ length c.push_title.new.text.items = search rules in
    let head : c.len-head.result ≡ length c.push_size.new.text.items = search rules in
    let lines : c.len-lines.result ≡ length c.add.new.text.items = search rules in
    rw (size, head, lines) whole.1
