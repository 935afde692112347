use Rattle.std.proofs.Common.{rules, ◌≡◌, ◌∷◌, ◌++◌, ◌∙◌, [], true, false, ap, sym, refl, length, arith, map, List, ℕ}
use Rattle.std.specs.Prelude.{Some, None, nat_eq, slice_get}
use Rattle.std.specs.List.{list_any}
use Rattle.std.proofs.lemmas.List.{append-nil, append_assoc, length-append}
use Rattle.type_expressions.specs.Definition.{definition_text, only_declares}
use Rattle.type_expressions.proofs.BranchLaws.{got, gone}
use Rattle.type_expressions.proofs.LinesLaws.{stands_inside}
use Rattle.type_expressions.proofs.SpanLaws.{spans_grow}
use Rattle.type_changes.specs.Definition.{Definition, Key, key_of}
use Rattle.type_changes.specs.Seen.{is_noted, seen_at}
use Rattle.type_changes.specs.declared.place.Place.{Place}
use Rattle.type_changes.proofs.ListLaws.{map_append}
use Rattle.type_changes.proofs.PlaceLaws.{all_added, all_inside, all_kept, grown_by, none_declared, none_defined, none_passes, one_defined, parts_none, parts_some, told_here}
use Rattle.type_changes.proofs.place.push_text.Goals as goal

pub push_definition-requires-clause-lists : goal.push_definition-requires-clause-lists
push_definition-requires-clause-lists g c =
    (spans_grow c.args.types.now c.args.text.now.items c.extend_from_slice.new.self.items c.of-key.result.name.now c.args.lists.now.spans.items c.in_ok-extend_from_slice.ensures.items c.requires.lists.0, c.requires.lists.1)

pub returns-in_default-clause-value : goal.returns-in_default-clause-value
returns-in_default-clause-value g c = λ t stands.
    let records = c.args.types.now in
    let none : slice_get records c.args.position ≡ None = search rules in
    absurd (gone records c.args.position none (stands_inside records c.args.position t stands))

pub returns-then-only_declares-clause-value : goal.returns-then-only_declares-clause-value
returns-then-only_declares-clause-value g c = λ t stands.
    let records = c.args.types.now in
    let text = c.args.text.now.items in
    let found : Some c.in-Some.record.now ≡ slice_get records c.args.position = search rules in
    let own = got records c.args.position c.in-Some.record.now found in
    let declares : only_declares c.in-Some.record.now ≡ true = search rules in
    rw (none_declared records c.args.position c.in-Some.record.now t own c.in-Some.ensures.checked stands declares) (sym (append-nil (map (seen_at text) c.args.places.now.items)))

pub returns-then-not-contains-clause-value : goal.returns-then-not-contains-clause-value
returns-then-not-contains-clause-value g c = λ t stands.
    let records = c.args.types.now in
    let text = c.args.text.now.items in
    let r = c.in-Some.record.now in
    let found : Some r ≡ slice_get records c.args.position = search rules in
    let own = got records c.args.position r found in
    let whole : only_declares r ≡ false = search rules in
    let missing : c.contains.result ≡ false = search rules in
    let names = c.args.names.now.keys in
    let h = λ (x : List ℕ). g.S.Hasher.Hasher.finish (g.S.Hasher.Hasher.write (g.S.BuildHasher.build_hasher c.args.hasher.now) x) in
    let noted : list_any (nat_eq (h c.of-key.result.name.now)) names ≡ c.contains.result = ap (λ n. list_any (nat_eq n) names) (sym c.hash_of.ensures) ∙ sym c.contains.ensures in
    let fails = λ (d : Definition) (key : d.key ≡ key_of r). ap (λ (k : Key). list_any (nat_eq (h k.name)) names) (key ∙ sym c.of-key.ensures) ∙ noted ∙ missing in
    rw (none_passes records c.args.position r t (is_noted h names) own c.in-Some.ensures.checked stands whole fails) (sym (append-nil (map (seen_at text) c.args.places.now.items)))

pub returns-in_default-2-clause-value : goal.returns-in_default-2-clause-value
returns-in_default-2-clause-value g c = λ t stands.
    let records = c.args.types.now in
    let text = c.args.text.now.items in
    let name = c.of-key.result.name.now in
    let middle = text ++ name in
    let now = c.push_definition.new.text.items in
    let named : c.extend_from_slice.new.self.items ≡ middle = c.in_ok-extend_from_slice.ensures.items in
    let grown : now ≡ middle ++ definition_text t = rw (← named) (c.in_ok-parts.ensures.value t stands) in
    let more : now ≡ text ++ (name ++ definition_text t) = grown ∙ append_assoc text name (definition_text t) in
    let none : c.in_ok-parts.field-0 ≡ None = search rules in
    let other = none_defined t (parts_none (length middle) t (rw (← named) (sym none ∙ c.in_ok-parts.ensures.parts t stands))) in
    rw other (all_kept text (name ++ definition_text t) now c.args.places.now.items more c.requires.inside ∙ sym (append-nil (map (seen_at text) c.args.places.now.items)))

pub returns-in_default-2-clause-inside : goal.returns-in_default-2-clause-inside
returns-in_default-2-clause-inside g c =
    let t = c.requires.there.0 in
    let stands = c.requires.there.1 in
    let text = c.args.text.now.items in
    let name = c.of-key.result.name.now in
    let now = c.push_definition.new.text.items in
    let more = grown_by text name c.extend_from_slice.new.self.items now t c.in_ok-extend_from_slice.ensures.items (c.in_ok-parts.ensures.value t stands) in
    all_inside (length text) (length now) c.args.places.now.items (omega (arith, ap length more, length-append text (name ++ definition_text t))) c.requires.inside

pub returns-in_default-2-clause-kept : goal.returns-in_default-2-clause-kept
returns-in_default-2-clause-kept g c =
    let t = c.requires.there.0 in
    let stands = c.requires.there.1 in
    let text = c.args.text.now.items in
    let name = c.of-key.result.name.now in
    let now = c.push_definition.new.text.items in
    (name ++ definition_text t, grown_by text name c.extend_from_slice.new.self.items now t c.in_ok-extend_from_slice.ensures.items (c.in_ok-parts.ensures.value t stands))

pub returns-clause-value : goal.returns-clause-value
returns-clause-value g c = λ t stands.
    let records = c.args.types.now in
    let text = c.args.text.now.items in
    let found : Some c.in-Some.record.now ≡ slice_get records c.args.position = search rules in
    let own = got records c.args.position c.in-Some.record.now found in
    let name = c.of-key.result.name.now in
    let middle = text ++ name in
    let now = c.push_definition.new.text.items in
    let named : c.extend_from_slice.new.self.items ≡ middle = c.in_ok-extend_from_slice.ensures.items in
    let grown : now ≡ middle ++ definition_text t = rw (← named) (c.in_ok-parts.ensures.value t stands) in
    let more : now ≡ text ++ (name ++ definition_text t) = grown ∙ append_assoc text name (definition_text t) in
    let place : Place = record { kind = c.of-key.result.kind; name = c.len-name.result; start = c.len-start.result; parts = c.in-Some-2.parts; end = c.len.result } in
    let some : c.in_ok-parts.field-0 ≡ Some c.in-Some-2.parts = search rules in
    let parts = parts_some (length middle) t c.in-Some-2.parts (rw (← named) (sym some ∙ c.in_ok-parts.ensures.parts t stands)) in
    let first : c.len-name.result ≡ length text = search rules in
    let len : c.len-start.result ≡ length c.extend_from_slice.new.self.items = search rules in
    let start : c.len-start.result ≡ length middle = len ∙ ap length named in
    let end : c.len.result ≡ length now = search rules in
    let here = told_here text name now t place grown parts first start end in
    let names = c.args.names.now.keys in
    let h = λ (x : List ℕ). g.S.Hasher.Hasher.finish (g.S.Hasher.Hasher.write (g.S.BuildHasher.build_hasher c.args.hasher.now) x) in
    let noted : list_any (nat_eq (h c.of-key.result.name.now)) names ≡ c.contains.result = ap (λ n. list_any (nat_eq n) names) (sym c.hash_of.ensures) ∙ sym c.contains.ensures in
    let contains : c.contains.result ≡ true = search rules in
    let passes : list_any (nat_eq (h name)) names ≡ true = noted ∙ contains in
    let whole : only_declares c.in-Some.record.now ≡ false = search rules in
    rw (
      c.in_ok-push.ensures.items,
      map_append (seen_at now) c.args.places.now.items (place ∷ []),
      all_kept text (name ++ definition_text t) now c.args.places.now.items more c.requires.inside,
      one_defined records c.args.position c.in-Some.record.now t own c.in-Some.ensures.checked stands whole parts.defines,
      ← c.of-key.ensures,
      passes,
      here.1,
    ) refl

pub returns-clause-inside : goal.returns-clause-inside
returns-clause-inside g c =
    let t = c.requires.there.0 in
    let stands = c.requires.there.1 in
    let records = c.args.types.now in
    let text = c.args.text.now.items in
    let name = c.of-key.result.name.now in
    let middle = text ++ name in
    let now = c.push_definition.new.text.items in
    let named : c.extend_from_slice.new.self.items ≡ middle = c.in_ok-extend_from_slice.ensures.items in
    let grown : now ≡ middle ++ definition_text t = rw (← named) (c.in_ok-parts.ensures.value t stands) in
    let more : now ≡ text ++ (name ++ definition_text t) = grown ∙ append_assoc text name (definition_text t) in
    let place : Place = record { kind = c.of-key.result.kind; name = c.len-name.result; start = c.len-start.result; parts = c.in-Some-2.parts; end = c.len.result } in
    let some : c.in_ok-parts.field-0 ≡ Some c.in-Some-2.parts = search rules in
    let parts = parts_some (length middle) t c.in-Some-2.parts (rw (← named) (sym some ∙ c.in_ok-parts.ensures.parts t stands)) in
    let first : c.len-name.result ≡ length text = search rules in
    let len : c.len-start.result ≡ length c.extend_from_slice.new.self.items = search rules in
    let start : c.len-start.result ≡ length middle = len ∙ ap length named in
    let end : c.len.result ≡ length now = search rules in
    let here = told_here text name now t place grown parts first start end in
    rw c.in_ok-push.ensures.items
    (all_added (length now) c.args.places.now.items place (all_inside (length text) (length now) c.args.places.now.items (omega (arith, ap length more, length-append text (name ++ definition_text t))) c.requires.inside) here.0)

pub returns-clause-kept : goal.returns-clause-kept
returns-clause-kept g c =
    let t = c.requires.there.0 in
    let stands = c.requires.there.1 in
    let text = c.args.text.now.items in
    let name = c.of-key.result.name.now in
    let now = c.push_definition.new.text.items in
    (name ++ definition_text t, grown_by text name c.extend_from_slice.new.self.items now t c.in_ok-extend_from_slice.ensures.items (c.in_ok-parts.ensures.value t stands))
