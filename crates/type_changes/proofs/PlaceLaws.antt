-- Where the parts of definitions stand in a text.
use Rattle.std.proofs.Common.{◌<◌, ◌≡◌, ◌≤◌, ◌+◌, ◌-◌, ◌∙◌, ℕ, Bool, true, false, true≢false, ◌&&◌, if◌then◌else◌, is_some, List, [], ◌∷◌, ◌++◌, length, take, drop, map, filter, get_or, refl, sym, ap, arith}
use Rattle.std.specs.Prelude.{Option, Some, None, slice_range}
use Rattle.std.specs.List.{AllByRecursion}
use Rattle.std.proofs.lemmas.List.{append-nil, append_assoc, drop_all, drop_more, drop-append-le, take-append-le, length-append, length-drop}
use Rattle.std.proofs.lemmas.List.Elements.{filter-append}
use Rattle.std.proofs.lemmas.Option.{same_Some}
use Rattle.std.proofs.Math.Seq.{drop-append_seam, take-append_seam}
use Rattle.cv_leaves.specs.Checks.{kind_of}
use Rattle.cv_leaves.specs.Place.{IsChecked}
use Rattle.cv_leaves.specs.References.{blanked}
use Rattle.type_trees.specs.Tree.{Tree, tree, nothing, blank_of, IsTreeAt}
use Rattle.type_expressions.specs.Asked.{AreTrees}
use Rattle.type_expressions.specs.Definition.{defined_words, definition_text, is_definition, only_declares, parts_of, title_of, definition_size, end_of_head, members_text}
use Rattle.type_expressions.proofs.DefinitionLaws.{Defines, defines, properties_same, tree_undefined}
use Rattle.type_expressions.specs.declared.definition.Parts.{Parts}
use Rattle.type_changes.specs.Definition.{Definition, defined_by, definition_of, definitions, is_whole, key_of}
use Rattle.type_changes.specs.Seen.{IsInside, seen_at}
use Rattle.type_changes.proofs.KeyLaws.{key_same}
use Rattle.type_changes.specs.declared.place.Place.{Place}

-- ---- a text that grows

slice_kept : (text more : List ℕ) (start end : ℕ) → start ≤ end → end ≤ length text → slice_range (text ++ more) start end ≡ slice_range text start end
slice_kept text more start end forward inside =
    ap (λ (xs : List ℕ). take (end - start) xs) (drop-append-le start text more (omega (arith, forward, inside)))
    ∙ take-append-le (end - start) (drop start text) more (omega (arith, forward, inside, length-drop start text))

-- what stands in a text is seen there after the text has grown
seen_kept : (text more : List ℕ) (place : Place) → IsInside (length text) place → seen_at (text ++ more) place ≡ seen_at text place
seen_kept text more place inside =
    let name : slice_range (text ++ more) place.name place.start ≡ slice_range text place.name place.start =
    slice_kept text more place.name place.start inside.name (omega (arith, inside.title, inside.size, inside.head, inside.lines, inside.inside)) in
    let title : slice_range (text ++ more) place.start place.parts.size ≡ slice_range text place.start place.parts.size =
    slice_kept text more place.start place.parts.size inside.title (omega (arith, inside.size, inside.head, inside.lines, inside.inside)) in
    let size : slice_range (text ++ more) place.parts.size place.parts.head ≡ slice_range text place.parts.size place.parts.head =
    slice_kept text more place.parts.size place.parts.head inside.size (omega (arith, inside.head, inside.lines, inside.inside)) in
    let lines : slice_range (text ++ more) place.parts.lines place.end ≡ slice_range text place.parts.lines place.end =
    slice_kept text more place.parts.lines place.end inside.lines inside.inside in
    λ j. record { key = record { kind = place.kind; name = name j }; title = title j; size = size j; lines = lines j }

pub all_kept : (text more now : List ℕ) (places : List Place) → now ≡ text ++ more → AllByRecursion (IsInside (length text)) places → map (seen_at now) places ≡ map (seen_at text) places
all_kept text more now [] is each = refl
all_kept text more now (p ∷ ps) is each =
    let here : seen_at now p ≡ seen_at text p = ap (λ (xs : List ℕ). seen_at xs p) is ∙ seen_kept text more p each.0 in
    let rest : map (seen_at now) ps ≡ map (seen_at text) ps = all_kept text more now ps is each.1 in
    λ j. here j ∷ rest j

pub all_inside : (few many : ℕ) (places : List Place) → few ≤ many → AllByRecursion (IsInside few) places → AllByRecursion (IsInside many) places
all_inside few many [] more each = tt
all_inside few many (p ∷ ps) more each = (
  record {
    name = each.0.name;
    title = each.0.title;
    size = each.0.size;
    head = each.0.head;
    lines = each.0.lines;
    inside = omega (arith, each.0.inside, more);
  },
  all_inside few many ps more each.1,
)

pub all_added : (many : ℕ) (places : List Place) (place : Place) → AllByRecursion (IsInside many) places → IsInside many place → AllByRecursion (IsInside many) (places ++ place ∷ [])
all_added many [] place each inside = (inside, tt)
all_added many (p ∷ ps) place each inside = (each.0, all_added many ps place each.1 inside)

-- ---- a definition that was told

part_here : (before part after now : List ℕ) (start end : ℕ) → now ≡ before ++ (part ++ after) → start ≡ length before → end ≡ start + length part → slice_range now start end ≡ part
part_here before part after now start end is first last =
    let many : end - start ≡ length part = omega (arith, last) in
    rw (many, is, first) (ap (λ (xs : List ℕ). take (length part) xs) (drop-append_seam before (part ++ after)) ∙ take-append_seam part after)

pub parts_none : (start : ℕ) (t : Tree) → None ≡ parts_of start t → is_definition t ≡ false
unfolding parts_of
parts_none start t is = by (is_definition t) refl
  where
    by : (b : Bool) → is_definition t ≡ b → is_definition t ≡ false
    by true e = absurd (let some = rw e at is in cc)
    by false e = e

pub record AreParts (start : ℕ) (t : Tree) (parts : Parts) : Type 0 where
  pub defines : is_definition t ≡ true
  pub size : parts.size ≡ start + length (title_of t)
  pub head : parts.head ≡ start + length (title_of t ++ definition_size t)
  pub lines : parts.lines ≡ start + length (title_of t ++ definition_size t ++ end_of_head (blank_of t))

pub parts_some : (start : ℕ) (t : Tree) (parts : Parts) → Some parts ≡ parts_of start t → AreParts start t parts
unfolding parts_of
parts_some start t parts is = by (is_definition t) refl
  where
    by : (b : Bool) → is_definition t ≡ b → AreParts start t parts
    by true e =
        let same = same_Some _ _ (rw e at is) in
        record { defines = e; size = ap (λ p. p.size) same; head = ap (λ p. p.head) same; lines = ap (λ p. p.lines) same }
    by false e = absurd (let none = rw e at is in cc)

-- what stands behind a text: a name, and the text of a definition
pub grown_by : (text name middle now : List ℕ) (t : Tree) → middle ≡ text ++ name → now ≡ middle ++ definition_text t → now ≡ text ++ (name ++ definition_text t)
grown_by text name middle now t named is = is ∙ ap (λ (xs : List ℕ). xs ++ definition_text t) named ∙ append_assoc text name (definition_text t)

-- what stands where a definition was told, behind the name by which it is known
pub told_here : (old name now : List ℕ) (t : Tree) (place : Place) → now ≡ (old ++ name) ++ definition_text t → AreParts (length (old ++ name)) t place.parts
    → place.name ≡ length old → place.start ≡ length (old ++ name) → place.end ≡ length now
    → IsInside (length now) place
    × (seen_at now place ≡ record { key = record { kind = place.kind; name = name }; title = title_of t; size = definition_size t; lines = members_text t })
unfolding definition_text
told_here old name now t place is parts named start end =
    let before = old ++ name in
    let a = title_of t in
    let b = definition_size t in
    let e = end_of_head (blank_of t) in
    let l = members_text t in
    let whole : now ≡ before ++ (((a ++ b) ++ e) ++ l) = rw parts.defines at is in
    let front : now ≡ old ++ (name ++ (((a ++ b) ++ e) ++ l)) = whole ∙ append_assoc old name (((a ++ b) ++ e) ++ l) in
    let first : now ≡ before ++ (a ++ (b ++ (e ++ l))) = whole ∙ ap (λ (xs : List ℕ). before ++ xs) (append_assoc (a ++ b) e l ∙ append_assoc a b (e ++ l)) in
    let second : now ≡ (before ++ a) ++ (b ++ (e ++ l)) = first ∙ sym (append_assoc before a (b ++ (e ++ l))) in
    let third : now ≡ (before ++ ((a ++ b) ++ e)) ++ (l ++ []) = whole ∙ sym (append_assoc before ((a ++ b) ++ e) l) ∙ ap (λ (xs : List ℕ). (before ++ ((a ++ b) ++ e)) ++ xs) (sym (append-nil l)) in
    let many : length now ≡ length before + length ((a ++ b) ++ e) + length l = omega (arith, ap length whole, length-append before (((a ++ b) ++ e) ++ l), length-append ((a ++ b) ++ e) l) in
    let one = length-append old name in
    let two = length-append a b in
    let three = length-append (a ++ b) e in (
      record {
        name = omega (arith, named, start, one);
        title = omega (arith, start, parts.size);
        size = omega (arith, parts.size, parts.head, two);
        head = omega (arith, parts.head, parts.lines, three);
        lines = omega (arith, parts.lines, end, many);
        inside = omega (arith, end);
      },
      rw (
        part_here old name (((a ++ b) ++ e) ++ l) now place.name place.start front named (omega (arith, named, start, one)),
        part_here before a (b ++ (e ++ l)) now place.start place.parts.size first start (omega (arith, start, parts.size)),
        part_here (before ++ a) b (e ++ l) now place.parts.size place.parts.head second (omega (arith, parts.size, length-append before a)) (omega (arith, parts.size, parts.head, two)),
        part_here (before ++ ((a ++ b) ++ e)) l [] now place.parts.lines place.end third (omega (arith, parts.lines, length-append before ((a ++ b) ++ e))) (omega (arith, parts.lines, end, many)),
      ) refl,
    )

-- ---- the tree of a record

pub none_defined : (t : Tree) → is_definition t ≡ false → defined_by t ≡ []
unfolding defined_by
none_defined t none = rw none refl

declares_same : (r : List ℕ) → IsChecked r → Defines r → only_declares (blanked r) ≡ only_declares r
unfolding only_declares
declares_same r checked defined = rw (properties_same r checked defined) refl

-- a declaration is left out
pub none_declared : (records : List (List ℕ)) (i : ℕ) (r : List ℕ) (t : Tree) → r ≡ get_or records i [] → IsChecked r → IsTreeAt records i t → only_declares r ≡ true → defined_by t ≡ []
unfolding defined_by
none_declared records i r (tree b bs) own checked stands declares = by (defined_words (kind_of r)) refl
  where
    same : blanked r ≡ b
    same = ap blanked own ∙ stands.1

    by : (words : Option (List ℕ)) → words ≡ defined_words (kind_of r) → (if is_whole (tree b bs) then definition_of (tree b bs) ∷ [] else []) ≡ []
    by None none = rw (tree_undefined records i r (tree b bs) own checked none stands) refl
    by (Some words) some = rw (← same, declares_same r checked (defines r words some), declares) (left (is_some (defined_words (kind_of (blanked r)))))
      where
        left : (c : Bool) → (if c && false then definition_of (tree (blanked r) bs) ∷ [] else []) ≡ []
        left true = refl
        left false = refl

-- any other definition is not
pub one_defined : (records : List (List ℕ)) (i : ℕ) (r : List ℕ) (t : Tree) → r ≡ get_or records i [] → IsChecked r → IsTreeAt records i t → only_declares r ≡ false → is_definition t ≡ true
    → defined_by t ≡ record { key = key_of r; title = title_of t; size = definition_size t; lines = members_text t } ∷ []
unfolding defined_by definition_of
one_defined records i r (tree b bs) own checked stands whole is = by (defined_words (kind_of r)) refl
  where
    same : blanked r ≡ b
    same = ap blanked own ∙ stands.1

    by : (words : Option (List ℕ)) → words ≡ defined_words (kind_of r) → (if is_whole (tree b bs) then definition_of (tree b bs) ∷ [] else []) ≡ record { key = key_of r; title = title_of (tree b bs); size = definition_size (tree b bs); lines = members_text (tree b bs) } ∷ []
    by None none = absurd (true≢false (sym is ∙ tree_undefined records i r (tree b bs) own checked none stands))
    by (Some words) some =
        let d = defines r words some in
        let declares : only_declares b ≡ false = ap only_declares (sym same) ∙ declares_same r checked d ∙ whole in
        let key : key_of b ≡ key_of r = ap key_of (sym same) ∙ key_same r checked d in
        rw (is, declares, key) refl

-- a definition whose key does not pass is left out
pub none_passes : (records : List (List ℕ)) (i : ℕ) (r : List ℕ) (t : Tree) (v : Definition → Bool) → r ≡ get_or records i [] → IsChecked r → IsTreeAt records i t → only_declares r ≡ false
    → ((d : Definition) → d.key ≡ key_of r → v d ≡ false) → filter v (defined_by t) ≡ []
none_passes records i r t v own checked stands whole fails = by (is_definition t) refl
  where
    by : (b : Bool) → is_definition t ≡ b → filter v (defined_by t) ≡ []
    by true is = rw (one_defined records i r t own checked stands whole is, fails (record { key = key_of r; title = title_of t; size = definition_size t; lines = members_text t }) refl) refl
    by false is = rw (none_defined t is) refl

-- ---- one record after the other

pub told_next : (v : Definition → Bool) (records : List (List ℕ)) (trees : List Tree) (k : ℕ) (before after end : List Definition) → AreTrees records trees → k < length records
    → after ≡ before ++ filter v (defined_by (get_or trees k nothing)) → before ++ filter v (definitions (drop k trees)) ≡ end → after ++ filter v (definitions (drop (k + 1) trees)) ≡ end
unfolding definitions
told_next v records trees k before after end are below grown so_far =
    let rest = definitions (drop (k + 1) trees) in
    let here = defined_by (get_or trees k nothing) in
    let first = drop_more trees k nothing (omega (arith, below, are.many)) in
    rw grown (append_assoc before (filter v here) (filter v rest))
    ∙ ap (λ (ds : List Definition). before ++ ds) (sym (filter-append v here rest)) ∙ (rw first at so_far)

pub told_ends : (v : Definition → Bool) (records : List (List ℕ)) (trees : List Tree) (k : ℕ) (before end : List Definition) → AreTrees records trees → k ≡ length records → before ++ filter v (definitions (drop k trees)) ≡ end → before ≡ end
unfolding definitions
told_ends v records trees k before end are last so_far =
    sym (append-nil before) ∙ (rw (drop_all k trees (omega (arith, last, are.many))) at so_far)
