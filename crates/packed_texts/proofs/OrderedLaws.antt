-- Texts in an order of their own.
use Rattle.std.proofs.Common.{◌≡◌, ◌-◌, ◌+◌, ◌*◌, ◌<◌, ◌≤◌, ◌++◌, ◌∷◌, ℕ, List, [], length, take, drop, get_or, sym, ap, ◌∙◌}
use Rattle.std.proofs.lemmas.List.{get_or-map, length-map, map_push, take_more}
use Rattle.std.specs.List.{concat}
use Rattle.packed_texts.specs.declared.ordered.Span.{Span}
use Rattle.packed_texts.specs.PackedTexts.{part, parts, texts_at, AreSpans}

-- there are as many texts as spans
pub many_ordered : (bytes : List ℕ) (spans : List Span) → length (parts bytes spans) ≡ length spans
many_ordered bytes spans = length-map spans (part bytes)

-- the text that comes at a position
pub ordered_at : (bytes : List ℕ) (spans : List Span) (k : ℕ) (d : Span) → k < length spans → take (4 * (get_or spans k d).end - 4 * (get_or spans k d).start) (drop (4 * (get_or spans k d).start) bytes) ≡ get_or (parts bytes spans) k []
unfolding part
ordered_at bytes spans k d inside = sym (get_or-map (part bytes) spans k d [] inside)

-- its end does not come before its start
pub ordered_forward : (bytes : List ℕ) (spans : List Span) (k : ℕ) (d : Span) → AreSpans bytes spans → k < length spans → (get_or spans k d).start ≤ (get_or spans k d).end
ordered_forward bytes spans k d are inside = (are.has k d inside).forward

-- and lies within the bytes
pub ordered_inside : (bytes : List ℕ) (spans : List Span) (k : ℕ) (d : Span) → AreSpans bytes spans → k < length spans → 4 * (get_or spans k d).end ≤ length bytes
ordered_inside bytes spans k d are inside = (are.has k d inside).inside

-- the span of one text more
pub spans_more : (texts : List (List ℕ)) (order : List ℕ) (spans : List Span) (k : ℕ) (span : Span) → k < length order → parts (concat texts) spans ≡ texts_at texts (take k order)
    → part (concat texts) span ≡ get_or texts (get_or order k 0) [] → parts (concat texts) (spans ++ span ∷ []) ≡ texts_at texts (take (k + 1) order)
spans_more texts order spans k span inside are is =
    map_push (part (concat texts)) spans span ∙ ap (λ (x : List (List ℕ)). x ++ part (concat texts) span ∷ []) are ∙ ap (λ (x : List ℕ). texts_at texts (take k order) ++ x ∷ []) is
    ∙ sym (ap (texts_at texts) (take_more order k 0 inside) ∙ map_push (λ p. get_or texts p []) (take k order) (get_or order k 0))
