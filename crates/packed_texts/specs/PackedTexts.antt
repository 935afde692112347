-- Texts that lie one after the other in one list of bytes.
use Rattle.std.specs.Prelude.{ℕ, ◌≡◌, ◌+◌, ◌-◌, ◌*◌, ◌%◌, ◌^◌, ◌<◌, ◌≤◌, List, [], ◌∷◌, ◌++◌, length, map, take, drop, get_or}
use Rattle.std.specs.List.{All, concat}
use Rattle.packed_texts.specs.declared.ordered.Span.{Span}

-- the texts that end at these offsets; the bytes begin at the offset `from`,
-- and so does the first text
unfoldable pub texts_in : List ℕ → ℕ → List ℕ → List (List ℕ)
texts_in bytes from [] = []
texts_in bytes from (end ∷ ends) =
    take (end - from) bytes ∷ texts_in (drop (end - from) bytes) end ends

-- the offsets never fall, the first is `from` or more, and the last is `last`
abbrev pub Rise : ℕ → List ℕ → ℕ → Type 0
Rise from [] last = from ≡ last
Rise from (end ∷ ends) last = (from ≤ end) × Rise end ends last

-- offsets that count groups of four bytes, as offsets in bytes
unfoldable pub in_bytes : List ℕ → List ℕ
in_bytes words = map (λ w. 4 * w) words

-- the bytes are texts that end at these offsets, which count groups of four bytes
pub record ArePacked (bytes ends : List ℕ) : Type 0 where
  -- each text ends where the next one begins, and the last one at the end of the bytes
  pub rise : Rise 0 (in_bytes ends) (length bytes)
  -- each offset fits in 32 bits
  pub short : length bytes < 2 ^ 34
  -- the bytes are whole groups
  pub padded : length bytes % 4 ≡ 0

-- the bytes, cut into texts that are as long as these
unfoldable pub cut_as : List (List ℕ) → List ℕ → List (List ℕ)
cut_as [] bytes = []
cut_as (text ∷ texts) bytes = take (length text) bytes ∷ cut_as texts (drop (length text) bytes)

-- the bytes with others written over them from the offset `at` on
unfoldable pub overwritten : List ℕ → ℕ → List ℕ → List ℕ
overwritten bytes at new =
    take (length bytes) (take at bytes ++ (new ++ drop (at + length new) bytes))

-- the texts once this is written from the beginning of the text at position k on
unfoldable pub written_at : List (List ℕ) → ℕ → List ℕ → List (List ℕ)
written_at texts k new =
    cut_as texts (overwritten (concat texts) (length (concat (take k texts))) new)

-- the texts at these positions, in this order
abbrev pub texts_at : List (List ℕ) → List ℕ → List (List ℕ)
texts_at texts order = map (λ p. get_or texts p []) order

-- the bytes of a span
unfoldable pub part : List ℕ → Span → List ℕ
part bytes span = take (4 * span.end - 4 * span.start) (drop (4 * span.start) bytes)

-- these bytes have this span
pub record HasSpan (bytes : List ℕ) (span : Span) : Type 0 where
  pub forward : span.start ≤ span.end
  pub inside : 4 * span.end ≤ length bytes

-- the texts that have these spans
abbrev pub parts : List ℕ → List Span → List (List ℕ)
parts bytes spans = map (part bytes) spans

-- the bytes have all of these spans, and no others
pub record AreSpans (bytes : List ℕ) (spans : List Span) : Type 0 where
  pub has : All (HasSpan bytes) spans
  pub whole : length (concat (parts bytes spans)) ≡ length bytes

-- there is a text at each of these positions, and the texts have no other bytes
pub record IsOrder (texts : List (List ℕ)) (order : List ℕ) : Type 0 where
  pub inside : All (λ p. p < length texts) order
  pub whole : length (concat (texts_at texts order)) ≡ length (concat texts)
