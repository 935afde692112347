-- Where the lines of field lists stand in a text. Each list is told once, and copied after that.
use Rattle.std.specs.Prelude.{ℕ, suc, [], ◌≡◌, ◌≢◌, ◌<◌, ◌≤◌, ◌⊎◌, List, ◌++◌, Option, length, get_or, drop, slice_range}
use Rattle.std.specs.List.{Contains}
use Rattle.type_trees.specs.Tree.{Tree, IsTreeAt}
use Rattle.type_expressions.specs.Lines.{list_lines, lines_text, GoOn}
use Rattle.type_expressions.specs.declared.lists.Begun.{Begun}
use Rattle.type_expressions.specs.declared.lists.Lists.{Lists}
use Rattle.type_expressions.specs.declared.lists.Span.{Span}

-- nothing is told of a list
abbrev pub untold : Span
untold = record { start = 0; end = 0 }

-- the lines of the list at a position stand here in the text,
-- with those of the lists in which it goes on
pub record StandsAt (records : List (List ℕ)) (text : List ℕ) (position : ℕ) (span : Span)
    : Type 0 where
  pub forward : span.start ≤ span.end
  pub inside : span.end ≤ length text
  pub lines : (t : Tree) → IsTreeAt records position t
      → slice_range text span.start span.end ≡ lines_text (list_lines t)

-- each list that was told stands where its span says
pub record AreSpans (records : List (List ℕ)) (text : List ℕ) (spans : List Span) : Type 0 where
  pub many : length spans ≡ length records
  pub each : (i : ℕ) → (get_or spans i untold).end ≢ 0
      → StandsAt records text i (get_or spans i untold)

-- the same of lists of which none is being told
abbrev pub AreListed : {A : Type 0} → List (List ℕ) → List ℕ → Lists A → Type 0
AreListed records text lists =
    AreSpans records text lists.spans.items × (lists.walk.items ≡ [])

-- the span at a position is as it was, or that of a list that was begun there
abbrev pub IsMarked : List Span → List Span → List Begun → ℕ → ℕ → Type 0
IsMarked before after walk end i =
    (get_or after i untold ≡ get_or before i untold)
    ⊎ ((b : Begun) × Contains walk b × (b.position ≡ i)
    × (get_or after i untold ≡ record { start = b.start; end = end }))

-- the list at this position was begun at `start`, and these lines of it are left
pub record IsBegun (records : List (List ℕ)) (text : List ℕ) (left : List (List ℕ)) (begun : Begun)
    : Type 0 where
  pub there : begun.position < length records
  pub inside : begun.start ≤ length text
  pub lines : (t : Tree) → IsTreeAt records begun.position t
      → drop begun.start text ++ lines_text left ≡ lines_text (list_lines t)

-- a step from list to list, where these lines were left: some of them were told, and the others
-- are left; if a list was begun, it is the one whose lines they were
pub record Steps (records : List (List ℕ)) (deep : ℕ) (lines : List (List ℕ)) (old now : List ℕ)
    (before after : List Begun) (next : Option ℕ) : Type 0 where
  pub told : List ℕ
  pub grown : now ≡ old ++ told
  pub left : List (List ℕ)
  pub split : told ++ lines_text left ≡ lines_text lines
  pub lower : (more : ℕ) → deep ≤ suc more → GoOn records more next left
  pub begun : (b : Begun) → Contains after b
      → Contains before b ⊎ IsBegun records old lines b
