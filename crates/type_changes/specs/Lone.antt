-- The definitions that only one of two lists of definitions has.
use Rattle.std.specs.Prelude.{◌≡◌, ◌==◌, ◌&&◌, not, Bool, List, [], ◌∷◌, Option, Some, None, filter}
use Rattle.std.specs.List.{list_any}
use Rattle.std.specs.Str.{bytes_eq}
use Rattle.type_changes.specs.Definition.{Key, Definition}

abbrev pub is_same_key : Key → Key → Bool
is_same_key one other = (one.kind == other.kind) && bytes_eq one.name other.name

-- two definitions are the same: they are known by the same, and have the same text
abbrev pub is_same : Definition → Definition → Bool
is_same one other =
    is_same_key one.key other.key && (bytes_eq one.title other.title
    && (bytes_eq one.size other.size && bytes_eq one.lines other.lines))

-- the same definition is among these
abbrev pub has : List Definition → Definition → Bool
has definitions one = list_any (is_same one) definitions

-- these definitions, each once: the first, and those of the others that are not the same
unfoldable pub distinct : List Definition → List Definition
distinct [] = []
distinct (d ∷ ds) = d ∷ filter (λ other. not (is_same d other)) (distinct ds)

-- those of our definitions that are not among theirs, each once
abbrev pub lone : List Definition → List Definition → List Definition
lone ours theirs = filter (λ d. not (has theirs d)) (distinct ours)

-- what each of these two lists has alone is what each of ours and theirs has alone
pub record HaveLone (some others ours theirs : List Definition) : Type 0 where
  pub gone : lone some others ≡ lone ours theirs
  pub come : lone others some ≡ lone theirs ours

-- the one definition of a list that has only one
abbrev pub only : List Definition → Option Definition
only [] = None
only (d ∷ []) = Some d
only (d ∷ other ∷ others) = None

-- the only one of these definitions that has this key
abbrev pub sole : List Definition → Key → Option Definition
sole definitions key = only (filter (λ d. is_same_key key d.key) definitions)
