-- The text of what came, went and changed between two lists of definitions.
use Rattle.std.specs.Prelude.{ℕ, not, if◌then◌else◌, List, [], ◌∷◌, ◌++◌, Option, None, filter, codes, is_some}
use Rattle.std.specs.List.{flat_map, list_any}
use Rattle.std.specs.Option.{option_map_or}
use Rattle.std.specs.Str.{bytes_eq}
use Rattle.bstr.specs.Text.{lines_of}
use Rattle.type_changes.specs.Definition.{Key, Definition}
use Rattle.type_changes.specs.Lone.{lone, sole}

-- each line after a sign
abbrev pub signed : List ℕ → List (List ℕ) → List ℕ
signed sign lines = flat_map (λ line. sign ++ line) lines

-- a whole definition, each of its lines after a sign
unfoldable pub whole : List ℕ → Definition → List ℕ
whole sign d = sign ++ d.title ++ d.size ++ 10 ∷ signed sign (lines_of d.lines)

-- those of our lines that are not among theirs
abbrev pub lone_lines : List (List ℕ) → List (List ℕ) → List (List ℕ)
lone_lines ours theirs = filter (λ line. not (list_any (bytes_eq line) theirs)) ours

-- the size of a definition that changed: both where they differ
unfoldable pub changed_size : List ℕ → List ℕ → List ℕ
changed_size old new = if bytes_eq old new then old else old ++ codes " -> " ++ new

-- a definition that changed: its head, and the lines that only one side has
unfoldable pub changed : Definition → Definition → List ℕ
changed old new =
    codes "~ " ++ old.title ++ changed_size old.size new.size
    ++ 10 ∷ signed (codes "  - ") (lone_lines (lines_of old.lines) (lines_of new.lines))
    ++ signed (codes "  + ") (lone_lines (lines_of new.lines) (lines_of old.lines))

-- what this key is of now, if it changed: one definition alone went with it, and one alone came
unfoldable pub successor : List Definition → List Definition → Key → Option Definition
successor gone come key = if is_some (sole gone key) then sole come key else None

-- what is shown of a definition that went: the change, or the whole of it
unfoldable pub gone_text : List Definition → List Definition → Definition → List ℕ
gone_text gone come d =
    option_map_or (changed d) (successor gone come d.key) (whole (codes "- ") d)

-- what is shown of a definition that came: nothing more where it is one that changed
unfoldable pub come_text : List Definition → List Definition → Definition → List ℕ
come_text gone come d =
    if is_some (successor gone come d.key) then [] else whole (codes "+ ") d

-- the text for what went and what came
unfoldable pub changes_between : List Definition → List Definition → List ℕ
changes_between gone come =
    flat_map (gone_text gone come) gone ++ flat_map (come_text gone come) come

-- the text for our definitions and theirs
abbrev pub changes_text : List Definition → List Definition → List ℕ
changes_text ours theirs = changes_between (lone ours theirs) (lone theirs ours)
