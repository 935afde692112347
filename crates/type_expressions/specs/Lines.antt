-- The lines of the members of a type: a function of its tree.
use Rattle.std.specs.Prelude.{ℕ, zero, suc, ◌≡◌, ◌+◌, ◌-◌, ◌<◌, ◌≤◌, ◌==◌, ◌⊎◌, if◌then◌else◌, List, [], ◌∷◌, ◌++◌, Option, Some, None, length, codes}
use Rattle.std.specs.List.{flat_map}
use Rattle.std.specs.Option.{option_map_or}
use Rattle.tpi_records.specs.Header.{first_index}
use Rattle.cv_leaves.specs.FieldList.{members_of, indices_of}
use Rattle.type_trees.specs.Depth.{depth}
use Rattle.type_trees.specs.Tree.{Tree, Branches, tree, no_branch, simple, branch, IsTreeAt}
use Rattle.output_words.specs.Bounded.{cut}
use Rattle.type_expressions.specs.Expression.{branch_text}
use Rattle.type_expressions.specs.Member.{member_kind, member_line}

-- the text of the branch at a position, as a line shows it
abbrev pub shown_type : Branches → ℕ → List ℕ
shown_type bs i = cut 400 (branch_text (codes "no type") 8 bs i)

-- the lines of these members, where i branches come before theirs.
-- A member that names another list, in which the members go on, has no line
unfoldable pub member_lines : Branches → List (List ℕ) → ℕ → List (List ℕ)
member_lines bs [] i = []
member_lines bs (m ∷ ms) i =
    (if member_kind m == 0x1404 then [] else member_line m (shown_type bs i) ∷ [])
    ++ member_lines bs ms (i + length (indices_of m))

-- the position of the branch at which the members go on: that of the last of these members which
-- names another list; it is `found` if there is none
unfoldable pub link_of : Option ℕ → List (List ℕ) → ℕ → Option ℕ
link_of found [] i = found
link_of found (m ∷ ms) i =
    link_of (if member_kind m == 0x1404 then Some i else found) ms (i + length (indices_of m))

-- the lines of the members of this record itself, where these are its branches
abbrev pub own_lines : List ℕ → Branches → List (List ℕ)
own_lines r bs = member_lines bs (members_of r) 0

unfoldable mutual
  -- the lines of the members of a type, and then of those of the list in which they go on
  pub list_lines : Tree → List (List ℕ)
  list_lines (tree b bs) =
      own_lines b bs ++ option_map_or (lines_at bs) (link_of None (members_of b) 0) []

  -- the lines of the branch at a position
  pub lines_at : Branches → ℕ → List (List ℕ)
  lines_at no_branch i = []
  lines_at (simple n bs) zero = []
  lines_at (simple n bs) (suc i) = lines_at bs i
  lines_at (branch t bs) zero = list_lines t
  lines_at (branch t bs) (suc i) = lines_at bs i

-- the lines in which the members of a record go on, where these are its branches
abbrev pub rest_lines : List ℕ → Branches → List (List ℕ)
rest_lines r bs = option_map_or (lines_at bs) (link_of None (members_of r) 0) []

-- these are the lines of what a reference names; a simple type has none
abbrev pub AreLines : List (List ℕ) → ℕ → List (List ℕ) → Type 0
AreLines records to lines =
    ((to < first_index) × (lines ≡ []))
    ⊎ ((first_index ≤ to) × (t : Tree) × IsTreeAt records (to - first_index) t
    × (lines ≡ list_lines t))

-- the text of lines: each after two spaces, and with its end
unfoldable pub lines_text : List (List ℕ) → List ℕ
lines_text lines = flat_map (λ line. 32 ∷ 32 ∷ line ++ 10 ∷ []) lines

-- these are the lines of the list that `next` names, if it names one, and it is less deep than
-- `deep`; otherwise there are none
abbrev pub GoOn : List (List ℕ) → ℕ → Option ℕ → List (List ℕ) → Type 0
GoOn records deep None lines = lines ≡ []
GoOn records deep (Some to) lines =
    ((to < first_index) × (lines ≡ []))
    ⊎ ((first_index ≤ to) × (t : Tree) × IsTreeAt records (to - first_index) t
    × (depth t < deep) × (lines ≡ list_lines t))
