-- The table of leaves ("CodeView Type Records").
use Rattle.std.specs.Prelude.{ℕ, List, [], ◌∷◌, Option, codes}
use Rattle.cv_leaves.specs.Table.{Row, find}
use Rattle.cv_leaves.specs.declared.leaf.Rest.{Rest}
use Rattle.cv_leaves.specs.declared.leaf.Rest.TheVariants.{Nothing, Containing, Indices, Methods, Members}
use Rattle.cv_leaves.specs.declared.leaf.NamePlace.{NamePlace}
use Rattle.cv_leaves.specs.declared.leaf.NamePlace.TheVariants.{Unnamed, At, AfterNumeric}
use Rattle.cv_leaves.specs.declared.leaf.Leaf as declared

-- a leaf: its name, the places at fixed offsets of the body, what follows them,
-- and where the name of the type begins
pub record Leaf : Type 0 where
  pub text : List ℕ
  pub places : List ℕ
  pub rest : Rest
  pub naming : NamePlace

-- the row of a kind
abbrev pub leaf_row : ℕ → List ℕ → List ℕ → Rest → NamePlace → Row Leaf
leaf_row kind text places rest naming =
    record {
      kind = kind;
      item = record { text = text; places = places; rest = rest; naming = naming };
    }

-- the rows, by rising kind
abbrev pub leaves : List (Row Leaf)
leaves =
    leaf_row 0x000A (codes "LF_VTSHAPE") [] Nothing Unnamed
    ∷ leaf_row 0x000E (codes "LF_LABEL") [] Nothing Unnamed
    ∷ leaf_row 0x1001 (codes "LF_MODIFIER") (0 ∷ []) Nothing Unnamed
    ∷ leaf_row 0x1002 (codes "LF_POINTER") (0 ∷ []) Containing Unnamed
    ∷ leaf_row 0x1008 (codes "LF_PROCEDURE") (0 ∷ 8 ∷ []) Nothing Unnamed
    ∷ leaf_row 0x1009 (codes "LF_MFUNCTION") (0 ∷ 4 ∷ 8 ∷ 16 ∷ []) Nothing Unnamed
    ∷ leaf_row 0x1201 (codes "LF_ARGLIST") [] Indices Unnamed
    ∷ leaf_row 0x1203 (codes "LF_FIELDLIST") [] Members Unnamed
    ∷ leaf_row 0x1205 (codes "LF_BITFIELD") (0 ∷ []) Nothing Unnamed
    ∷ leaf_row 0x1206 (codes "LF_METHODLIST") [] Methods Unnamed
    ∷ leaf_row 0x1503 (codes "LF_ARRAY") (0 ∷ 4 ∷ []) Nothing (AfterNumeric 8)
    ∷ leaf_row 0x1504 (codes "LF_CLASS") (4 ∷ 8 ∷ 12 ∷ []) Nothing (AfterNumeric 16)
    ∷ leaf_row 0x1505 (codes "LF_STRUCTURE") (4 ∷ 8 ∷ 12 ∷ []) Nothing (AfterNumeric 16)
    ∷ leaf_row 0x1506 (codes "LF_UNION") (4 ∷ []) Nothing (AfterNumeric 8)
    ∷ leaf_row 0x1507 (codes "LF_ENUM") (4 ∷ 8 ∷ []) Nothing (At 12)
    ∷ leaf_row 0x1519 (codes "LF_INTERFACE") (4 ∷ 8 ∷ 12 ∷ []) Nothing (AfterNumeric 16)
    ∷ leaf_row 0x151D (codes "LF_VFTABLE") (0 ∷ 4 ∷ []) Nothing Unnamed
    ∷ []

-- the leaf of a kind
unfoldable pub leaf_of : ℕ → Option Leaf
leaf_of kind = find leaves kind

-- a row of the program's table, as a leaf
abbrev pub leaf_seen : declared.Leaf → Leaf
leaf_seen l = record { text = l.text.now; places = l.places.now; rest = l.rest; naming = l.naming }
