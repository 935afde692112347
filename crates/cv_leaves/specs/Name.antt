-- The name of the type that a record describes.
use Rattle.std.specs.Prelude.{ℕ, List, Option, Some, None, drop, if◌then◌else◌}
use Rattle.std.specs.Option.{option_map_or}
use Rattle.byte_fields.specs.Name.{name_at}
use Rattle.cv_leaves.specs.Leaf.{leaf_of}
use Rattle.cv_leaves.specs.Numeric.{has_numeric, numeric_end}
use Rattle.cv_leaves.specs.Checks.{kind_of, body_of}
use Rattle.cv_leaves.specs.declared.leaf.NamePlace.{NamePlace}
use Rattle.cv_leaves.specs.declared.leaf.NamePlace.TheVariants.{Unnamed, At, AfterNumeric}

-- the name in a body, at the offset where its leaf has it
unfoldable pub name_in : NamePlace → List ℕ → Option (List ℕ)
name_in Unnamed body = None
name_in (At k) body = name_at body k
name_in (AfterNumeric k) body =
    if has_numeric body k then name_at body (numeric_end body k) else None

-- the bytes of a body from where the name begins, at the offset where its leaf has it
unfoldable pub rest_in : NamePlace → List ℕ → Option (List ℕ)
rest_in Unnamed body = None
rest_in (At k) body = Some (drop k body)
rest_in (AfterNumeric k) body =
    if has_numeric body k then Some (drop (numeric_end body k) body) else None

-- the bytes of a record from where the name of its type begins
unfoldable pub from_name : List ℕ → Option (List ℕ)
from_name r = option_map_or (λ l. rest_in l.naming (body_of r)) (leaf_of (kind_of r)) None

-- the name of the type that a record describes
unfoldable pub name_of : List ℕ → Option (List ℕ)
name_of r = option_map_or (λ l. name_in l.naming (body_of r)) (leaf_of (kind_of r)) None
