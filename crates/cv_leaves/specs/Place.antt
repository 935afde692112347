-- Where a record names other types:
-- what it is made of, and the places in it ("CodeView Type Records").
use Rattle.std.specs.Prelude.{ℕ, zero, suc, ◌≡◌, ◌⊎◌, ◌+◌, ◌*◌, ◌≤◌, ◌<◌, Bool, true, false, List, [], ◌∷◌, ◌++◌, Some, length, map, drop, slice_index, if◌then◌else◌}
use Rattle.std.specs.List.{concat, AllByRecursion, Contains}
use Rattle.byte_fields.specs.Name.{name_len}
use Rattle.byte_fields.specs.Number.{number_at}
use Rattle.cv_leaves.specs.Leaf.{Leaf, leaf_of}
use Rattle.cv_leaves.specs.Attributes.{points_to_member, introduces}
use Rattle.cv_leaves.specs.Numeric.{numeric_len}
use Rattle.cv_leaves.specs.Member.{Member, member_of, has_virtual, index_places}
use Rattle.cv_leaves.specs.Part.{rest_start, stop_of}
use Rattle.cv_leaves.specs.Checks.{kind_of, body_of}
use Rattle.cv_leaves.specs.declared.leaf.Rest.{Rest}
use Rattle.cv_leaves.specs.declared.leaf.Rest.TheVariants.{Nothing, Containing, Indices, Methods, Members}

-- these bytes are the attributes of a pointer, and the containing class if it points to a member
abbrev pub IsContaining : Bool → List ℕ → List ℕ → Type 0
IsContaining true bytes places = (length bytes ≡ 8) × (places ≡ 4 ∷ [])
IsContaining false bytes places = (length bytes ≡ 4) × (places ≡ [])

-- these bytes are an entry of a method list: attributes, two bytes, an index,
-- and four more bytes if it introduces a virtual
abbrev pub IsEntry : Bool → List ℕ → List ℕ → Type 0
IsEntry true bytes places = (length bytes ≡ 12) × (places ≡ 4 ∷ [])
IsEntry false bytes places = (length bytes ≡ 8) × (places ≡ 4 ∷ [])

-- these bytes are a numeric leaf: a known one, whole
abbrev pub IsNumeric : List ℕ → Type 0
IsNumeric bytes = (2 ≤ length bytes) × (length bytes ≡ numeric_len (number_at 2 bytes 0))

-- these bytes are this number of numeric leaves, one after the other
abbrev pub AreNumerics : ℕ → List ℕ → Type 0
AreNumerics zero bytes = bytes ≡ []
AreNumerics (suc n) bytes =
    (first : List ℕ) × (others : List ℕ)
    × (bytes ≡ first ++ others)
    × IsNumeric first
    × AreNumerics n others

-- if there has to be a name, the bytes are a name and the NUL that ends it, and have no other NUL;
-- otherwise there are no bytes
abbrev pub IsNamed : Bool → List ℕ → Type 0
IsNamed true bytes = name_len bytes + 1 ≡ length bytes
IsNamed false bytes = bytes ≡ []

-- these bytes are padding: 1 to 15 bytes, the first of which is 0xF0 plus their number;
-- or there are none
abbrev pub IsPadding : List ℕ → Type 0
IsPadding bytes =
    (bytes ≡ [])
    ⊎ ((0 < length bytes) × (length bytes ≤ 15) × (slice_index bytes 0 ≡ 0xF0 + length bytes))

-- these bytes are a member of a field list with its padding: kind and two bytes, indices,
-- four bytes if it introduces a virtual, numeric leaves, a name, padding;
-- and these are the places in it
pub record IsMember (bytes places : List ℕ) : Type 0 where
  pub member : Member
  pub kind : member_of (number_at 2 bytes 0) ≡ Some member
  pub front : List ℕ
  pub indices : List ℕ
  pub virtual : List ℕ
  pub numerics : List ℕ
  pub name : List ℕ
  pub padding : List ℕ
  pub parts : bytes ≡ front ++ (indices ++ (virtual ++ (numerics ++ (name ++ padding))))
  pub front_long : length front ≡ 4
  pub indices_long : length indices ≡ 4 * member.indices
  pub virtual_long : length virtual ≡ (if has_virtual member bytes 0 then 4 else 0)
  pub numerics_are : AreNumerics member.numerics numerics
  pub name_is : IsNamed member.named name
  pub padding_is : IsPadding padding
  pub places_are : places ≡ index_places member

-- these bytes are one part of what follows the fixed places, and these are the places in it
abbrev pub IsPart : Rest → List ℕ → List ℕ → Type 0
IsPart Nothing bytes places = ⊥
IsPart Containing bytes places = IsContaining (points_to_member (number_at 4 bytes 0)) bytes places
IsPart Indices bytes places = (length bytes ≡ 4) × (places ≡ 0 ∷ [])
IsPart Methods bytes places = IsEntry (introduces (number_at 2 bytes 0)) bytes places
IsPart Members bytes places = IsMember bytes places

-- these are parts; the first begins at `at`, the last reaches `stop`,
-- and these are the places in them
abbrev pub AreParts : Rest → ℕ → ℕ → List (List ℕ) → List ℕ → Type 0
AreParts rest stop at [] places = (stop ≤ at) × (places ≡ [])
AreParts rest stop at (bytes ∷ pieces) places =
    (at < stop)
    × ((here : List ℕ) × (others : List ℕ) × IsPart rest bytes here
    × AreParts rest stop (at + length bytes) pieces others
    × (places ≡ map (λ k. at + k) here ++ others))

-- what follows the fixed places of the body is parts one after the other,
-- and these are the places in them
pub record HasParts (rest : Rest) (body places : List ℕ) : Type 0 where
  pub starts : rest_start rest ≤ length body
  pub pieces : List (List ℕ)
  pub back : List ℕ
  pub parts : drop (rest_start rest) body ≡ concat pieces ++ back
  pub parts_are : AreParts rest (stop_of rest body) (rest_start rest) pieces places

-- the record has its length and its kind, and a leaf of the table; its fixed places fit;
-- and the record's places are these and those of the parts after them
pub record HasPlaces (r places : List ℕ) : Type 0 where
  pub long : 4 ≤ length r
  pub leaf : Leaf
  pub kind : leaf_of (kind_of r) ≡ Some leaf
  pub fixed : AllByRecursion (λ p. p + 4 ≤ length (body_of r)) leaf.places
  pub others : List ℕ
  pub rest : HasParts leaf.rest (body_of r) others
  pub places_are : places ≡ leaf.places ++ others

-- the record has places
abbrev pub IsChecked : List ℕ → Type 0
IsChecked r = (places : List ℕ) × HasPlaces r places

-- this is one of the places of the record
abbrev pub IsPlace : List ℕ → ℕ → Type 0
IsPlace r place = (places : List ℕ) × HasPlaces r places × Contains places place

-- these places rise from the offset `from` on, each ends before the next one begins,
-- and the last ends at `end` or before it
abbrev pub Apart : ℕ → List ℕ → ℕ → Type 0
Apart from [] end = from ≤ end
Apart from (p ∷ ps) end = (from ≤ p) × Apart (p + 4) ps end
