-- The table of members of a field list ("CodeView Type Records").
use Rattle.std.specs.Prelude.{ℕ, ◌+◌, ◌*◌, ◌&&◌, nat_le, Bool, true, false, List, [], ◌∷◌, ◌++◌, Option, map, take, if◌then◌else◌}
use Rattle.std.specs.Option.{option_map_or}
use Rattle.byte_fields.specs.Check.{Check}
use Rattle.byte_fields.specs.Number.{number_at}
use Rattle.cv_leaves.specs.Attributes.{introduces}
use Rattle.cv_leaves.specs.Field.{field_checks}
use Rattle.cv_leaves.specs.Numeric.{numerics_end, numerics_checks}
use Rattle.cv_leaves.specs.Padding.{padding_len, padding_checks}
use Rattle.cv_leaves.specs.Table.{Row, find}
use Rattle.cv_leaves.specs.Terminated.{name_end, name_checks}
use Rattle.cv_leaves.specs.declared.member.Member as declared
use Rattle.cv_leaves.specs.declared.fault.LeafFault.{LeafFault}
use Rattle.cv_leaves.specs.declared.fault.LeafFault.TheVariants as fault

-- a member: how many type indices it has from the offset 4 on, whether it may introduce a virtual,
-- how many numeric leaves follow, and whether a name follows
pub record Member : Type 0 where
  pub indices : ℕ
  pub introducing : Bool
  pub numerics : ℕ
  pub named : Bool

-- the row of a kind
abbrev pub member_row : ℕ → ℕ → Bool → ℕ → Bool → Row Member
member_row kind indices introducing numerics named =
    record {
      kind = kind;
      item = record {
        indices = indices;
        introducing = introducing;
        numerics = numerics;
        named = named;
      };
    }

-- the rows, by rising kind: LF_BCLASS, LF_VBCLASS, LF_IVBCLASS, LF_INDEX, LF_VFUNCTAB,
-- LF_ENUMERATE, LF_MEMBER, LF_STMEMBER, LF_METHOD, LF_NESTTYPE, LF_ONEMETHOD, LF_BINTERFACE
abbrev pub members : List (Row Member)
members =
    member_row 0x1400 1 false 1 false
    ∷ member_row 0x1401 2 false 2 false
    ∷ member_row 0x1402 2 false 2 false
    ∷ member_row 0x1404 1 false 0 false
    ∷ member_row 0x1409 1 false 0 false
    ∷ member_row 0x1502 0 false 1 true
    ∷ member_row 0x150D 1 false 1 true
    ∷ member_row 0x150E 1 false 0 true
    ∷ member_row 0x150F 1 false 0 true
    ∷ member_row 0x1510 1 false 0 true
    ∷ member_row 0x1511 1 true 0 true
    ∷ member_row 0x151A 1 false 1 false
    ∷ []

-- the member of a kind
unfoldable pub member_of : ℕ → Option Member
member_of kind = find members kind

-- a row of the program's table, as a member
abbrev pub member_seen : declared.Member → Member
member_seen m =
    record {
      indices = m.indices;
      introducing = m.introducing;
      numerics = m.numerics;
      named = m.named;
    }

-- the places of a member, as offsets from its beginning
abbrev pub index_places : Member → List ℕ
index_places m = take m.indices (4 ∷ 8 ∷ [])

-- the member at `at` introduces a virtual: it may, and its attributes say so
abbrev pub has_virtual : Member → List ℕ → ℕ → Bool
has_virtual m body at = m.introducing && introduces (number_at 2 body (at + 2))

-- the offset at which the indices of the member at `at` end
abbrev pub indices_end : Member → ℕ → ℕ
indices_end m at = at + 4 + 4 * m.indices

-- the offset at which its bytes of a virtual end
unfoldable pub head_end : Member → List ℕ → ℕ → ℕ
head_end m body at = if has_virtual m body at then indices_end m at + 4 else indices_end m at

-- the checks of the two bytes after its kind, of its indices and of its bytes of a virtual
unfoldable pub head_checks : Member → List ℕ → ℕ → List (Check LeafFault)
head_checks m body at =
    field_checks body (at + 2) 2
    ++ ((if nat_le 1 m.indices then field_checks body (at + 4) 4 else [])
    ++ ((if nat_le 2 m.indices then field_checks body (at + 8) 4 else [])
    ++ (if has_virtual m body at then field_checks body (indices_end m at) 4 else [])))

-- the offset at which its numeric leaves end
abbrev pub numbers_end : Member → List ℕ → ℕ → ℕ
numbers_end m body at = numerics_end m.numerics body (head_end m body at)

-- the offset at which its name ends, where it has one
abbrev pub fields_end : Member → List ℕ → ℕ → ℕ
fields_end m body at =
    if m.named then name_end body (numbers_end m body at) else numbers_end m body at

-- the offset at which its padding ends
abbrev pub padded_end : Member → List ℕ → ℕ → ℕ
padded_end m body at = fields_end m body at + padding_len body (fields_end m body at)

-- the checks of what follows its kind, in order
unfoldable pub fields_checks : Member → List ℕ → ℕ → List (Check LeafFault)
fields_checks m body at =
    head_checks m body at
    ++ (numerics_checks m.numerics body (head_end m body at)
    ++ ((if m.named then name_checks body (numbers_end m body at) else [])
    ++ padding_checks body (fields_end m body at)))

-- the offset at which the member at `at` ends, with its padding
unfoldable pub member_end : List ℕ → ℕ → ℕ
member_end body at =
    option_map_or (λ m. padded_end m body at) (member_of (number_at 2 body at)) (at + 4)

-- the places of the member at `at`
unfoldable pub member_places : List ℕ → ℕ → List ℕ
member_places body at =
    option_map_or (λ m. map (λ k. at + k) (index_places m)) (member_of (number_at 2 body at)) []

-- the checks of the member at `at`, in order
unfoldable pub member_checks : List ℕ → ℕ → List (Check LeafFault)
member_checks body at =
    field_checks body at 2
    ++ option_map_or (λ m. fields_checks m body at) (member_of (number_at 2 body at))
    (record { holds = false; fault = fault.Member at (number_at 2 body at) } ∷ [])
