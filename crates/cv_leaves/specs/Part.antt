-- The parts of a body that follow the fixed places ("CodeView Type Records").
use Rattle.std.specs.Prelude.{ℕ, zero, suc, ◌+◌, ◌-◌, ◌*◌, nat_lt, false, List, [], ◌∷◌, ◌++◌, length, if◌then◌else◌}
use Rattle.byte_fields.specs.Check.{Check}
use Rattle.byte_fields.specs.Number.{number_at}
use Rattle.cv_leaves.specs.Attributes.{points_to_member, introduces}
use Rattle.cv_leaves.specs.Field.{field_checks}
use Rattle.cv_leaves.specs.Member.{member_end, member_places, member_checks}
use Rattle.cv_leaves.specs.declared.leaf.Rest.{Rest}
use Rattle.cv_leaves.specs.declared.leaf.Rest.TheVariants.{Nothing, Containing, Indices, Methods, Members}
use Rattle.cv_leaves.specs.declared.fault.LeafFault.{LeafFault}
use Rattle.cv_leaves.specs.declared.fault.LeafFault.TheVariants.{Body}

-- the offset at which the parts begin
abbrev pub rest_start : Rest → ℕ
rest_start Nothing = 0
rest_start Containing = 4
rest_start Indices = 4
rest_start Methods = 0
rest_start Members = 0

-- the offset at which the parts stop
abbrev pub stop_of : Rest → List ℕ → ℕ
stop_of Nothing body = 0
stop_of Containing body = 8
stop_of Indices body = 4 + 4 * number_at 4 body 0
stop_of Methods body = length body
stop_of Members body = length body

-- the checks of the field that says how far the parts reach
unfoldable pub extent_checks : Rest → List ℕ → List (Check LeafFault)
extent_checks Indices body = field_checks body 0 4
extent_checks _ body = []

-- the offset at which the part at `at` ends
unfoldable pub part_end : Rest → List ℕ → ℕ → ℕ
part_end Nothing body at = at + 4
part_end Containing body at = if points_to_member (number_at 4 body at) then at + 8 else at + 4
part_end Indices body at = at + 4
part_end Methods body at = if introduces (number_at 2 body at) then at + 12 else at + 8
part_end Members body at = member_end body at

-- the places of the part at `at`
unfoldable pub part_places : Rest → List ℕ → ℕ → List ℕ
part_places Nothing body at = []
part_places Containing body at =
    if points_to_member (number_at 4 body at) then (at + 4) ∷ [] else []
part_places Indices body at = at ∷ []
part_places Methods body at = (at + 4) ∷ []
part_places Members body at = member_places body at

-- the checks of the part at `at`, in order
unfoldable pub part_checks : Rest → List ℕ → ℕ → List (Check LeafFault)
part_checks Nothing body at = record { holds = false; fault = Body at } ∷ []
part_checks Containing body at =
    field_checks body at 4
    ++ (if points_to_member (number_at 4 body at) then field_checks body (at + 4) 4 else [])
part_checks Indices body at = field_checks body at 4
part_checks Methods body at =
    field_checks body at 2
    ++ (field_checks body (at + 4) 4
    ++ (if introduces (number_at 2 body at) then field_checks body (at + 8) 4 else []))
part_checks Members body at = member_checks body at

-- ---- one after the other

-- what `here` gives for the part at `at`, for the part that begins where that one ends,
-- and so on below `stop`; for at most this number of parts
unfoldable pub collect : {X : Type 0} → (ℕ → ℕ) → (ℕ → List X) → ℕ → ℕ → ℕ → List X
collect end here stop zero at = []
collect end here stop (suc n) at =
    if nat_lt at stop then here at ++ collect end here stop n (end at) else []

-- what `here` gives for each part from `at` up to `stop`, where each part ends after its beginning
unfoldable pub each_part : {X : Type 0} → (ℕ → ℕ) → (ℕ → List X) → ℕ → ℕ → List X
each_part end here stop at = collect end here stop (stop - at) at
