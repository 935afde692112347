-- The members of a field list, one after the other ("CodeView Type Records").
use Rattle.std.specs.Prelude.{ℕ, ◌≡◌, ◌+◌, ◌*◌, ◌-◌, ◌^◌, ◌<◌, ◌≤◌, ◌==◌, if◌then◌else◌, List, [], ◌∷◌, Some, None, length, take, drop, map}
use Rattle.byte_fields.specs.Check.{first_failing}
use Rattle.byte_fields.specs.Number.{number_at}
use Rattle.cv_leaves.specs.Member.{Member, member_of, member_end, member_places}
use Rattle.cv_leaves.specs.Part.{each_part}
use Rattle.cv_leaves.specs.Checks.{kind_of, body_of, checks_from}
use Rattle.cv_leaves.specs.declared.leaf.Rest.TheVariants.{Members}

-- the bytes of the member at `at`, with its padding
abbrev pub member_bytes : List ℕ → ℕ → List ℕ
member_bytes body at = take (member_end body at - at) (drop at body)

-- the members from `at` on
unfoldable pub members_from : List ℕ → ℕ → List (List ℕ)
members_from body at =
    each_part (member_end body) (λ k. member_bytes body k ∷ []) (length body) at

-- the members of a field list, each with its padding; any other record has none
unfoldable pub members_of : List ℕ → List (List ℕ)
members_of r = if kind_of r == 0x1203 then members_from (body_of r) 0 else []

-- the type indices of a member, in order
unfoldable pub indices_of : List ℕ → List ℕ
indices_of m = map (number_at 4 m) (member_places m 0)

-- the members from `next` on can be told
pub record AreMembersLeft (body : List ℕ) (next : ℕ) : Type 0 where
  -- the body is short, so no offset overflows
  pub short : length body < 2 ^ 17
  -- the next member begins at a small offset
  pub near : next < 2 ^ 17
  -- the members from there on pass their checks
  pub checked : first_failing (checks_from Members body (length body) next) ≡ None

-- a member of a known kind, which has its type indices; it is short, so no offset in it overflows
pub record IsWholeMember (m : List ℕ) : Type 0 where
  pub member : Member
  pub kind : member_of (number_at 2 m 0) ≡ Some member
  pub long : 4 + 4 * member.indices ≤ length m
  pub short : length m ≤ 2 ^ 16

-- two members differ in nothing but their type indices
pub record DifferInIndices (one other : List ℕ) : Type 0 where
  pub member : Member
  pub kind : member_of (number_at 2 one 0) ≡ Some member
  pub long : length other ≡ length one
  pub front : take 4 other ≡ take 4 one
  pub back : drop (4 + 4 * member.indices) other ≡ drop (4 + 4 * member.indices) one

-- each of these members differs from the other one at its position in nothing but its type indices
abbrev pub AllDifferInIndices : List (List ℕ) → List (List ℕ) → Type 0
AllDifferInIndices [] others = others ≡ []
AllDifferInIndices (m ∷ ms) others =
    (o : List ℕ) × (os : List (List ℕ)) × (others ≡ o ∷ os) × DifferInIndices m o
    × AllDifferInIndices ms os
