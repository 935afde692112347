-- Members of a field list: where their fields end, their places, and the table of their kinds.
use Rattle.std.proofs.Common.{◌≡◌, ◌<◌, ◌≤◌, ◌+◌, ◌*◌, ◌%◌, ◌++◌, Bool, true, false, cond, ℕ, zero, suc, List, [], ◌∷◌, Option, Some, None, length, take, refl, ap, arith}
use Rattle.std.specs.Prelude.{◌&&◌, nat_lt, nat_le}
use Rattle.std.specs.Option.{option_map_or}
use Rattle.std.proofs.lemmas.Bool.{leb-true, ltb-true}
use Rattle.std.proofs.lemmas.List.{length-append}
use Rattle.byte_fields.specs.Number.{number_at}
use Rattle.cv_leaves.specs.Numeric.{numeric_len, numeric_end, numerics_end}
use Rattle.cv_leaves.specs.Terminated.{name_end}
use Rattle.cv_leaves.specs.Member.{Member, members, member_of, has_virtual, indices_end, head_end, numbers_end, fields_end, padded_end, member_end}
use Rattle.cv_leaves.specs.Place.{IsMember, Apart}
use Rattle.cv_leaves.proofs.TestLaws.{and_both, found_passes}

-- ---- where they end

-- an end that is four bytes further on, or not
either_end : (b : Bool) (end : ℕ) → cond b (end + 4) end ≡ end + cond b 4 0
either_end true end = refl
either_end false end = omega arith

-- the bytes of a virtual come after the indices
pub head_is : (m : Member) (body : List ℕ) (at : ℕ) → head_end m body at ≡ indices_end m at + cond (has_virtual m body at) 4 0
unfolding head_end
head_is m body at = either_end (has_virtual m body at) (indices_end m at)

-- numeric leaves don't end before they begin
numerics_forward : (n : ℕ) (body : List ℕ) (at : ℕ) → at ≤ numerics_end n body at
unfolding numerics_end numeric_end
numerics_forward zero body at = omega arith
numerics_forward (suc n) body at = omega (arith, numerics_forward n body (at + numeric_len (number_at 2 body at)))

-- a name doesn't end before it begins
named_forward : (named : Bool) (body : List ℕ) (at : ℕ) → at ≤ cond named (name_end body at) at
unfolding name_end
named_forward true body at = omega arith
named_forward false body at = omega arith

-- the fields end after the beginning
fields_forward : (m : Member) (body : List ℕ) (at : ℕ) → at < fields_end m body at
fields_forward m body at =
    omega (arith, head_is m body at, numerics_forward m.numerics body (head_end m body at), named_forward m.named body (numbers_end m body at))

-- a member ends after its beginning, whether its kind is known or not
some_forward : (o : Option Member) (body : List ℕ) (at : ℕ) → at < option_map_or (λ m. padded_end m body at) o (at + 4)
some_forward None body at = omega arith
some_forward (Some m) body at = omega (arith, fields_forward m body at)

-- the member at an offset ends after it
pub member_forward : (body : List ℕ) (at : ℕ) → at < member_end body at
unfolding member_end
member_forward body at = some_forward (member_of (number_at 2 body at)) body at

-- ---- the table

-- the test of a row: at most two indices, and a kind whose low byte isn't one with which padding begins
abbrev is_plain : ℕ → Member → Bool
is_plain kind m = nat_le m.indices 2 && nat_lt (kind % 256) 0xF0

-- each row passes the test
row_plain : (kind : ℕ) (m : Member) → member_of kind ≡ Some m → (m.indices ≤ 2) × (kind % 256 < 0xF0)
unfolding member_of
row_plain kind m is =
    let both = and_both (nat_le m.indices 2) (nat_lt (kind % 256) 0xF0) (found_passes is_plain members kind m refl is) in
    (leb-true m.indices 2 both.0, ltb-true (kind % 256) 0xF0 both.1)

-- a member has at most two indices
pub few_indices : (kind : ℕ) (m : Member) → member_of kind ≡ Some m → m.indices ≤ 2
few_indices kind m is = (row_plain kind m is).0

-- a member doesn't begin as padding does
pub low_kind : (kind : ℕ) (m : Member) → member_of kind ≡ Some m → kind % 256 < 0xF0
low_kind kind m is = (row_plain kind m is).1

-- ---- places

-- the places of n indices are apart and end in their bytes
indices_apart : (n len : ℕ) → 4 + 4 * n ≤ len → Apart 0 (take n (4 ∷ 8 ∷ [])) len
indices_apart zero len long = omega (arith, long)
indices_apart (suc zero) len long = (omega arith, omega (arith, long))
indices_apart (suc (suc zero)) len long = (omega arith, (omega arith, omega (arith, long)))
indices_apart (suc (suc (suc n))) len long = (omega arith, (omega arith, omega (arith, long)))

-- a member is at least as long as its first four bytes and its indices
pub member_long : (t here : List ℕ) (part : IsMember t here) → 4 + 4 * part.member.indices ≤ length t
member_long t here part =
    let tail = part.virtual ++ (part.numerics ++ (part.name ++ part.padding)) in
    omega (arith, part.front_long, part.indices_long, ap length part.parts, length-append part.front (part.indices ++ tail), length-append part.indices tail)

-- the places of a member lie in its bytes
pub member_apart : (t here : List ℕ) → IsMember t here → Apart 0 here (length t)
member_apart t here part = rw part.places_are (indices_apart part.member.indices (length t) (member_long t here part))
