-- What holds of the places of every record, and of the numbers that are written there.
use Rattle.std.specs.Prelude.{ℕ, ◌≡◌, ◌+◌, ◌^◌, ◌<◌, List, length}
use Rattle.std.specs.List.{concat, flat_map, AllByRecursion}
use Rattle.byte_fields.specs.Bytes.{AreBytes}
use Rattle.byte_fields.specs.Number.{number_at}
use Rattle.tpi_records.specs.Records.{IsRecord}
use Rattle.cv_leaves.specs.Checks.{kind_of, body_of, places_of}
use Rattle.cv_leaves.specs.Blank.{put_four, fill, blank}
use Rattle.cv_leaves.specs.Place.{AreParts, HasParts, HasPlaces, IsChecked, IsPlace, Apart}
use Rattle.cv_leaves.specs.References.{references, blanked, filled}
use Rattle.cv_leaves.specs.FieldList.{members_of, indices_of, AllDifferInIndices}
use Rattle.cv_leaves.specs.declared.leaf.Rest.TheVariants.{Methods, Members}

-- a record has one list of places
abbrev pub OnePlaces : Type 0
OnePlaces = (r ps qs : List ℕ) → HasPlaces r ps → HasPlaces r qs → ps ≡ qs

-- the places of a record are those that the walk meets
abbrev pub PlacesMet : Type 0
PlacesMet = (r places : List ℕ) → HasPlaces r places → places ≡ places_of r

-- the places of a record rise, are at least four bytes apart,
-- and each four bytes lie within the body
abbrev pub PlacesApart : Type 0
PlacesApart = (r places : List ℕ) → HasPlaces r places → Apart 0 places (length (body_of r))

-- a record that is filled with numbers at its places keeps the places
abbrev pub FillKeeps : Type 0
FillKeeps = (r places ns : List ℕ) → HasPlaces r places → HasPlaces (fill r places ns) places

-- a record with zeros at its places keeps the places
abbrev pub BlankKeeps : Type 0
BlankKeeps = (r places : List ℕ) → HasPlaces r places → HasPlaces (blank r places) places

-- a record with zeros at its places stays as it is when they are written again
abbrev pub BlankStays : Type 0
BlankStays =
    (r places : List ℕ) → HasPlaces r places → blank (blank r places) places ≡ blank r places

-- a number that is written at a place is read there again
abbrev pub WrittenIsRead : Type 0
WrittenIsRead =
    (r : List ℕ) (place n : ℕ)
    → IsPlace r place
    → n < 2 ^ 32
    → number_at 4 (body_of (put_four r (4 + place) n)) place ≡ n

-- the numbers that a record is filled with, one for each place, are then its references
abbrev pub FilledIsRead : Type 0
FilledIsRead =
    (r ns : List ℕ)
    → IsChecked r
    → length ns ≡ length (places_of r)
    → AllByRecursion (λ n. n < 2 ^ 32) ns
    → references (filled r ns) ≡ ns

-- whatever numbers a record is filled with, its blank stays the same
abbrev pub FillKeepsBlank : Type 0
FillKeepsBlank = (r ns : List ℕ) → IsChecked r → blanked (filled r ns) ≡ blanked r

-- a record of bytes is its blank, filled with its own references
abbrev pub OwnFill : Type 0
OwnFill = (r : List ℕ) → IsChecked r → AreBytes r → filled (blanked r) (references r) ≡ r

-- whatever numbers a record is filled with, it keeps its framing
abbrev pub FillKeepsFrame : Type 0
FillKeepsFrame = (r ns : List ℕ) → IsChecked r → IsRecord r → IsRecord (filled r ns)

-- a record with zeros at its places keeps its framing
abbrev pub BlankKeepsFrame : Type 0
BlankKeepsFrame = (r : List ℕ) → IsChecked r → IsRecord r → IsRecord (blanked r)

-- whatever numbers a record of bytes is filled with, it is made of bytes
abbrev pub FillKeepsBytes : Type 0
FillKeepsBytes = (r ns : List ℕ) → AreBytes r → AreBytes (filled r ns)

-- a record of bytes with zeros at its places is made of bytes
abbrev pub BlankKeepsBytes : Type 0
BlankKeepsBytes = (r : List ℕ) → AreBytes r → AreBytes (blanked r)

-- the entries of a method list fill its body
abbrev pub MethodsFill : Type 0
MethodsFill =
    (body places : List ℕ)
    → HasParts Methods body places
    → (entries : List (List ℕ)) × (body ≡ concat entries)
    × AreParts Methods (length body) 0 entries places

-- the members of a field list fill its body
abbrev pub MembersFill : Type 0
MembersFill =
    (body places : List ℕ)
    → HasParts Members body places
    → (members : List (List ℕ)) × (body ≡ concat members)
    × AreParts Members (length body) 0 members places

-- the members of a field list and those of its blank differ in nothing but their type indices
abbrev pub MembersDiffer : Type 0
MembersDiffer =
    (r : List ℕ) → IsChecked r → AllDifferInIndices (members_of r) (members_of (blanked r))

-- the references of a field list are the type indices of its members
abbrev pub MembersName : Type 0
MembersName =
    (r : List ℕ)
    → IsChecked r
    → kind_of r ≡ 0x1203
    → flat_map indices_of (members_of r) ≡ references r
