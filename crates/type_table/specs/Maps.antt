-- The maps of inputs: the number of each of their records.
use Rattle.std.specs.Prelude.{ℕ, ◌≡◌, ◌<◌, ◌^◌, List, [], ◌∷◌, ◌++◌, Option, Some, None, length, map, get_or}
use Rattle.type_trees.specs.Depth.{AreBelow}
use Rattle.canonical_list.specs.Numbers.{AreNumbers}

-- this can be the map of an input: it is not too long, and its numbers are not too great
pub record IsMap (numbers : List ℕ) : Type 0 where
  pub few : length numbers < 2 ^ 31
  pub small : AreBelow (2 ^ 31) numbers

-- the maps that are kept
abbrev pub kept_maps : Option (List (List ℕ)) → List (List ℕ)
kept_maps (Some maps) = maps
kept_maps None = []

-- one more map, if they are kept
abbrev pub with_map : Option (List (List ℕ)) → List ℕ → Option (List (List ℕ))
with_map (Some maps) numbers = Some (maps ++ numbers ∷ [])
with_map None numbers = None

-- each number of the map, followed by the number that stands at it
abbrev pub followed_by : List ℕ → List ℕ → List ℕ
followed_by numbers next = map (λ n. get_or next n 0) numbers

-- each map, followed by these numbers, if they are kept
abbrev pub maps_followed_by : Option (List (List ℕ)) → List ℕ → Option (List (List ℕ))
maps_followed_by (Some maps) next = Some (map (λ numbers. followed_by numbers next) maps)
maps_followed_by None next = None

-- the maps have one more, if they are kept: that of these records into the table
pub record IsMapped (records table : List (List ℕ)) (old new : Option (List (List ℕ))) : Type 0
  where
    pub numbers : List ℕ
    pub are : AreNumbers records table numbers
    pub kept : new ≡ with_map old numbers

-- each map, if they are kept, is followed by that of the table into the list
pub record AreFollowed (table list : List (List ℕ)) (old new : Option (List (List ℕ))) : Type 0
  where
    pub numbers : List ℕ
    pub are : AreNumbers table list numbers
    pub followed : new ≡ maps_followed_by old numbers
