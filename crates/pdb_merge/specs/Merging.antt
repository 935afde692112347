-- A merge in progress.
use Rattle.std.specs.Prelude.{ℕ, ◌≡◌, ◌<◌, ◌⊎◌, ◌↔◌, List, [], Option, length, get_or}
use Rattle.type_trees.specs.Tree.{Tree, IsType}
use Rattle.canonical_list.specs.Numbers.{AreNumbers}
use Rattle.type_table.specs.Maps.{IsMapped}
use Rattle.type_table.specs.Merge.{StartsWith}
use Rattle.file_types.specs.Read.{IsAccepted, HasTypes}

-- records that have the types of the files so far, how many bytes the types may have together, and
-- the maps of the files into the records, if they are kept
pub record MergeView : Type 0 where
  pub types : List (List ℕ)
  pub limit : ℕ
  pub maps : Option (List (List ℕ))

-- ---- one more file

-- `after` has the types of these records behind those of `before`, and the map of the records, if
-- maps are kept
pub record Adds (before after : MergeView) (records : List (List ℕ)) : Type 0 where
  pub types : (t : Tree) → IsType after.types t ↔ (IsType before.types t ⊎ IsType records t)
  pub front : StartsWith after.types before.types
  pub mapped : IsMapped records after.types before.maps after.maps

-- `after` has taken the file, which is accepted
pub record AddsFile (before after : MergeView) (file : List ℕ) : Type 0 where
  pub records : List (List ℕ)
  pub accepted : IsAccepted file records
  pub added : Adds before after records

-- `after` has taken the stream, which has types
pub record AddsStream (before after : MergeView) (stream : List ℕ) : Type 0 where
  pub records : List (List ℕ)
  pub has : HasTypes stream records
  pub added : Adds before after records

-- ---- the maps

-- the file is accepted, and its map has for each of its records the position of its type in the
-- list
abbrev pub IsMapOf : List ℕ → List (List ℕ) → List ℕ → Type 0
IsMapOf file list numbers =
    (records : List (List ℕ)) × IsAccepted file records × AreNumbers records list numbers

-- these are the maps of the files into the list, one for each file
pub record AreMapsOf (files list maps : List (List ℕ)) : Type 0 where
  pub many : length maps ≡ length files
  pub each : (i : ℕ) → i < length files → IsMapOf (get_or files i []) list (get_or maps i [])
