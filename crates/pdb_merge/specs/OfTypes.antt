-- Files whose GUID is made of their types.
use Rattle.std.specs.Prelude.{ℕ, ◌≡◌, List}
use Rattle.pdb_info.specs.Settings.{SettingsView}
use Rattle.type_trees.specs.Tree.{Tree}
use Rattle.canonical_list.specs.Finish.{IsCanonOf}
use Rattle.pdb_merge.specs.Union.{HasType, SameTypes}
use Rattle.pdb_merge.specs.Merged.{merged_file, IsFileOf}
use Rattle.pdb_merge.specs.Guid.{named}

-- this is the file of the types that have P, whose GUID is made of them
abbrev pub MergedByTypes : (Tree → Type 0) → SettingsView → List ℕ → Type 0
MergedByTypes P settings file =
    (records : List (List ℕ))
    × IsCanonOf records P
    × (file ≡ merged_file (named settings records) records)

-- any files with the same types give this file, if age and block size are equal
abbrev pub IsSameByTypes : List (List ℕ) → SettingsView → List ℕ → Type 0
IsSameByTypes files settings file =
    (others : List (List ℕ)) (its : SettingsView) (other : List ℕ)
    → its.age ≡ settings.age
    → its.block_size ≡ settings.block_size
    → SameTypes files others → MergedByTypes (HasType others) its other → other ≡ file

-- this is the file of the types of some files, with these records, and its GUID is made of them
pub record IsFileByTypes (files : List (List ℕ)) (settings : SettingsView) (file : List ℕ)
    (records : List (List ℕ)) : Type 0 where
  -- it has all that a file with this GUID has
  pub is_file : IsFileOf files (named settings records) file records
  -- the same types give the same GUID and the same bytes
  pub same : IsSameByTypes files settings file
