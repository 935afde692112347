-- What holds of accepted files, and of the files that are written for their types.
use Rattle.std.specs.Prelude.{ℕ, ◌≡◌, ◌≢◌, ◌<◌, ◌⊎◌, ◌↔◌, List, [], ◌∷◌, ◌++◌, length, map, drop, get_or}
use Rattle.std.specs.List.{Contains}
use Rattle.pdb_info.specs.Settings.{SettingsView, AreSettings, record_limit}
use Rattle.type_trees.specs.Tree.{Tree}
use Rattle.file_types.specs.Read.{IsAccepted}
use Rattle.pdb_merge.specs.Union.{FileHas, HasTypeBelow, HasType, SameFiles, SameTypes, Weighs, Within, CanMerge, IsMergeFault}
use Rattle.canonical_list.specs.Finish.{IsCanonOf}
use Rattle.type_table.specs.Maps.{followed_by}
use Rattle.pdb_merge.specs.Merging.{AreMapsOf}
use Rattle.pdb_merge.specs.Merged.{Merged, HoldsJust, merged_file}
use Rattle.pdb_merge.specs.declared.fault.MergeFault.{MergeFault}
use Rattle.pdb_merge.specs.declared.fault.MergeFault.TheVariants as merge

-- ---- files that are written with any settings

-- a file that is written for the types of files is accepted, and has just these types
abbrev pub MergedReadsBack : Type 0
MergedReadsBack =
    (settings : SettingsView) → AreSettings settings → (files : List (List ℕ)) (x : List ℕ)
    → Within (HasType files) (record_limit settings) → Merged (HasType files) settings x
    → (records : List (List ℕ)) × HoldsJust (HasType files) x records

-- a file that is written for files has the types of these files
abbrev pub MergedHas : Type 0
MergedHas =
    (settings : SettingsView) → AreSettings settings → (files : List (List ℕ)) (x : List ℕ)
    → Within (HasType files) (record_limit settings) → Merged (HasType files) settings x
    → (t : Tree) → FileHas x t ↔ HasType files t

-- two lists of files have the same types if the same file is written for both, whatever the
-- settings are
abbrev pub MergedFilesDiffer : Type 0
MergedFilesDiffer =
    (settings other : SettingsView) → AreSettings settings → AreSettings other
    → (files others : List (List ℕ)) (x : List ℕ) → Within (HasType files) (record_limit settings)
    → Within (HasType others) (record_limit other)
    → Merged (HasType files) settings x → Merged (HasType others) other x → SameTypes files others

-- a file that is written for files can be merged alone, and this gives the same file again
abbrev pub MergedAgain : Type 0
MergedAgain =
    (settings : SettingsView) → AreSettings settings → (files : List (List ℕ)) (x : List ℕ)
    → Within (HasType files) (record_limit settings) → Merged (HasType files) settings x
    → CanMerge (x ∷ []) (record_limit settings) × Merged (HasType (x ∷ [])) settings x

-- the first files of a list may be replaced by the file that is written for them: the types stay
-- the same
abbrev pub EarlierMerge : Type 0
EarlierMerge =
    (settings : SettingsView) → AreSettings settings → (files others : List (List ℕ)) (x : List ℕ)
    → Within (HasType files) (record_limit settings) → Merged (HasType files) settings x
    → SameTypes (x ∷ others) (files ++ others)

-- the same file is written for all lists of files with the same types, if age, GUID and block size
-- are equal, whatever the limits are
abbrev pub OneMergedFile : Type 0
OneMergedFile =
    (files others : List (List ℕ)) (settings its : SettingsView) (x y : List ℕ)
    → settings.age ≡ its.age → settings.guid ≡ its.guid → settings.block_size ≡ its.block_size
    → SameTypes files others → Merged (HasType files) settings x → Merged (HasType others) its y
    → x ≡ y

-- ---- maps into files that are written with any settings

-- files are merged into a first list, and its file is merged with others into a second one: the
-- maps of the files, each followed by the map of that file, and then the maps of the others, are
-- the maps of all of them into the second list
abbrev pub MapsFollow : Type 0
MapsFollow =
    (settings : SettingsView) → AreSettings settings
    → (files others first second earlier later whole : List (List ℕ))
    → Within (HasType files) (record_limit settings)
    → IsCanonOf first (HasType files) → AreMapsOf files first earlier
    → IsCanonOf second (HasType (files ++ others))
    → AreMapsOf (merged_file settings first ∷ others) second later
    → AreMapsOf (files ++ others) second whole
    → whole ≡ map (λ numbers. followed_by numbers (get_or later 0 [])) earlier ++ drop 1 later

-- the map of a file that was written, and is merged alone, changes nothing
abbrev pub MapOfMergedFile : Type 0
MapOfMergedFile =
    (settings : SettingsView) → AreSettings settings
    → (files first second maps : List (List ℕ)) → Within (HasType files) (record_limit settings)
    → IsCanonOf first (HasType files)
    → IsCanonOf second (HasType (merged_file settings first ∷ []))
    → AreMapsOf (merged_file settings first ∷ []) second maps
    → (i : ℕ) → i < length first → get_or (get_or maps 0 []) i 0 ≡ i

-- ---- lists of files

-- the types of a list of files are those of the first file and those of the others
abbrev pub TypesOfFirst : Type 0
TypesOfFirst =
    (x : List ℕ) (files : List (List ℕ)) (t : Tree)
    → HasType (x ∷ files) t ↔ (FileHas x t ⊎ HasType files t)

-- the types of two lists of files, one after the other, are those of both lists
abbrev pub TypesOfBoth : Type 0
TypesOfBoth =
    (files others : List (List ℕ)) (t : Tree)
    → HasType (files ++ others) t ↔ (HasType files t ⊎ HasType others t)

-- if two lists have the same files, in any order and each any number of times, then both or neither
-- can be merged, and they have the same types
abbrev pub AnyOrder : Type 0
AnyOrder =
    (files others : List (List ℕ)) (limit : ℕ) → SameFiles files others
    → (CanMerge files limit ↔ CanMerge others limit) × SameTypes files others

-- if a list of files is refused with a fault other than out of memory, no list of the same files
-- can be merged, in whatever order
abbrev pub RefusedInAnyOrder : Type 0 → Type 0
RefusedInAnyOrder A =
    (files others : List (List ℕ)) (limit : ℕ) (fault : MergeFault A) → SameFiles files others
    → IsMergeFault files limit fault → fault ≢ merge.Memory → CanMerge others limit → ⊥

-- files that are not accepted add no type: two lists with the same accepted files, in any order
-- and each any number of times, have the same types
abbrev pub RefusedAddNothing : Type 0
RefusedAddNothing =
    (files others : List (List ℕ))
    → ((file : List ℕ) (records : List (List ℕ)) → IsAccepted file records →
    Contains files file ↔ Contains others file)
    → SameTypes files others

-- the number of bytes that the types of files have together is unique
abbrev pub OneWeight : Type 0
OneWeight =
    (files : List (List ℕ)) (end some other : ℕ) → Weighs (HasTypeBelow files end) some
    → Weighs (HasTypeBelow files end) other → some ≡ other
