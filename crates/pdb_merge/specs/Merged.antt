-- The file that is written for types.
use Rattle.std.specs.Prelude.{ℕ, ◌≡◌, ◌↔◌, List, [], ◌∷◌, ◌++◌, Option, length}
use Rattle.std.specs.List.{concat}
use Rattle.std.specs.Io.KnownBytes.{Appends}
use Rattle.msf_streams.specs.Image.{image}
use Rattle.msf_streams.specs.Put.{AppendsPart}
use Rattle.pdb_info.specs.Settings.{SettingsView, record_limit}
use Rattle.pdb_info.specs.Written.{info_contents}
use Rattle.tpi_records.specs.Written.{header_bytes}
use Rattle.type_trees.specs.Tree.{Tree, IsTreeAt, IsType}
use Rattle.canonical_list.specs.Finish.{IsCanonOf}
use Rattle.file_types.specs.Read.{IsAccepted}
use Rattle.pdb_merge.specs.Union.{HasType, SameTypes, Weighs, CanMerge}
use Rattle.pdb_merge.specs.declared.summary.Summary.{Summary}

-- ---- the bytes of the file

-- the TPI stream of these records: a header, and the records one after the other
unfoldable pub type_stream : List (List ℕ) → List ℕ
type_stream records = header_bytes (length records) (length (concat records)) ++ concat records

-- the streams of a file with this info stream and a TPI stream of this header and these records
abbrev pub parts_contents : List ℕ → List ℕ → List ℕ → List (List ℕ)
parts_contents info header records = [] ∷ info ∷ (header ++ records) ∷ [] ∷ [] ∷ []

-- the streams of a file with these settings and these records: an empty stream, the info stream,
-- the TPI stream, and two empty streams
abbrev pub merged_contents : SettingsView → List (List ℕ) → List (List ℕ)
merged_contents settings records =
    [] ∷ info_contents settings.age settings.guid ∷ type_stream records ∷ [] ∷ [] ∷ []

-- the file with these settings and these records
unfoldable pub merged_file : SettingsView → List (List ℕ) → List ℕ
merged_file settings records = image settings.block_size (merged_contents settings records)

-- x is the file with these settings for the canonical list of the types that have P
abbrev pub Merged : (Tree → Type 0) → SettingsView → List ℕ → Type 0
Merged P settings x =
    (records : List (List ℕ)) × IsCanonOf records P × (x ≡ merged_file settings records)

-- ---- what holds of the file

-- each type is at only one position
abbrev pub StandOnce : List (List ℕ) → Type 0
StandOnce records = (i j : ℕ) (t : Tree) → IsTreeAt records i t → IsTreeAt records j t → i ≡ j

-- the file is accepted with these records, which are a canonical list of the types that have P: it
-- has just these types, each once
pub record HoldsJust (P : Tree → Type 0) (file : List ℕ) (records : List (List ℕ)) : Type 0 where
  pub accepted : IsAccepted file records
  pub canon : IsCanonOf records P
  pub types : (t : Tree) → IsType records t ↔ P t
  pub once : StandOnce records

-- any files with the same types give this file, if age, GUID and block size are equal
abbrev pub IsSameFor : List (List ℕ) → SettingsView → List ℕ → Type 0
IsSameFor files settings file =
    (others : List (List ℕ)) (its : SettingsView) (other : List ℕ) → its.age ≡ settings.age
    → its.guid ≡ settings.guid → its.block_size ≡ settings.block_size
    → SameTypes files others → Merged (HasType others) its other → other ≡ file

-- this is the file of the types of some files, with these records
pub record IsFileOf (files : List (List ℕ)) (settings : SettingsView) (file : List ℕ)
    (records : List (List ℕ)) : Type 0 where
  -- its bytes are those of the canonical list of their types
  pub made : file ≡ merged_file settings records
  -- it is accepted, and its types are exactly those of the files, each once, in canonical order
  pub holds : HoldsJust (HasType files) file records
  -- any files with the same types give this file, if age, GUID and block size are equal
  pub same : IsSameFor files settings file
  -- it can be merged alone, and this gives the same file again
  pub can : CanMerge (file ∷ []) (record_limit settings)
  pub again : Merged (HasType (file ∷ [])) settings file

-- ---- what a sink took

-- a sink took the file of these records
pub record WroteFile (records : List (List ℕ)) (settings : SettingsView) (old new : Option (List ℕ))
    (summary : Summary) : Type 0 where
  pub taken : Appends old new (merged_file settings records)
  pub types : summary.types ≡ length records
  pub bytes : summary.bytes ≡ length (concat records)
  pub long : summary.length ≡ length (merged_file settings records)

-- a sink took the file of the types of some files, of which `IsFile` holds, and the summary says
-- how many types it has, how many bytes they have together, and how long the file is
pub record WroteAs (IsFile : List ℕ → List (List ℕ) → Type 0) (files : List (List ℕ))
    (old new : Option (List ℕ)) (summary : Summary) : Type 0 where
  pub file : List ℕ
  pub records : List (List ℕ)
  pub taken : Appends old new file
  pub is_file : IsFile file records
  pub types : summary.types ≡ length records
  pub bytes : Weighs (HasType files) summary.bytes
  pub long : summary.length ≡ length file

-- a sink took the first bytes of such a file, but not all of them
pub record WrotePartAs (IsFile : List ℕ → List (List ℕ) → Type 0) (old new : Option (List ℕ))
    : Type 0 where
  pub file : List ℕ
  pub records : List (List ℕ)
  pub taken : AppendsPart old new file
  pub is_file : IsFile file records

-- a sink took the file of the types of some files
abbrev pub Wrote : List (List ℕ) → SettingsView → Option (List ℕ) → Option (List ℕ) → Summary
    → Type 0
Wrote files settings old new summary = WroteAs (IsFileOf files settings) files old new summary

-- a sink took the first bytes of that file, but not all of them
abbrev pub WrotePart : List (List ℕ) → SettingsView → Option (List ℕ) → Option (List ℕ) → Type 0
WrotePart files settings old new = WrotePartAs (IsFileOf files settings) old new
