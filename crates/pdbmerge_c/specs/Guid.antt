-- The GUID of the types of several files.
use Rattle.std.specs.Prelude.{ℕ, ◌≡◌, List}
use Rattle.std.specs.Borrow.{Bor}
use Rattle.uuid.specs.Parts.{zero_bytes}
use Rattle.canonical_list.specs.Finish.{IsCanonOf}
use Rattle.pdb_info.specs.Settings.{SettingsView, limit_of_records}
use Rattle.pdb_merge.specs.Union.{HasType}
use Rattle.pdb_merge.specs.Guid.{types_guid}
use Rattle.pdbmerge_c.specs.declared.guid.Guid.{Guid}
use Rattle.pdbmerge_c.specs.Merge.{bytes_of_files}

-- the settings of a merge of which only the types are wanted: the limit is the highest one
abbrev pub settings_for_guid : SettingsView
settings_for_guid =
    record { guid = zero_bytes; age = 0; limit = limit_of_records; block_size = 4096 }

-- this is the GUID of the types of the files: that of the canonical list of these types
pub record IsGuidOfTypes (files : List (Bor (List ℕ))) (guid : Guid) : Type 0 where
  pub records : List (List ℕ)
  pub canon : IsCanonOf records (HasType (bytes_of_files files))
  pub guid_is : guid.bytes ≡ types_guid records
