-- Files whose GUID is made of their types.
use Rattle.std.proofs.Common.{◌≡◌, ℕ, List, refl, sym, ap}
use Rattle.pdb_info.specs.Settings.{SettingsView, AreSettings, record_limit}
use Rattle.canonical_list.specs.Finish.{IsCanonOf}
use Rattle.pdb_merge.specs.Union.{HasType, Within}
use Rattle.pdb_merge.specs.Merged.{merged_file}
use Rattle.pdb_merge.proofs.FileLaws.{same_records, one_merged_file, is_file}
use Rattle.pdb_merge.specs.Guid.{types_guid, named}
use Rattle.pdb_merge.specs.OfTypes.{IsFileByTypes}

-- the file of a canonical list of the types of files, with the GUID of these, has all that `IsFileByTypes` says
pub is_file_by_types : (files : List (List ℕ)) (settings : SettingsView) (records : List (List ℕ)) → AreSettings (named settings records) → Within (HasType files) (record_limit settings)
    → IsCanonOf records (HasType files) → IsFileByTypes files settings (merged_file (named settings records) records) records
is_file_by_types files settings records are within canon = record {
  is_file = is_file files (named settings records) records are within canon;
  same = λ others its other age size types (found, canon_of, is).
      let one : records ≡ found = same_records (HasType files) (HasType others) records found types canon canon_of in
      sym (one_merged_file files others (named settings records) (named its found) (merged_file (named settings records) records) other
      (sym age) (ap types_guid one) (sym size) types (records, canon, refl) (found, canon_of, is));
}
