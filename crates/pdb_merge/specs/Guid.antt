-- The GUID of types, and settings with it.
use Rattle.std.specs.Prelude.{ℕ, List, take}
use Rattle.std.specs.List.{concat}
use Rattle.sha2.specs.Sha256.{sha256}
use Rattle.uuid.specs.Parts.{with_version, with_variant}
use Rattle.uuid.specs.declared.Variant.TheVariants as variant
use Rattle.uuid.specs.declared.Version.TheVariants as version
use Rattle.pdb_info.specs.Settings.{SettingsView}
use Rattle.run_options.specs.declared.guid_choice.GuidChoice.{GuidChoice}
use Rattle.run_options.specs.declared.guid_choice.GuidChoice.TheVariants.{Given, OfTypes}

-- the GUID of the types of a canonical list of these records
abbrev pub types_guid : List (List ℕ) → List ℕ
types_guid records =
    with_version (with_variant (take 16 (sha256 (concat records))) variant.RFC4122) version.Custom

-- these settings, with the GUID of the types of these records
abbrev pub named : SettingsView → List (List ℕ) → SettingsView
named settings records = record settings { guid = types_guid records }

-- these settings, with the GUID that is chosen for the types of these records
abbrev pub chosen : GuidChoice → SettingsView → List (List ℕ) → SettingsView
chosen Given settings records = settings
chosen OfTypes settings records = named settings records
