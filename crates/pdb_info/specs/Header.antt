-- The header of the info stream ("The PDB Info Stream", "Stream Header").
use Rattle.std.specs.Prelude.{ℕ, ◌≡◌, ◌≤◌, nat_le, List, [], ◌∷◌, length, take, drop}
use Rattle.byte_fields.specs.Number.{number_at}
use Rattle.byte_fields.specs.Check.{Check}
use Rattle.pdb_info.specs.Guid.{stored_guid}
use Rattle.pdb_info.specs.declared.fault.InfoFault.{InfoFault}
use Rattle.pdb_info.specs.declared.fault.InfoFault.TheVariants.{InfoShort}

-- what the header says:
-- three numbers, and the 16 bytes of the GUID in the order in which it is printed
pub record HeaderFields : Type 0 where
  pub version : ℕ
  pub signature : ℕ
  pub age : ℕ
  pub guid : List ℕ

-- the stream begins with a header of these fields
pub record HasInfoHeader (stream : List ℕ) (fields : HeaderFields) : Type 0 where
  pub long : 28 ≤ length stream
  pub version_is : number_at 4 stream 0 ≡ fields.version
  pub signature_is : number_at 4 stream 4 ≡ fields.signature
  pub age_is : number_at 4 stream 8 ≡ fields.age
  pub guid_is : stored_guid (take 16 (drop 12 stream)) ≡ fields.guid

-- the only check of a header
unfoldable pub info_header_checks : List ℕ → List (Check InfoFault)
info_header_checks stream = record { holds = nat_le 28 (length stream); fault = InfoShort } ∷ []
