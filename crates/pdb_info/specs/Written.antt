-- The info stream that is written ("The PDB Info Stream").
use Rattle.std.specs.Prelude.{ℕ, List, [], ◌∷◌, ◌++◌}
use Rattle.byte_fields.specs.Number.{u32s}
use Rattle.pdb_info.specs.Guid.{stored_guid}
use Rattle.pdb_info.specs.Info.{InfoView}

-- the info stream of a file with this age and GUID: version VC70 and signature 0;
-- an empty buffer of names, Size 0, Capacity 8, no present words, no deleted words,
-- the closing word; no feature codes
unfoldable pub info_contents : ℕ → List ℕ → List ℕ
info_contents age guid =
    u32s (20000404 ∷ 0 ∷ age ∷ []) ++ (stored_guid guid ++ u32s (0 ∷ 0 ∷ 8 ∷ 0 ∷ 0 ∷ 0 ∷ []))

-- the values of this info stream
abbrev pub info_view : ℕ → List ℕ → InfoView
info_view age guid = record {
  header = record { version = 20000404; signature = 0; age = age; guid = guid };
  names = [];
  features = [];
}
