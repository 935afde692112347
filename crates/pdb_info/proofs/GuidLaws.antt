-- Stored GUIDs.
use Rattle.std.proofs.Common.{◌≡◌, ℕ, List, length, refl, ap, ◌∙◌}
use Rattle.std.specs.Prelude.{slice_index}
use Rattle.std.proofs.lemmas.List.FromFn.{fill_by_all}
use Rattle.uuid.specs.Parts.{swap_fields}
use Rattle.uuid.proofs.RoundTrips.{swap_twice}
use Rattle.pdb_info.specs.Guid.{stored_guid}

-- the stored bytes are those that uuid swaps
pub stored_is : (guid : List ℕ) → length guid ≡ 16 → stored_guid guid ≡ swap_fields guid
stored_is guid long = ap stored_guid (fill_by_all (λ (k : ℕ). slice_index guid k) guid 16 0 long (λ k lt. refl))

-- storing a GUID twice gives the same GUID
pub stored_twice : (guid : List ℕ) → length guid ≡ 16 → stored_guid (swap_fields guid) ≡ guid
stored_twice guid long = stored_is (swap_fields guid) refl ∙ swap_twice guid long
