-- How a GUID is stored ("The PDB Info Stream", "Stream Header").
use Rattle.std.specs.Prelude.{List, ℕ, ◌++◌, take, drop, reverse}

-- the stored bytes of a GUID: its first three parts, which have 4, 2 and 2 bytes,
-- are each reversed, and the last 8 bytes stay as they are
abbrev pub stored_guid : List ℕ → List ℕ
stored_guid guid =
    reverse (take 4 guid)
    ++ reverse (take 2 (drop 4 guid))
    ++ reverse (take 2 (drop 6 guid))
    ++ drop 8 guid
