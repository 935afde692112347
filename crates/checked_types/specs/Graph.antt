-- Which records a record names, by their positions.
use Rattle.std.specs.Prelude.{ℕ, ◌-◌, nat_lt, if◌then◌else◌, List, [], ◌∷◌, map}
use Rattle.cv_leaves.specs.References.{references}
use Rattle.tpi_records.specs.Header.{first_index}

-- the positions that references name: simple references are left out
unfoldable pub positions_in : List ℕ → List ℕ
positions_in [] = []
positions_in (n ∷ ns) =
    if nat_lt n first_index then positions_in ns else (n - first_index) ∷ positions_in ns

-- the positions of the records that a record names
unfoldable pub named_by : List ℕ → List ℕ
named_by r = positions_in (references r)

-- the graph of records: for each record, the positions that it names
abbrev pub graph_of : List (List ℕ) → List (List ℕ)
graph_of records = map named_by records
