-- What a merge that lists maps answers.
use Rattle.std.specs.Prelude.{ℕ, ◌≡◌, ◌+◌, ◌<◌, ◌⊎◌, List, length, map}
use Rattle.std.specs.Borrow.{Bor}
use Rattle.std.specs.List.{concat}
use Rattle.tpi_records.specs.Header.{first_index}
use Rattle.pdb_merge.specs.Merged.{IsFileOf}
use Rattle.pdb_merge.specs.Merging.{AreMapsOf}
use Rattle.pdbmerge_c.specs.declared.merge.Choices.{Choices}
use Rattle.pdbmerge_c.specs.declared.merge.Report.{Report}
use Rattle.pdbmerge_c.specs.Given.{Fills}
use Rattle.pdbmerge_c.specs.Merge.{IsReported, bytes_of_files}

-- the type indices of the positions in these maps, one map after the other
abbrev pub indices_of : List (List ℕ) → List ℕ
indices_of maps = concat (map (map (λ n. first_index + n)) maps)

-- the file is reported, and these are the maps of the files into its records: their type indices,
-- and how many each map has
pub record HasFileAndMaps (files : List (Bor (List ℕ))) (choices : Choices) (report : Report)
    (file indices counts : List ℕ) : Type 0 where
  pub is_reported : IsReported IsFileOf files choices report file
  pub maps : List (List ℕ)
  pub are_maps : AreMapsOf (bytes_of_files files) is_reported.records maps
  pub indices_are : indices ≡ indices_of maps
  pub counts_are : counts ≡ map length maps

-- such a file is at the front of `out`, the type indices of its maps are at the front of `indices`,
-- and how many each map has is at the front of `counts`; `total` is how many all maps have
pub record MergesWithMaps (files : List (Bor (List ℕ))) (choices : Choices) (report : Report)
    (total : ℕ) (out_old out_new indices_old indices_new counts_old counts_new : List ℕ) : Type 0
  where
    pub file : List ℕ
    pub indices : List ℕ
    pub counts : List ℕ
    pub has : HasFileAndMaps files choices report file indices counts
    pub total_is : total ≡ length indices
    pub fills : Fills file out_old out_new
    pub fills_indices : Fills indices indices_old indices_new
    pub fills_counts : Fills counts counts_old counts_new

-- one of the three is longer than its room
unfoldable pub AreTooLong : List ℕ → List ℕ → List ℕ → ℕ → ℕ → ℕ → Type 0
AreTooLong file indices counts room index_room count_room =
    (room < length file) ⊎ (index_room < length indices) ⊎ (count_room < length counts)

-- such a file is longer than its room, or its maps are, or there are more of them than counts
pub record LacksRoomOfMaps (files : List (Bor (List ℕ))) (choices : Choices) (report : Report)
    (total room index_room count_room : ℕ) : Type 0 where
  pub file : List ℕ
  pub indices : List ℕ
  pub counts : List ℕ
  pub has : HasFileAndMaps files choices report file indices counts
  pub total_is : total ≡ length indices
  pub long : AreTooLong file indices counts room index_room count_room
