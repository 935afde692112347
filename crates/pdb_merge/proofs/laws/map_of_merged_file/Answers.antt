use Rattle.pdb_merge.proofs.MapLaws.{map_of_merged_file}
use Rattle.pdb_merge.proofs.laws.map_of_merged_file.Goals as goal

pub returns : goal.returns
returns c = map_of_merged_file
