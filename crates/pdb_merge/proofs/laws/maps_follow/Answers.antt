use Rattle.pdb_merge.proofs.MapLaws.{maps_follow}
use Rattle.pdb_merge.proofs.laws.maps_follow.Goals as goal

pub returns : goal.returns
returns c = maps_follow
