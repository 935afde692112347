use Rattle.file_types.proofs.ReadLaws.{one_list}
use Rattle.file_types.proofs.laws.one_list_each.Goals as goal

pub returns : goal.returns
returns c = one_list
