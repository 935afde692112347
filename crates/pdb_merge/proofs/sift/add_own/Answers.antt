use Rattle.pdb_merge.proofs.RefusedLaws.{lists_adds, lists_hinders}
use Rattle.std.proofs.Common.{[], get_or}
use Rattle.pdb_merge.proofs.sift.add_own.Goals as goal

pub returns-in-Ok-clause-value : goal.returns-in-Ok-clause-value
returns-in-Ok-clause-value g c = λ files given.
    lists_adds c.args.merge.now c.add_stream.new.self (get_or files c.args.input []) c.in_ok-stream.stream.now (c.in_ok-stream.ensures.value files given) c.in-Ok.ensures.value

pub returns-in-Err-clause-own : goal.returns-in-Err-clause-own
returns-in-Err-clause-own g c = λ files given.
    lists_hinders c.args.merge.now.types c.args.merge.now.limit (get_or files c.args.input []) c.in_ok-stream.stream.now c.in-Err.fault (c.in_ok-stream.ensures.value files given) c.in-Err.ensures.refused
