use Rattle.std.proofs.Common.{[], get_or}
use Rattle.file_types.proofs.KnownLaws.{refused_lists, types_lists}
use Rattle.pdb_merge.proofs.InputLaws.{at_refuses_reading}
use Rattle.pdb_merge.proofs.OwnLaws.{own_stops_at, pdb_own}
use Rattle.pdb_merge.specs.declared.input.OwnFault.TheVariants as own
use Rattle.pdb_merge.proofs.input.read_input_types.Goals as goal

pub returns-in-Err-clause-own : goal.returns-in-Err-clause-own
returns-in-Err-clause-own g c = λ files given.
    own_stops_at files c.args.input c.in-Err.fault c.refuse.result (c.in-Err.ensures.own files given) (c.refuse.ensures.own files given)

pub returns-in-Err-clause-refuses : goal.returns-in-Err-clause-refuses
returns-in-Err-clause-refuses g c = λ below.
    at_refuses_reading (g.I.Inputs.known c.args.inputs.now) c.args.input c.refuse.result c.requires.inside c.refuse.ensures.first c.refuse.ensures.named below (returns-in-Err-clause-own g c)

pub returns-in-Ok-check_types-clause-value : goal.returns-in-Ok-check_types-clause-value
returns-in-Ok-check_types-clause-value g c = λ files given. types_lists _ c.in-Ok.stream.now c.in-Ok-check_types.types (c.in-Ok.ensures.value files given) c.in-Ok-check_types.ensures.types

pub returns-in-Err-check_types-clause-own : goal.returns-in-Err-check_types-clause-own
returns-in-Err-check_types-clause-own g c = λ files given.
    let file = get_or files c.args.input [] in
    let refused = pdb_own file c.in-Err-check_types.fault (refused_lists file c.in-Ok.stream.now c.in-Err-check_types.fault (c.in-Ok.ensures.value files given) c.in-Err-check_types.ensures.refused) in
    own_stops_at files c.args.input (own.Of c.from.result) c.refuse-in-Err-check_types.result (rw c.from.ensures refused) (c.refuse-in-Err-check_types.ensures.own files given)

pub returns-in-Err-check_types-clause-refuses : goal.returns-in-Err-check_types-clause-refuses
returns-in-Err-check_types-clause-refuses g c = λ below.
    let refuse = c.refuse-in-Err-check_types in
    at_refuses_reading (g.I.Inputs.known c.args.inputs.now) c.args.input refuse.result c.requires.inside refuse.ensures.first refuse.ensures.named below (returns-in-Err-check_types-clause-own g c)
