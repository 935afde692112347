use Rattle.pdb_merge.proofs.InputLaws.{is_unread, more_read, unread_refuses, given_unread}
use Rattle.pdb_merge.proofs.input.check_rest.Goals as goal

pub returns-in-Err-clause-refuses : goal.returns-in-Err-clause-refuses
returns-in-Err-clause-refuses g c = λ limit.
    let known = g.I.Inputs.known c.args.inputs.now in
    unread_refuses known c.loop-input.input limit c.in-Err.fault c.input_fault.result c.loop-input.invariant (is_unread known c.loop-input.input c.in-Err.fault c.in-Err.ensures.fault) c.input_fault.ensures.value

pub returns-in-Err-clause-found : goal.returns-in-Err-clause-found
returns-in-Err-clause-found g c = λ files given.
    let known = g.I.Inputs.known c.args.inputs.now in
    given_unread known files c.loop-input.input c.in-Err.fault c.input_fault.result given (is_unread known c.loop-input.input c.in-Err.fault c.in-Err.ensures.fault) c.input_fault.ensures.value

pub loop-input-preserved : goal.loop-input-preserved
loop-input-preserved g c = more_read (g.I.Inputs.known c.args.inputs.now) c.loop-input.input c.loop-input.invariant c.in_default.ensures.value
