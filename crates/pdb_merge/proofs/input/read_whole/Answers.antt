use Rattle.std.proofs.Common.{ap, refl, sym}
use Rattle.byte_io.specs.At.{stable}
use Rattle.pdb_merge.proofs.InputLaws.{given_file, some_bytes, more_read}
use Rattle.pdb_merge.proofs.OwnLaws.{given_memory, whole_reads}
use Rattle.pdb_merge.proofs.input.read_whole.Goals as goal

pub read_with-requires : goal.read_with-requires
read_with-requires g c κs =
    let known = g.I.Inputs.known c.args.inputs.now in (
      (refl, (refl, tt)),
      whole_reads known c.args.input c.in-Ok.file.now c.requires.before c.in-Ok.ensures.value,
    )

pub returns-in-Err-clause-own : goal.returns-in-Err-clause-own
returns-in-Err-clause-own g c = λ files given.
    given_memory (g.I.Inputs.known c.args.inputs.now) files c.args.input c.in-Err.fault given c.in-Err.ensures.fault

pub returns-in-Ok-read_with-clause-value : goal.returns-in-Ok-read_with-clause-value
returns-in-Ok-read_with-clause-value g c = λ files given.
    let there = given_file (g.I.Inputs.known c.args.inputs.now) files c.args.input c.in-Ok.file.now given c.in-Ok.ensures.value in
    c.in-Ok-read_with.ensures.value _ (ap stable (sym there.1))

pub returns-in-Ok-read_with-clause-read : goal.returns-in-Ok-read_with-clause-read
returns-in-Ok-read_with-clause-read g c =
    let known = g.I.Inputs.known c.args.inputs.now in
    more_read known c.args.input c.requires.before (some_bytes known c.args.input c.in-Ok.file.now c.in-Ok.ensures.value)

pub returns-in-Err-Of-clause-own : goal.returns-in-Err-Of-clause-own
returns-in-Err-Of-clause-own g c = λ files given.
    let there = given_file (g.I.Inputs.known c.args.inputs.now) files c.args.input c.in-Ok.file.now given c.in-Ok.ensures.value in
    let own = rw c.in-Err-Of.field-0-is at c.in-Err-Of.ensures.own in
    own files given (ap stable (sym there.1))
