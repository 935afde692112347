use Rattle.std.proofs.Common.{arith}
use Rattle.pdb_info.proofs.FoundLaws.{info_holds}
use Rattle.pdb_info.proofs.ValueLaws.{names_are}
use Rattle.pdb_info.proofs.info.Info.read.Goals as goal

pub returns-in_err-header-clause-found : goal.returns-in_err-header-clause-found
returns-in_err-header-clause-found g c = λ info has.
    let none = info_holds c.args.stream.now info has in
    let some = c.in_err-header.ensures.first in
    absurd cc

pub returns-clause-value : goal.returns-clause-value
returns-clause-value g c =
    let stream = c.args.stream.now in
    let found = c.in_ok-header.ensures in
    record {
      header = found.header;
      names = rw (c.in_ok-names.ensures.value, c.in_ok-features.ensures.value)
          (names_are stream c.in_ok-header.map (λ i. omega (arith, c.type_inv.stream i)) found.map found.inside found.held);
    }
