use Rattle.std.proofs.Common.{arith}
use Rattle.tpi_records.proofs.CutLaws.{few_records}
use Rattle.tpi_records.proofs.records.Records.iter.Goals as goal

pub returns-clause-few : goal.returns-clause-few
returns-clause-few g c =
    let framed = c.self.invariant.framed in rw c.over.ensures (omega (arith, few_records c.self.inside.bytes.now framed, framed.short))

pub returns-clause-each : goal.returns-clause-each
returns-clause-each g c = rw c.over.ensures c.self.invariant.framed.each
