use Rattle.std.proofs.Common.{arith}
use Rattle.tpi_records.proofs.CutLaws.{few_records}
use Rattle.tpi_records.proofs.records.Records.len.Goals as goal

pub returns-clause-few : goal.returns-clause-few
returns-clause-few g c =
    let framed = c.self.invariant.framed in omega (arith, few_records c.self.inside.bytes.now framed, framed.short, c.self.invariant.counted)
