use Rattle.std.proofs.Common.{arith}
use Rattle.tpi_records.proofs.CutLaws.{splits}
use Rattle.tpi_records.proofs.iter.split_record.Goals as goal

pub u16_at-requires : goal.u16_at-requires
u16_at-requires c = let s = splits c.args.bytes.now c.requires.framed c.requires.some in omega (arith, s.long, s.fits)

pub split_at-requires : goal.split_at-requires
split_at-requires c = let s = splits c.args.bytes.now c.requires.framed c.requires.some in omega (arith, s.fits, c.from-len.ensures, c.u16_at.ensures)

pub returns-clause-records : goal.returns-clause-records
returns-clause-records c =
    let s = splits c.args.bytes.now c.requires.framed c.requires.some in
    rw (c.split_at.ensures.front, c.split_at.ensures.back, c.from-len.ensures, c.u16_at.ensures) s.records

pub returns-clause-record : goal.returns-clause-record
returns-clause-record c =
    let s = splits c.args.bytes.now c.requires.framed c.requires.some in
    rw (c.split_at.ensures.front, c.from-len.ensures, c.u16_at.ensures) (rw s.records at c.requires.framed.each).0

pub returns-clause-framed : goal.returns-clause-framed
returns-clause-framed c =
    let s = splits c.args.bytes.now c.requires.framed c.requires.some in
    rw (c.split_at.ensures.back, c.from-len.ensures, c.u16_at.ensures) s.framed
