use Rattle.std.proofs.Common.{◌≤◌, length, arith}
use Rattle.pdb_info.proofs.EndLaws.{named_inside, end_inside}
use Rattle.pdb_info.proofs.map.NameMap.name.Goals as goal

pub end_at-requires-clause-ends : goal.end_at-requires-clause-ends
end_at-requires-clause-ends c = rw c.buffer-buffer.ensures c.requires.ends

pub between-requires-clause-inside : goal.between-requires-clause-inside
between-requires-clause-inside c =
    let buffer = c.buffer-buffer.result.now in
    let within : c.u32_at-start.result ≤ length buffer = named_inside buffer c.u32_at-start.result (rw (c.buffer-buffer.ensures, c.u32_at-start.ensures, c.requires.map.pairs_offset_is) c.requires.named) in
    omega (arith, c.end_at.ensures, end_inside buffer c.u32_at-start.result within)
