use Rattle.std.proofs.Common.{arith}
use Rattle.pdb_info.specs.Names.{size_of}
use Rattle.pdb_info.proofs.EndLaws.{buffer_short}
use Rattle.pdb_info.proofs.PairLaws.{pair_named}
use Rattle.pdb_info.proofs.map.NameMap.names.Goals as goal

pub name-requires-clause-named : goal.name-requires-clause-named
name-requires-clause-named g c =
    let stream = c.args.stream.now in
    pair_named stream (size_of stream) c.loop-k.k c.requires.held (omega (arith, c.loop-k-test.true, c.requires.map.size_is))

pub ends_of-requires : goal.ends_of-requires
ends_of-requires g c = rw c.buffer.ensures (record { few = buffer_short c.args.stream.now (λ i. omega (arith, c.type_inv.stream i)) })

pub name-requires-clause-ends : goal.name-requires-clause-ends
name-requires-clause-ends g c = rw (c.deref.ensures.value, ← c.buffer.ensures) c.in_ok-ends.ensures
