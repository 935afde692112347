use Rattle.std.proofs.Common.{◌≡◌, ◌+◌, length}
use Rattle.msf_streams.specs.Put.{IsSameImage, woven_from}
use Rattle.msf_streams.proofs.PutLaws.{Halfway}
use Rattle.msf_streams.proofs.image_writer.ImageWriter.put_bytes.Given as goal

abbrev pub invariant-loop-rest : goal.invariant-loop-rest
invariant-loop-rest g l = record {
  same : IsSameImage l.initial.self l.self;
  place : l.self.position + length l.rest ≡ l.initial.self.position + length l.bytes;
  taken : Halfway (g.W.Sink.taken l.initial.out) (g.W.Sink.taken l.out) l.self (woven_from l.initial.self l.bytes) l.rest;
}

abbrev pub decreases-loop-rest : goal.decreases-loop-rest
decreases-loop-rest g l = length l.rest
