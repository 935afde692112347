use Rattle.std.proofs.Common.{◌≡◌, ◌+◌, length, drop}
use Rattle.msf_streams.specs.Image.{joined}
use Rattle.msf_streams.specs.Put.{IsSameImage, woven_from}
use Rattle.msf_streams.proofs.PutLaws.{Halfway}
use Rattle.msf_streams.proofs.image_writer.ImageWriter.put_joined.Given as goal

abbrev pub invariant-loop-part : goal.invariant-loop-part
invariant-loop-part g l = record {
  same : IsSameImage l.initial.self l.self;
  place : l.self.position + length (joined (drop l.part-index l.parts)) ≡ l.initial.self.position + length (joined l.parts);
  taken : Halfway (g.W.Sink.taken l.initial.out) (g.W.Sink.taken l.out) l.self (woven_from l.initial.self (joined l.parts)) (joined (drop l.part-index l.parts));
}
