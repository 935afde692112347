use Rattle.std.proofs.Common.{◌≡◌, ◌+◌, ◌++◌, length, drop}
use Rattle.std.specs.List.{concat}
use Rattle.msf_streams.specs.Put.{IsSameImage, woven_from}
use Rattle.msf_streams.proofs.PutLaws.{Halfway}
use Rattle.msf_streams.proofs.image_writer.ImageWriter.put_texts.Given as goal

abbrev pub invariant-loop-position : goal.invariant-loop-position
invariant-loop-position g l = record {
  same : IsSameImage l.initial.self l.self;
  place : l.self.position + length (l.chunk.items ++ concat (drop l.position l.texts)) ≡ l.initial.self.position + length (concat l.texts);
  taken : Halfway (g.W.Sink.taken l.initial.out) (g.W.Sink.taken l.out) l.self (woven_from l.initial.self (concat l.texts)) (l.chunk.items ++ concat (drop l.position l.texts));
}
