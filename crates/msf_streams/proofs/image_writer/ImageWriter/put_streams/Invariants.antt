use Rattle.std.proofs.Common.{◌≡◌, ◌+◌, length, drop}
use Rattle.std.specs.List.{flat_map}
use Rattle.msf_streams.specs.Image.{padded}
use Rattle.msf_streams.specs.Put.{IsSameImage, woven_from}
use Rattle.msf_streams.specs.Write.{with_texts}
use Rattle.msf_streams.proofs.PutLaws.{Halfway}
use Rattle.msf_streams.proofs.image_writer.ImageWriter.put_streams.Given as goal

abbrev pub invariant-loop-s : goal.invariant-loop-s
invariant-loop-s g l = record {
  same : IsSameImage l.initial.self l.self;
  place : l.self.position + length (flat_map (padded l.initial.self.block_size) (drop l.s (with_texts l.streams l.texts)))
      ≡ l.initial.self.position + length (flat_map (padded l.initial.self.block_size) (with_texts l.streams l.texts));
  taken : Halfway (g.W.Sink.taken l.initial.out) (g.W.Sink.taken l.out) l.self (woven_from l.initial.self (flat_map (padded l.initial.self.block_size) (with_texts l.streams l.texts)))
      (flat_map (padded l.initial.self.block_size) (drop l.s (with_texts l.streams l.texts)));
}
