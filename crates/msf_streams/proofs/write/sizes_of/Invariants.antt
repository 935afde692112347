use Rattle.std.proofs.Common.{◌≡◌, ◌<◌, ◌^◌, length, map, take}
use Rattle.std.specs.Prelude.{All}
use Rattle.msf_streams.specs.Write.{with_texts}
use Rattle.msf_streams.proofs.write.sizes_of.Given as goal

abbrev pub invariant-loop-s : goal.invariant-loop-s
invariant-loop-s g l = record {
  many : length l.sizes ≡ 5;
  sizes : take l.s l.sizes ≡ map length (take l.s (with_texts l.streams l.texts));
  short : All (λ bytes. length bytes < 2 ^ 32) (take l.s (with_texts l.streams l.texts));
}
