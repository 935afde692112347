use Rattle.std.proofs.Common.{◌≡◌, ◌<◌, ◌^◌, length, take}
use Rattle.msf_streams.specs.Image.{joined}
use Rattle.msf_streams.proofs.write.joined_len.Given as goal

abbrev pub invariant-loop-part : goal.invariant-loop-part
invariant-loop-part l = (l.len ≡ length (joined (take l.part-index l.parts))) × (l.len < 2 ^ 32)
