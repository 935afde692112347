use Rattle.std.proofs.Common.{arith, ◌∙◌, refl}
use Rattle.pdb_info.proofs.BucketLaws.{present_bit}
use Rattle.pdb_info.proofs.map.NameMap.is_present.Goals as goal

pub returns : goal.returns
returns c =
    let map = c.requires.map in
    present_bit c.args.stream.now c.args.bucket c.u32_at-word.result (omega (arith, map.u32s_are, c.requires.below)) (c.u32_at-word.ensures ∙ rw map.size_offset_is refl)
