use Rattle.std.proofs.Common.{◌≡◌, ◌<◌, false, ◌∙◌, refl, arith}
use Rattle.msf_superblock.specs.BlockNumber.{is_ordinary}
use Rattle.msf_blocks.specs.Directory.{directory_blocks}
use Rattle.msf_blocks.proofs.RefusedLaws.{more_map, map_refuses, map_read}
use Rattle.msf_blocks.proofs.without_memory.check_map.Goals as goal

pub loop-at-preserved : goal.loop-at-preserved
loop-at-preserved g c =
    let i = c.loop-at.invariant in
    record {
      keeps = c.in-Some.ensures.reads.keeps ∙ i.keeps;
      map = more_map (g.R.ReadAt.bytes c.args.input.now) c.args.superblock.now c.loop-at.at c.in-Some.n i.map (rw i.keeps at c.in-Some.ensures.given) (grind arith);
    }

pub returns-then-not-is_ordinary-clause-refused : goal.returns-then-not-is_ordinary-clause-refused
returns-then-not-is_ordinary-clause-refused g c =
    let fields = c.args.superblock.now in
    let end : c.blocks_for-at-end.result ≡ directory_blocks fields = c.blocks_for-at-end.ensures.value ∙ rw (c.block_size.ensures.value, c.directory_bytes.ensures.value) refl in
    let below : c.loop-at.at < directory_blocks fields = omega (arith, end, c.loop-at-test.true) in
    let bad : is_ordinary fields.num_blocks c.in-Some.n ≡ false = grind arith in
    map_refuses (g.R.ReadAt.bytes c.args.input.now) fields c.loop-at.at c.in-Some.n c.loop-at.invariant.map (rw c.loop-at.invariant.keeps at c.in-Some.ensures.given) below bad

pub returns-clause-map : goal.returns-clause-map
returns-clause-map g c =
    let fields = c.args.superblock.now in
    let end : c.blocks_for-at-end.result ≡ directory_blocks fields = c.blocks_for-at-end.ensures.value ∙ rw (c.block_size.ensures.value, c.directory_bytes.ensures.value) refl in
    let all : c.loop-at.at ≡ directory_blocks fields = omega (arith, end, c.loop-at-test.false, c.loop-at.auto.at-end) in
    map_read (g.R.ReadAt.bytes c.args.input.now) fields (rw all at c.loop-at.invariant.map)
