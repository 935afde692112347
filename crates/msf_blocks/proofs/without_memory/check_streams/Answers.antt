use Rattle.std.proofs.Common.{◌≡◌, ◌∙◌, refl, arith}
use Rattle.msf_blocks.proofs.RefusedLaws.{no_lists, contents_sound}
use Rattle.msf_blocks.proofs.without_memory.check_streams.Goals as goal

pub loop-stream-init : goal.loop-stream-init
loop-stream-init g c = record {
  keeps = refl;
  on_sizes = c.requires.on_sizes;
  on_lists = c.requires.on_lists;
  fits = omega (arith, c.requires.few);
  lists = no_lists (g.R.ReadAt.bytes c.args.input.now) c.args.superblock.now c.args.streams c.requires.given;
}

pub loop-stream-preserved : goal.loop-stream-preserved
loop-stream-preserved g c =
    let fields = c.args.superblock.now in
    let i = c.loop-stream.invariant in
    let e = c.in_ok-start.ensures in
    record {
      keeps = e.reads.keeps ∙ i.keeps;
      on_sizes = rw i.keeps at e.on_sizes;
      on_lists = rw i.keeps at e.on_lists;
      fits = e.fits;
      lists = rw i.keeps at e.lists;
    }

pub returns-clause-sound : goal.returns-clause-sound
returns-clause-sound g c =
    let i = c.loop-stream.invariant in
    let all : c.loop-stream.stream ≡ c.args.streams = omega (arith, c.loop-stream-test.false, c.loop-stream.auto.stream-end) in
    contents_sound (g.R.ReadAt.bytes c.args.input.now) c.args.superblock.now c.args.streams c.loop-stream.start (rw all at i.lists) i.fits
