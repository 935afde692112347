use Rattle.std.proofs.Common.{◌≡◌, ◌∙◌, ◌+◌, ◌*◌, ◌%◌, ◌≤◌, length, take, rules, refl, sym, arith}
use Rattle.std.proofs.lemmas.List.{length-take}
use Rattle.std.proofs.lemmas.Nat.{mod_below}
use Rattle.msf_superblock.specs.BlockNumber.{IsBlockSize}
use Rattle.msf_superblock.proofs.SizeLaws.{listed_short, place_below, some_bytes}
use Rattle.msf_blocks.proofs.WindowLaws.{count_is, number_ends, part_fits, window_opened}
use Rattle.msf_blocks.proofs.window.Window.open.Goals as goal

pub overflow_mul-offset : goal.overflow_mul-offset
overflow_mul-offset g c =
    let b = c.block_size-block_size in
    omega (arith, listed_short b.result c.args.superblock.now.directory_bytes b.ensures.fits b.ensures.listed, c.requires.there)

pub nonzero_div-offset : goal.nonzero_div-offset
nonzero_div-offset g c = some_bytes c.block_size-block_size.result c.block_size-block_size.ensures.fits

pub nonzero_rem-within : goal.nonzero_rem-within
nonzero_rem-within g c = some_bytes c.block_size-block_size.result c.block_size-block_size.ensures.fits

pub read_map_number-requires-clause-below : goal.read_map_number-requires-clause-below
read_map_number-requires-clause-below g c =
    let b = c.block_size-block_size in
    rw (← b.ensures.value) (place_below b.result c.args.superblock.now.directory_bytes (4 * c.args.position) (some_bytes b.result b.ensures.fits) (omega (arith, c.requires.there)))

pub overflow_sub-block_size : goal.overflow_sub-block_size
overflow_sub-block_size g c =
    let b = c.block_size-block_size in
    omega (arith, mod_below (4 * c.args.position) b.result (some_bytes b.result b.ensures.fits))

pub read_at-requires : goal.read_at-requires
read_at-requires g c = record {
  inside = λ file known.
      let fields = c.args.superblock.now in
      let b = c.block_size-block_size in
      let old = sym c.in_ok-block.ensures.reads.keeps ∙ known in
      let size : IsBlockSize fields.block_size = rw b.ensures.value at b.ensures.fits in
      let text = take (4 * c.min-count.result) c.args.self.now.bytes in
      let is = count_is b.result (4 * c.args.position % b.result) c.min-count.result (number_ends b.result c.args.position b.ensures.fits) c.min-count.ensures in
      let room : 4 * c.args.position % fields.block_size + length text ≤ fields.block_size = rw (← b.ensures.value) (omega (arith, is.inside, length-take (4 * c.min-count.result) c.args.self.now.bytes)) in
      let fits = part_fits file fields (4 * c.args.position) (length text) size (c.requires.readable file old) (omega (arith, c.requires.there)) room in
      rw (c.from.ensures, c.from-2.ensures, c.from-3.ensures, c.in_ok-block.ensures.value file old, b.ensures.value) fits;
}

pub returns-clause-window : goal.returns-clause-window
returns-clause-window g c =
    let bytes = g.R.ReadAt.bytes c.args.input.now in
    let fields = c.args.superblock.now in
    let b = c.block_size-block_size in
    let count = c.min-count.result in
    let into = c.read_at.new.into in
    let long : length c.args.self.now.bytes ≡ 2040 = search rules in
    let is = count_is b.result (4 * c.args.position % b.result) count (number_ends b.result c.args.position b.ensures.fits) c.min-count.ensures in
    let came = c.in_ok-read_at.ensures in
    let whole : length into ≡ 4 * count = came.same ∙ omega (arith, is.few, long, length-take (4 * count) c.args.self.now.bytes) in
    let size : IsBlockSize fields.block_size = rw b.ensures.value at b.ensures.fits in
    let room : 4 * c.args.position % fields.block_size + length into ≤ fields.block_size = rw (← b.ensures.value) (omega (arith, is.inside, whole)) in
    let start : c.from.result * c.from-2.result + c.from-3.result ≡ c.in_ok-block.block * fields.block_size + 4 * c.args.position % fields.block_size = rw (c.from.ensures, c.from-2.ensures, c.from-3.ensures, b.ensures.value) refl in
    window_opened bytes fields c.args.position count into _ whole is.few (record {
      size = size;
      inside = room;
      block = c.in_ok-block.block;
      listed = rw b.ensures.value at c.in_ok-block.ensures.given;
      given = rw (start, c.in_ok-block.ensures.reads.keeps) at came.given;
    })

pub returns-clause-shows : goal.returns-clause-shows
returns-clause-shows g c =
    let b = c.block_size-block_size in
    let is = count_is b.result (4 * c.args.position % b.result) c.min-count.result (number_ends b.result c.args.position b.ensures.fits) c.min-count.ensures in
    record { from = omega arith; upto = omega (arith, is.some) }
