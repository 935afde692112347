use Rattle.std.proofs.Common.{◌≡◌, ◌∙◌, arith, length, sym}
use Rattle.std.proofs.lemmas.List.{take_all}
use Rattle.byte_io.specs.At.{stable}
use Rattle.msf_blocks.specs.Directory.{IsBlockMap}
use Rattle.msf_blocks.proofs.AtLaws.{map_inside}
use Rattle.msf_blocks.proofs.KnownLaws.{block_map_known, numbers_known}
use Rattle.msf_blocks.proofs.directory_at.read_contents.Goals as goal

pub read_blocks-requires-clause-inside : goal.read_blocks-requires-clause-inside
read_blocks-requires-clause-inside g c = λ file known.
    let fields = c.args.superblock.now in
    let m = c.in_ok-blocks.ensures in
    let numbers = c.in_ok-blocks.blocks.items in
    let old = sym m.reads.keeps ∙ known in
    let whole = c.requires.whole file old in
    let map : IsBlockMap (stable file) fields numbers = rw old at m.map in
    let readable = block_map_known file fields whole c.requires.fit (numbers, map) in
    rw (c.deref.ensures.value, numbers_known file fields numbers whole c.requires.fit map, c.block_size.ensures.value) (map_inside file fields readable.blocks whole)

pub returns-in-Ok-clause-texts : goal.returns-in-Ok-clause-texts
returns-in-Ok-clause-texts g c =
    let m = c.in_ok-blocks.ensures in
    let size = c.directory_bytes-size.result in
    let items = c.read_blocks.new.buffer.items in
    let long : length items ≡ size = grind arith in
    let whole = take_all size items (omega (arith, long)) in
    record {
      numbers = c.in_ok-blocks.blocks.items;
      block_map = m.map;
      given = rw (whole, c.deref.ensures.value, c.block_size.ensures.value, m.reads.keeps) at c.in-Ok.ensures.given;
      count = long ∙ c.directory_bytes-size.ensures.value;
    }
