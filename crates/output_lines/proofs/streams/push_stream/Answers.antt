use Rattle.std.proofs.Common.{string_bytes}
use Rattle.output_lines.proofs.StreamsLaws.{line_whole}
use Rattle.output_lines.proofs.streams.push_stream.Goals as goal

pub returns : goal.returns
returns g c =
    let layout = c.args.layout.now in
    line_whole layout.superblock layout.streams c.args.s c.unwrap_or-size.result c.blocks_for.result (string_bytes c.args.text.now) (string_bytes c.push_decimal.new.text)
    (string_bytes c.push_number.new.text) (string_bytes c.push_blocks.new.text) (string_bytes c.push_str.new.self) c.size.ensures.fits.each
    (rw c.size.ensures.value at c.unwrap_or-size.ensures) (rw (← c.superblock.ensures, ← c.block_size-block_size.ensures.value) c.blocks_for.ensures.value) (rw c.from.ensures at c.in_ok-push_decimal.ensures) (rw c.from-2.ensures at c.in_ok-push_number.ensures) c.in_ok-push_blocks.ensures c.in_ok-push_str.ensures.bytes
