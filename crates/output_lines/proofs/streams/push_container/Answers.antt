use Rattle.std.proofs.Common.{string_bytes}
use Rattle.output_lines.specs.Streams.{container_with}
use Rattle.output_lines.proofs.StreamsLaws.{five_parts}
use Rattle.output_lines.proofs.streams.push_container.Goals as goal

pub returns : goal.returns
unfolding container_with
returns g c =
    let superblock = c.superblock-superblock.ensures in
    five_parts (string_bytes c.args.text.now) (string_bytes c.push_named.new.text) (string_bytes c.push_named-2.new.text) (string_bytes c.push_named-3.new.text) (string_bytes c.push_named-4.new.text)
    (string_bytes c.push_named-5.new.text) _ _ _ _ _
    (rw (c.block_size.ensures.value, superblock) at c.in_ok-push_named.ensures) (rw (c.num_blocks.ensures, superblock) at c.in_ok-push_named-2.ensures) c.in_ok-push_named-3.ensures
    (rw (c.directory_bytes.ensures.value, superblock) at c.in_ok-push_named-4.ensures) (rw c.streams.ensures.value at c.in_ok-push_named-5.ensures)
