use Rattle.std.proofs.Common.{◌≡◌, ◌∙◌, ◌*◌, length, ap, refl, arith}
use Rattle.std.proofs.lemmas.List.FromFn.{length-map-range_with_len}
use Rattle.byte_fields.specs.Number.{nth_u32}
use Rattle.msf_blocks.specs.Directory.{directory_blocks, map_start}
use Rattle.msf_blocks.proofs.GivenLaws.{behind_none, map_given}
use Rattle.msf_blocks.proofs.directory_at.read_map.Goals as goal

pub returns-clause-len : goal.returns-clause-len
returns-clause-len g c =
    let count : c.blocks_for-count.result ≡ directory_blocks c.args.superblock.now = c.blocks_for-count.ensures.value ∙ rw (c.block_size-block_size.ensures.value, c.directory_bytes.ensures.value) refl in
    ap length c.in_ok-numbers_in.ensures ∙ length-map-range_with_len (nth_u32 c.deref.result.now) 0 c.blocks_for-count.result ∙ count

pub returns-clause-given : goal.returns-clause-given
returns-clause-given g c =
    let fields = c.args.superblock.now in
    let bytes = g.R.ReadAt.bytes c.args.input.now in
    let n = c.blocks_for-count.result in
    let start : c.from.result * c.from-2.result ≡ map_start fields = rw (c.from.ensures, c.block_map_addr.ensures.value, c.from-2.ensures, c.block_size-block_size.ensures.value) refl in
    let more = rw (c.new-bytes.ensures.items, start) at c.in_ok-read_more.ensures.given in
    let many : length c.read_more.new.buffer.items ≡ 4 * n = omega (arith, c.in_ok-read_more.ensures.len, ap length c.new-bytes.ensures.items) in
    map_given bytes fields c.read_more.new.buffer.items _ n (behind_none bytes (map_start fields) c.read_more.new.buffer.items more) (omega (arith, many)) (rw c.deref.ensures.value at c.in_ok-numbers_in.ensures)
