use Rattle.std.proofs.Common.{◌+◌, arith, ap, ◌∙◌, ℕ, refl}
use Rattle.msf_streams.proofs.ImageLaws.{few_blocks, five_streams}
use Rattle.msf_streams.proofs.image.image_blocks.Goals as goal

pub nth_block-requires : goal.nth_block-requires
nth_block-requires c = λ is.
    omega (arith, few_blocks c.args.block_size c.directory_blocks-directory.result c.stream_blocks-blocks.result is (rw c.bytes.ensures.value at c.if-directory-bytes.false) c.stream_blocks-blocks.ensures.few)

pub overflow_add-result : goal.overflow_add-result
overflow_add-result c =
    omega (arith, c.nth_block.ensures.value, few_blocks c.args.block_size c.directory_blocks-directory.result c.stream_blocks-blocks.result (rw c.bytes.ensures.value at c.bytes.ensures.fits) (rw c.bytes.ensures.value at c.if-directory-bytes.false) c.stream_blocks-blocks.ensures.few)

pub returns-clause-some : goal.returns-clause-some
returns-clause-some c =
    let b = c.args.block_size in
    let few = few_blocks b c.directory_blocks-directory.result c.stream_blocks-blocks.result (rw c.bytes.ensures.value at c.bytes.ensures.fits) (rw c.bytes.ensures.value at c.if-directory-bytes.false) c.stream_blocks-blocks.ensures.few in
    let five = five_streams b c.stream_blocks-blocks.result c.directory_blocks-directory.result c.args.sizes.now c.told-sizes c.stream_blocks-blocks.ensures.value c.directory_blocks-directory.ensures in
    (omega (arith, five.0, (rw c.bytes.ensures.value at c.if-directory-bytes.false)), ap (λ (n : ℕ). n + 1) c.nth_block.ensures.value ∙ rw five.1 refl, omega (arith, c.nth_block.ensures.value, few))
