use Rattle.std.proofs.Common.{◌≡◌, Some, sym, ap, ◌∙◌, arith, refl, ◌*◌, ◌+◌, ◌-◌, min}
use Rattle.msf_blocks.specs.Layout.{block_of}
use Rattle.msf_superblock.specs.Superblock.{Fields}
use Rattle.msf_streams.proofs.PieceLaws.{piece_here}
use Rattle.msf_streams.proofs.streams.piece.Goals as goal

pub returns-clause-some : goal.returns-clause-some
returns-clause-some g c =
    let layout = c.args.container.now.layout in
    let block = c.in_ok-block.block in
    let there : block_of layout.streams c.args.s c.args.position ≡ Some block = sym (rw c.layout-layout.ensures at c.block.ensures.value) ∙ c.in_ok-block.was in
    let size : c.block_size-block_size.result ≡ layout.superblock.block_size = c.block_size-block_size.ensures.value ∙ ap (λ (fields : Fields). fields.block_size) (rw c.layout-layout.ensures at c.superblock.ensures) in
    let start = block * layout.superblock.block_size in
    let len : start + c.min-len.result - start ≡ min layout.superblock.block_size c.args.left = omega (arith, c.min-len.ensures, size) in
    rw (c.file.ensures.value, piece_here c.args.container.now.file layout c.args.s c.args.position block c.args.left there, size, len) refl
