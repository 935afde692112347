use Rattle.std.proofs.Common.{◌≡◌, ◌∙◌, ◌*◌, arith, drop, ap}
use Rattle.std.proofs.lemmas.List.{length-take, length-drop}
use Rattle.msf_superblock.specs.Superblock.{Fields}
use Rattle.msf_streams.proofs.LentLaws.{is_lent_at}
use Rattle.msf_streams.proofs.part.lent.Goals as goal

pub split_at-requires : goal.split_at-requires
split_at-requires g c =
    let layout = c.args.layout.now in
    let b : c.block_size-block_size.result ≡ layout.superblock.block_size = c.block_size-block_size.ensures.value ∙ ap (λ (fields : Fields). fields.block_size) c.superblock.ensures in
    let at = is_lent_at c.args.file.now layout c.args.s c.in_ok-first.first c.in_ok-first.len c.in_ok-first.ensures.some c.requires in
    rw b (omega (arith, at.inside))

pub slice_bounds-result-end : goal.slice_bounds-result-end
slice_bounds-result-end g c =
    let layout = c.args.layout.now in
    let file = c.args.file.now in
    let size = c.in_ok-first.len in
    let b : c.block_size-block_size.result ≡ layout.superblock.block_size = c.block_size-block_size.ensures.value ∙ ap (λ (fields : Fields). fields.block_size) c.superblock.ensures in
    let at = is_lent_at file layout c.args.s c.in_ok-first.first size c.in_ok-first.ensures.some c.requires in
    let start = c.in_ok-first.first * layout.superblock.block_size in
    rw (c.split_at.ensures.back, b) (omega (arith, at.inside, length-take size (drop start file), length-drop start file))
