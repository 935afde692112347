use Rattle.std.proofs.Common.{◌≡◌, ◌∙◌, sym, ap}
use Rattle.msf_superblock.specs.Superblock.{Fields}
use Rattle.msf_streams.proofs.LentLaws.{first_block, is_sized}
use Rattle.msf_streams.proofs.part.run_of.Goals as goal

pub are_consecutive-requires-clause-count : goal.are_consecutive-requires-clause-count
are_consecutive-requires-clause-count g c =
    let layout = c.args.layout.now in
    let b : c.block_size-block_size.result ≡ layout.superblock.block_size = c.block_size-block_size.ensures.value ∙ ap (λ (fields : Fields). fields.block_size) c.superblock.ensures in
    rw b at c.blocks_for.ensures.value ∙ sym (is_sized layout c.args.s c.in_ok-size.size c.size.ensures.fits (sym c.size.ensures.value ∙ c.in_ok-size.was)).count

pub returns-clause-some : goal.returns-clause-some
returns-clause-some g c =
    let layout = c.args.layout.now in
    let size = sym c.size.ensures.value ∙ c.in_ok-size.was in
    let sized = is_sized layout c.args.s c.in_ok-size.size c.size.ensures.fits size in
    record {
      fits = c.size.ensures.fits;
      size = size;
      first = sym (first_block layout c.args.s c.in_ok-size.size sized) ∙ rw (← c.block.ensures.value) (sym c.unwrap_or-first.ensures);
      part = (sized.inside, c.are_consecutive.ensures.0 c.if-not-are_consecutive.false);
    }
