use Rattle.std.proofs.Common.{◌≡◌, ◌∙◌, refl, sym, ap, arith, inr, Some, ℕ, List}
use Rattle.std.proofs.lemmas.List.{length-take-le}
use Rattle.msf_superblock.specs.Superblock.{Fields}
use Rattle.msf_streams.proofs.AtLaws.{are_blocks, was_read}
use Rattle.msf_streams.proofs.LentLaws.{is_sized}
use Rattle.msf_streams.proofs.at.fill.Goals as goal

pub read_blocks-requires-clause-count : goal.read_blocks-requires-clause-count
read_blocks-requires-clause-count g c =
    let layout = c.args.layout.now in
    let sized = is_sized layout c.args.s c.in-Some.size c.in-Some.ensures.fits (sym c.size.ensures.value ∙ c.in-Some.is) in
    let blocks = c.in-Some-blocks.blocks.now in
    let are = are_blocks layout c.args.s c.in-Some.size blocks sized c.in-Some-blocks.ensures.value in
    let b : c.block_size.result ≡ layout.superblock.block_size = c.block_size.ensures.value ∙ ap (λ (f : Fields). f.block_size) c.superblock.ensures in
    rw b are.count

pub read_blocks-requires-clause-inside : goal.read_blocks-requires-clause-inside
read_blocks-requires-clause-inside g c = λ file known.
    let layout = c.args.layout.now in
    let sized = is_sized layout c.args.s c.in-Some.size c.in-Some.ensures.fits (sym c.size.ensures.value ∙ c.in-Some.is) in
    let blocks = c.in-Some-blocks.blocks.now in
    let are = are_blocks layout c.args.s c.in-Some.size blocks sized c.in-Some-blocks.ensures.value in
    let b : c.block_size.result ≡ layout.superblock.block_size = c.block_size.ensures.value ∙ ap (λ (f : Fields). f.block_size) c.superblock.ensures in
    rw b (are.inside file (c.requires file known))

pub returns-in-Ok-clause-value : goal.returns-in-Ok-clause-value
returns-in-Ok-clause-value g c = λ file known.
    let layout = c.args.layout.now in
    let sized = is_sized layout c.args.s c.in-Some.size c.in-Some.ensures.fits (sym c.size.ensures.value ∙ c.in-Some.is) in
    let blocks = c.in-Some-blocks.blocks.now in
    let are = are_blocks layout c.args.s c.in-Some.size blocks sized c.in-Some-blocks.ensures.value in
    let b : c.block_size.result ≡ layout.superblock.block_size = c.block_size.ensures.value ∙ ap (λ (f : Fields). f.block_size) c.superblock.ensures in
    are.contents file ∙ ap (λ (bytes : List ℕ). Some bytes) (sym (rw b at (c.in-Ok.ensures.value file known)))

pub returns-in-Err-Memory-clause-first : goal.returns-in-Err-Memory-clause-first
returns-in-Err-Memory-clause-first g c =
    let layout = c.args.layout.now in
    let sized = is_sized layout c.args.s c.in-Some.size c.in-Some.ensures.fits (sym c.size.ensures.value ∙ c.in-Some.is) in
    let blocks = c.in-Some-blocks.blocks.now in
    let are = are_blocks layout c.args.s c.in-Some.size blocks sized c.in-Some-blocks.ensures.value in
    let b : c.block_size.result ≡ layout.superblock.block_size = c.block_size.ensures.value ∙ ap (λ (f : Fields). f.block_size) c.superblock.ensures in
    inr (refl, sized.inside)

pub returns-in-Ok-clause-text : goal.returns-in-Ok-clause-text
returns-in-Ok-clause-text g c =
    let layout = c.args.layout.now in
    let sized = is_sized layout c.args.s c.in-Some.size c.in-Some.ensures.fits (sym c.size.ensures.value ∙ c.in-Some.is) in
    let blocks = c.in-Some-blocks.blocks.now in
    let b : c.block_size.result ≡ layout.superblock.block_size = c.block_size.ensures.value ∙ ap (λ (f : Fields). f.block_size) c.superblock.ensures in
    was_read (g.R.ReadAt.bytes c.args.input.now) layout c.args.s c.in-Some.size blocks _ sized c.in-Some-blocks.ensures.value (length-take-le c.in-Some.size _ (omega (arith, c.in-Ok.ensures.len))) (rw b at c.in-Ok.ensures.given)
