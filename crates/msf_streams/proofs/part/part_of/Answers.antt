use Rattle.std.proofs.Common.{◌≡◌, ◌∙◌, ◌*◌, ap, length}
use Rattle.byte_io.specs.At.{AreGiven}
use Rattle.msf_superblock.specs.Superblock.{Fields}
use Rattle.msf_streams.specs.Streams.{WasRead}
use Rattle.msf_streams.proofs.AtLaws.{lent_given, some_of_both}
use Rattle.msf_streams.proofs.part.part_of.Goals as goal

pub returns-clause-text : goal.returns-clause-text
returns-clause-text g c =
    let bytes = g.R.ReadAt.bytes c.args.input.now in
    let layout = c.args.layout.now in
    let first = c.in_ok-first.first in
    let size = c.in_ok-first.size in
    let b : c.block_size-block_size.result ≡ layout.superblock.block_size = c.block_size-block_size.ensures.value ∙ ap (λ (fields : Fields). fields.block_size) c.superblock.ensures in
    some_of_both (λ part. length part.now ≡ size) (λ part. AreGiven bytes (first * layout.superblock.block_size) part.now) (λ part. WasRead bytes layout c.args.s part.now) c.part.result
    (λ part count given. lent_given bytes layout c.args.s first size part.now c.in_ok-first.ensures.some count given)
    c.part.ensures.count (rw (c.from.ensures, c.from-2.ensures, b) at c.part.ensures.given)
