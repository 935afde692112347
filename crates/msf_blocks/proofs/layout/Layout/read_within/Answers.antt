use Rattle.std.proofs.Common.{◌≤◌, ◌∙◌, arith}
use Rattle.msf_blocks.proofs.AtLayoutLaws.{of_within, short_directory, within_superblock}
use Rattle.msf_blocks.proofs.KnownLayoutLaws.{layout_known, fault_known}
use Rattle.msf_blocks.proofs.layout.Layout.read_within.Goals as goal

pub returns-in-Err-clause-first : goal.returns-in-Err-clause-first
returns-in-Err-clause-first g c =
    of_within _ _ c.in-Err.fault c.widen.result c.widen.ensures (λ inner first file known. within_superblock c.args.limit file inner (first file known)) c.in-Err.ensures.first

pub returns-in-Ok-layout_behind-clause-value : goal.returns-in-Ok-layout_behind-clause-value
returns-in-Ok-layout_behind-clause-value g c = λ file known. layout_known file _ (rw (c.read_at.ensures.reads.keeps ∙ known) at c.in-Ok-layout_behind.ensures.texts)

pub returns-in-Err-layout_behind-clause-first : goal.returns-in-Err-layout_behind-clause-first
returns-in-Err-layout_behind-clause-first g c =
    let s = c.in-Ok.ensures in
    let short : c.in-Ok.superblock.directory_bytes ≤ c.args.limit = omega (arith, c.if-limit-directory_bytes.false, c.directory_bytes.ensures.value) in
    of_within _ _ c.in-Err-layout_behind.fault c.widen-in-Err-layout_behind.result c.widen-in-Err-layout_behind.ensures (λ inner refused file known. (short_directory c.args.limit file c.in-Ok.superblock (s.value file known) short, fault_known file inner (rw (s.reads.keeps ∙ known) at refused)))
    c.in-Err-layout_behind.ensures.refused

pub returns-in-Err-layout_behind-clause-refused : goal.returns-in-Err-layout_behind-clause-refused
returns-in-Err-layout_behind-clause-refused g c =
    of_within _ _ c.in-Err-layout_behind.fault c.widen-in-Err-layout_behind.result c.widen-in-Err-layout_behind.ensures (λ inner refused. rw c.read_at.ensures.reads.keeps at refused) c.in-Err-layout_behind.ensures.refused
