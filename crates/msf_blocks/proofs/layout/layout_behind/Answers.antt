use Rattle.std.proofs.Common.{◌≡◌, Some, ◌∙◌, inl, inr, map}
use Rattle.std.proofs.lemmas.Result.{err_from_is_err_and}
use Rattle.byte_fields.specs.Check.{Refuses, checks_below, first_failing}
use Rattle.byte_fields.proofs.CheckLaws.{first_failing-append_some}
use Rattle.byte_io.proofs.AtLaws.{of_more}
use Rattle.msf_blocks.specs.Directory.{ListsStreams, directory_checks, length_checks, stream_checks}
use Rattle.msf_blocks.specs.Layout.{TextsRefuse}
use Rattle.msf_superblock.specs.declared.fault.MsfFault.{MsfFault}
use Rattle.msf_superblock.specs.declared.fault.MsfFault.TheVariants.{Memory}
use Rattle.msf_blocks.specs.Stream.{listed_of}
use Rattle.msf_blocks.proofs.LayoutLaws.{directory_answer}
use Rattle.msf_blocks.proofs.ListsLaws.{lists_are_read, layout_fits_at}
use Rattle.msf_blocks.proofs.GivenLaws.{directory_refuses}
use Rattle.msf_blocks.proofs.layout.layout_behind.Given.{Over}
use Rattle.msf_blocks.proofs.layout.layout_behind.Goals.{After-gathered-directory, In_ok-streams, In_ok-streams-2}
use Rattle.msf_blocks.proofs.layout.layout_behind.Goals as goal

-- what is refused of the contents is refused of what reads gave
behind : (g : Over) (c : After-gathered-directory g) (inner : MsfFault) → Refuses Memory (first_failing (directory_checks c.args.superblock c.in_ok-contents.contents.items)) inner → TextsRefuse (g.R.ReadAt.bytes c.args.input.now) inner
behind g c inner is =
    inr (c.args.superblock, c.requires.front, directory_refuses (g.R.ReadAt.bytes c.args.input.now) c.args.superblock c.in_ok-contents.contents.items inner c.requires.fit.block_size_fits c.in_ok-contents.ensures.texts is)

-- once the length of the directory is checked, the lists of its streams are
left_to_check : (g : Over) (c : In_ok-streams g) → first_failing (directory_checks c.args.superblock c.in_ok-contents.contents.items) ≡ first_failing (checks_below c.in_ok-streams.streams (stream_checks c.args.superblock c.in_ok-contents.contents.items))
left_to_check g c =
    let is = c.gathered-directory.ensures.contents ∙ c.deref.ensures.value in
    let l = c.in_ok-streams.ensures in
    directory_answer c.args.superblock c.in_ok-contents.contents.items c.in_ok-streams.streams (rw (c.gathered-directory.ensures.superblock, is) at l.first) (rw is at l.streams)

-- the streams that were read are those that the contents list
are_listed : (g : Over) (c : In_ok-streams-2 g) → ListsStreams c.args.superblock c.in_ok-contents.contents.items (map listed_of c.in_ok-streams-2.streams.items)
are_listed g c =
    let d = c.gathered-directory.ensures in
    let is = d.contents ∙ c.deref.ensures.value in
    let l = c.in_ok-streams.ensures in
    lists_are_read c.args.superblock c.in_ok-contents.contents.items c.in_ok-streams.streams (map listed_of c.in_ok-streams-2.streams.items) (rw c.deref.ensures.value at d.small) (rw is at l.streams) (rw (d.superblock, is) at l.room)
    (rw (d.superblock, is) at c.in_ok-check_streams.ensures) (rw (d.superblock, is) at c.in_ok-streams-2.ensures.value)

pub invariant_of-result : goal.invariant_of-result
invariant_of-result g c =
    let d = c.gathered-directory.ensures in
    let is = d.contents ∙ c.deref.ensures.value in
    layout_fits_at c.args.superblock c.in_ok-contents.contents.items c.in_ok-streams.streams (map listed_of c.in_ok-streams-2.streams.items) c.requires.fit.block_size_fits (rw c.deref.ensures.value at d.small) (rw is at c.in_ok-streams.ensures.streams)
    (rw (d.superblock, is) at c.in_ok-streams-2.ensures.value) (are_listed g (goal.at.invariant_of-result g c).In_ok-streams-2)

pub returns-clause-texts : goal.returns-clause-texts
returns-clause-texts g c = record {
  front = c.requires.front;
  contents = c.in_ok-contents.contents.items;
  directory = c.in_ok-contents.ensures.texts;
  lists = are_listed g (goal.at.returns-clause-texts g c).In_ok-streams-2;
}

pub returns-in_err-streams-clause-refused : goal.returns-in_err-streams-clause-refused
returns-in_err-streams-clause-refused g c =
    let d = c.gathered-directory.ensures in
    let inner = c.in_err-streams.field-0.0 in
    let p = err_from_is_err_and c.from_residual-in_err-streams.result c.from_residual-in_err-streams.ensures.1 in
    let first : first_failing (directory_checks c.args.superblock c.in_ok-contents.contents.items) ≡ Some inner =
    first_failing-append_some (length_checks c.args.superblock.block_size c.in_ok-contents.contents.items) _ inner (rw (d.superblock, d.contents ∙ c.deref.ensures.value) at c.in_err-streams.ensures.first) in
    rw (p.1, p.2) (behind g (goal.at.returns-in_err-streams-clause-refused g c).After-gathered-directory inner (inl first))

pub returns-in_err-check_streams-clause-refused : goal.returns-in_err-check_streams-clause-refused
returns-in_err-check_streams-clause-refused g c =
    let at = goal.at.returns-in_err-check_streams-clause-refused g c in
    let d = c.gathered-directory.ensures in
    let p = err_from_is_err_and c.from_residual-in_err-check_streams.result c.from_residual-in_err-check_streams.ensures.1 in
    let first = left_to_check g at.In_ok-streams ∙ rw (d.superblock, d.contents ∙ c.deref.ensures.value) at c.in_err-check_streams.ensures in
    rw (p.1, p.2) (behind g at.After-gathered-directory c.in_err-check_streams.field-0.0 (inl first))

pub returns-in_err-streams-2-clause-refused : goal.returns-in_err-streams-2-clause-refused
returns-in_err-streams-2-clause-refused g c =
    let at = goal.at.returns-in_err-streams-2-clause-refused g c in
    let d = c.gathered-directory.ensures in
    let p = err_from_is_err_and c.from_residual-in_err-streams-2.result c.from_residual-in_err-streams-2.ensures.1 in
    let none = left_to_check g at.In_ok-streams ∙ rw (d.superblock, d.contents ∙ c.deref.ensures.value) at c.in_ok-check_streams.ensures in
    rw (p.1, p.2) (behind g at.After-gathered-directory c.in_err-streams-2.field-0.0 (inr (c.in_err-streams-2.ensures.memory, none)))

pub returns-in_err-contents-clause-refused : goal.returns-in_err-contents-clause-refused
returns-in_err-contents-clause-refused g c =
    let s = c.requires in
    let superblock = c.args.superblock in
    let p = err_from_is_err_and c.from_residual.result c.from_residual.ensures.1 in
    rw (p.1, p.2) (of_more _ _ c.in_err-contents.field-0.0 (λ inner is. inr (superblock, s.front, is)) (c.in_err-contents.ensures.refused))
