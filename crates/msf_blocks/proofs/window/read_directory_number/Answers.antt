use Rattle.std.proofs.Common.{arith}
use Rattle.msf_blocks.specs.Window.{IsWindow, Shows, shown}
use Rattle.msf_blocks.proofs.WindowLaws.{part_number, window_lies}
use Rattle.msf_blocks.proofs.window.read_directory_number.Given.{Over}
use Rattle.msf_blocks.proofs.window.read_directory_number.Goals as goal
use Rattle.msf_blocks.proofs.window.read_directory_number.Goals.{then-not-shows+in_ok-open, else-not-shows}

-- in either branch the window is one of this directory, and shows the number
abbrev is-window : (g : Over) (c : goal.After-number g) → IsWindow (g.R.ReadAt.bytes c.args.input.now) c.args.superblock.now c.if-not-shows.window × Shows c.if-not-shows.window c.args.position
is-window g c = elim c.if-not-shows.branch [
  | then-not-shows+in_ok-open w ↦ rw w.window-is (w.in_ok-open.ensures.window, w.in_ok-open.ensures.shows)
  | else-not-shows w ↦ rw w.window-is (c.requires.window, c.shows.ensures w.if-not-shows.false)
]

pub returns-clause-given : goal.returns-clause-given
returns-clause-given g c =
    let is = is-window g c in
    let window = c.if-not-shows.window in
    let part = is.0.part (omega (arith, is.1.from, is.1.upto)) in
    part_number (g.R.ReadAt.bytes c.args.input.now) c.args.superblock.now window.first c.args.position c.number.result (shown window) part (window_lies window c.args.position c.number.ensures.whole is.1) c.requires.there
    (omega (arith, c.number.type_inv)) c.number.ensures.bytes
