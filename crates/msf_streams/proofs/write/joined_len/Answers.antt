use Rattle.std.proofs.Common.{Bor, List, ℕ, [], arith, ◌+◌, ◌≡◌, length, ap, ◌∙◌}
use Rattle.std.proofs.lemmas.List.{take_all}
use Rattle.msf_streams.specs.Image.{joined}
use Rattle.msf_streams.proofs.PutLaws.{length_more, length_all}
use Rattle.msf_streams.proofs.write.joined_len.Goals as goal

-- a placeholder for a position where there is no part
abbrev no_part : Bor (List ℕ)
no_part = record { ref_ptr = (0, 0); now = [] }

pub returns-in_err-size_of-clause-none : goal.returns-in_err-size_of-clause-none
returns-in_err-size_of-clause-none c =
    let i = c.loop-part.part-index in
    rw c.from_residual.ensures (omega (arith, c.in_err-size_of.ensures.none, length_more c.args.parts.now i no_part c.loop-part-test.true, length_all c.args.parts.now (i + 1)))

pub returns-in_err-len-clause-none : goal.returns-in_err-len-clause-none
returns-in_err-len-clause-none c =
    let i = c.loop-part.part-index in
    rw c.from_residual-in_err-len.ensures (omega (arith, c.in_err-len.ensures, c.in_ok-size_of.ensures.some, c.loop-part.invariant.0, length_more c.args.parts.now i no_part c.loop-part-test.true, length_all c.args.parts.now (i + 1)))

pub loop-part-preserved : goal.loop-part-preserved
loop-part-preserved c =
    let i = c.loop-part.part-index in
    let sum = c.in_ok-len.ensures in
    (omega (arith, c.in_ok-size_of.ensures.some, c.loop-part.invariant.0, length_more c.args.parts.now i no_part c.loop-part-test.true, sum), omega (arith, sum))

pub returns-clause-some : goal.returns-clause-some
returns-clause-some c =
    let all : c.loop-part.len ≡ length (joined c.args.parts.now) = c.loop-part.invariant.0 ∙ ap (λ (ps : List (Bor (List ℕ))). length (joined ps)) (take_all c.loop-part.part-index c.args.parts.now c.loop-part-test.false) in
    (all, omega (arith, all, c.loop-part.invariant.1))
