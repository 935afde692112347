use Rattle.std.proofs.Common.{arith, ◌≡◌, ◌∙◌, ◌+◌, ◌-◌, ◌*◌, ◌<◌, ℕ, List, sym, refl, min, length, take}
use Rattle.std.proofs.lemmas.List.{length-take, take_all}
use Rattle.std.proofs.lemmas.Nat.{le-div}
use Rattle.msf_superblock.specs.BlockNumber.{blocks_for}
use Rattle.msf_superblock.proofs.SizeLaws.{size_facts, some_bytes, few_for}
use Rattle.msf_blocks.proofs.BlocksLaws.{run_facts, run_inside, all_bytes}
use Rattle.msf_blocks.proofs.GivenLaws.{none_given, given_run}
use Rattle.msf_blocks.proofs.blocks.read_runs.Goals as goal

pub loop-position-init : goal.loop-position-init
loop-position-init g c =
    let zero : min (0 * c.args.block_size) c.args.size ≡ 0 = omega arith in
    record {
      keeps = refl;
      upto = omega arith;
      len = c.requires.room;
      given = none_given (g.R.ReadAt.bytes c.args.input.now) c.args.block_size c.args.blocks.now _ (rw zero refl);
    }

pub run_len-run-requires-clause-some : goal.run_len-run-requires-clause-some
run_len-run-requires-clause-some g c =
    let facts = size_facts c.args.block_size c.requires.size in
    omega (arith, le-div 1 1073741824 c.args.block_size (some_bytes c.args.block_size c.requires.size) (omega (arith, facts.most)))

pub read_over-requires-clause-inside : goal.read_over-requires-clause-inside
read_over-requires-clause-inside g c = λ file known.
    let position = c.loop-position.position in
    let b = c.args.block_size in
    let size = c.args.size in
    let run = c.run_len-run.result in
    let blocks = c.args.blocks.now in
    let i = c.loop-position.invariant in
    let n : c.min-count.result ≡ min (size - position * b) (run * b) = c.min-count.ensures in
    let inside = run_inside file blocks b position run c.min-count.result (c.requires.inside file (sym i.keeps ∙ known)) c.run_len-run.ensures.some c.run_len-run.ensures.inside c.run_len-run.ensures.side (omega (arith, n)) in
    rw (c.from.ensures, c.from-in-loop-position.ensures) inside

pub overflow_add-position : goal.overflow_add-position
overflow_add-position g c =
    let position = c.loop-position.position in
    let b = c.args.block_size in
    let size = c.args.size in
    let run = c.run_len-run.result in
    let below : position < blocks_for b size = omega (arith, c.requires.count, c.loop-position-test.true) in
    let facts = run_facts b size position run c.requires.size below c.run_len-run.ensures.most in
    let few = few_for b size c.requires.size (omega (arith, c.ranges.size.fits)) in
    omega (arith, few, c.requires.count, c.run_len-run.ensures.inside)

pub loop-position-preserved : goal.loop-position-preserved
loop-position-preserved g c =
    let position = c.loop-position.position in
    let b = c.args.block_size in
    let size = c.args.size in
    let run = c.run_len-run.result in
    let blocks = c.args.blocks.now in
    let bytes = g.R.ReadAt.bytes c.args.input.now in
    let i = c.loop-position.invariant in
    let more = c.in_ok-read_over.ensures in
    let below : position < blocks_for b size = omega (arith, c.requires.count, c.loop-position-test.true) in
    let facts = run_facts b size position run c.requires.size below c.run_len-run.ensures.most in
    let count = c.min-count.result in
    let n : count ≡ min (size - position * b) (run * b) = c.min-count.ensures in
    let front : min (position * b) size ≡ position * b = omega (arith, facts.low) in
    let back : min ((position + run) * b) size ≡ position * b + count = omega (arith, facts.more, facts.low, n) in
    let before : List ℕ = take (position * b) c.loop-position.buffer in
    let after : List ℕ = take (position * b + count) c.read_over.new.buffer in
    let long_before : length before ≡ min (position * b) size = omega (arith, length-take (position * b) c.loop-position.buffer, i.len, front) in
    let long_after : length after ≡ position * b + count = omega (arith, length-take (position * b + count) c.read_over.new.buffer, more.same, i.len, n, facts.low) in
    record {
      keeps = more.reads.keeps ∙ i.keeps;
      upto = c.run_len-run.ensures.inside;
      len = more.same ∙ i.len;
      given = rw back (given_run bytes b size blocks position run before after (some_bytes b c.requires.size) facts c.run_len-run.ensures.side long_before (omega (arith, long_before, long_after, front, n)) (rw front at i.given) (rw (c.from.ensures, c.from-in-loop-position.ensures, i.keeps) at more.given));
    }

pub returns-clause-given : goal.returns-clause-given
returns-clause-given g c =
    let i = c.loop-position.invariant in
    let all = all_bytes c.args.block_size c.args.size c.loop-position.position c.requires.size (omega (arith, i.upto, c.loop-position-test.false, c.requires.count)) in
    rw (← take_all c.args.size c.loop-position.buffer (omega (arith, i.len)), ← all) i.given
