use Rattle.std.proofs.Common.{◌≡◌, ◌<◌, ◌≤◌, Bor, List, ℕ, [], ap, arith, get_or, length}
use Rattle.std.proofs.lemmas.List.{length-set, take_all}
use Rattle.msf_streams.specs.Write.{with_texts}
use Rattle.msf_streams.proofs.FrontLaws.{size_pushed, sizes_are, short_pushed}
use Rattle.msf_streams.proofs.PutLaws.{contents_at, contents_many}
use Rattle.msf_streams.proofs.write.sizes_of.Goals as goal

-- a placeholder for a position where there is no stream
abbrev no_stream : Bor (List (Bor (List ℕ)))
no_stream = record { ref_ptr = (0, 0); now = [] }

pub loop-s-preserved : goal.loop-s-preserved
loop-s-preserved g c =
    let size = c.in_ok-sizes.field-0 in
    let s = c.loop-s.s in
    let streams = c.args.streams.now in
    let texts = c.args.texts.now in
    let xs = with_texts streams texts in
    let inside : s < length streams = omega (arith, c.told-streams) in
    let in_xs : s < length xs = omega (arith, inside, contents_many streams texts) in
    let at = ap length (contents_at streams texts c.args.none.now s no_stream c.texts_after.result.now c.requires inside c.texts_after.ensures.here c.texts_after.ensures.elsewhere) in
    let is : size ≡ length (get_or xs s []) = omega (arith, at, c.in_ok-sizes.ensures.some.0) in
    record {
      many = omega (arith, length-set c.loop-s.sizes s size);
      sizes = size_pushed length c.loop-s.sizes xs s size [] c.loop-s.invariant.sizes (omega arith) in_xs is;
      short = short_pushed length xs s size [] c.loop-s.invariant.short in_xs is (omega (arith, c.in_ok-sizes.ensures.some.0, c.in_ok-sizes.ensures.some.1));
    }

pub returns-clause-some : goal.returns-clause-some
returns-clause-some g c =
    let xs = with_texts c.args.streams.now c.args.texts.now in
    sizes_are length c.loop-s.sizes xs c.loop-s.s c.loop-s.invariant.sizes (omega arith) (omega (arith, c.told-streams, contents_many c.args.streams.now c.args.texts.now))

pub returns-clause-short : goal.returns-clause-short
returns-clause-short g c =
    let xs = with_texts c.args.streams.now c.args.texts.now in
    let all : length xs ≤ c.loop-s.s = omega (arith, c.told-streams, contents_many c.args.streams.now c.args.texts.now) in
    rw (take_all c.loop-s.s xs all) at c.loop-s.invariant.short

pub returns-in_err-sizes-clause-none : goal.returns-in_err-sizes-clause-none
returns-in_err-sizes-clause-none g c =
    let s = c.loop-s.s in
    let streams = c.args.streams.now in
    let texts = c.args.texts.now in
    let inside : s < length streams = omega (arith, c.told-streams) in
    let at = ap length (contents_at streams texts c.args.none.now s no_stream c.texts_after.result.now c.requires inside c.texts_after.ensures.here c.texts_after.ensures.elsewhere) in
    rw c.from_residual.ensures (λ short. let here = short s [] (omega (arith, inside, contents_many streams texts)) in omega (arith, here, at, c.in_err-sizes.ensures.none))
