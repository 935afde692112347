use Rattle.std.proofs.Common.{◌≡◌, ℕ, ◌+◌, ◌*◌, ◌/◌, ◌%◌, nat_eq, true, arith}
use Rattle.std.proofs.lemmas.Bool.Decides.{nat_tests}
use Rattle.std.proofs.lemmas.List.FromFn.{fill_by_all}
use Rattle.msf_blocks.specs.FreeMap.{map_byte, map_block}
use Rattle.msf_blocks.proofs.free_map.fill_map_block.Goals as goal

pub returns : goal.returns
unfolding map_block
returns c =
    let b = c.args.block_size in
    let k = c.args.k in
    let here : nat_eq (k % b) 1 ≡ true = grind (arith, nat_tests, c.if-k-block_size-ne1.false) in
    rw here (fill_by_all (λ (i : ℕ). map_byte c.args.num_blocks (8 * (b * (k / b) + i))) c.loop-i.map_block b 0 c.loop-i.invariant.0
    (λ j lt. c.loop-i.invariant.1 j (omega (arith, lt, c.loop-i-test.false, c.loop-i.invariant.0))))
