use Rattle.std.proofs.Common.{◌≡◌, [], ◌∷◌, ◌≤◌, ◌+◌, get_or, length, arith, rules, length-append}
use Rattle.cv_leaves.specs.References.{references}
use Rattle.type_trees.specs.Depth.{depth_above}
use Rattle.type_table.proofs.AddLaws.{starts_same, starts_more}
use Rattle.checked_types.proofs.CheckLaws.{names_lower}
use Rattle.type_table.proofs.KeptLaws.{knows_more, depths_below}
use Rattle.type_table.proofs.table_depths.measure_new.Goals as goal

pub loop-position-init : goal.loop-position-init
loop-position-init g c = record {
  many = search rules;
  known = c.requires.known;
  front = starts_same c.args.depths.now.items;
}

pub depth_of-depth-requires-clause-checked : goal.depth_of-depth-requires-clause-checked
depth_of-depth-requires-clause-checked g c =
    let k = c.loop-position.position in
    let below : k + 1 ≤ length c.args.table.now = search rules in
    rw c.get.ensures (c.requires.table.good.checked k (omega (arith, below)))

pub depth_of-depth-requires-clause-bounded : goal.depth_of-depth-requires-clause-bounded
depth_of-depth-requires-clause-bounded g c =
    let below : c.loop-position.position + 1 ≤ length c.args.table.now = search rules in
    let so_far = c.loop-position.invariant in
    rw c.deref.ensures.value (depths_below c.args.table.now c.loop-position.depths.items so_far.known (omega (arith, so_far.many, below)) c.requires.few)

pub depth_of-depth-requires-clause-there : goal.depth_of-depth-requires-clause-there
depth_of-depth-requires-clause-there g c =
    let all = c.args.table.now in
    let k = c.loop-position.position in
    let below : k + 1 ≤ length all = search rules in
    rw (c.get.ensures, c.deref.ensures.value, c.loop-position.invariant.many) (names_lower all k (references (get_or all k [])) (c.requires.table.lower k (omega (arith, below))))

pub loop-position-preserved : goal.loop-position-preserved
loop-position-preserved g c =
    let all = c.args.table.now in
    let so_far = c.loop-position.invariant in
    let depths = c.loop-position.depths.items in
    let d = c.depth_of-depth.result in
    let at : c.loop-position.position + 1 ≤ length all = search rules in
    let below : length depths + 1 ≤ length all = omega (arith, at, so_far.many) in
    let is : d ≡ depth_above (λ k. get_or depths k 0) (references (get_or all (length depths) [])) = rw (so_far.many) (rw (c.get.ensures, c.deref.ensures.value) at c.depth_of-depth.ensures.value) in
    let low : d ≤ length depths = (rw c.deref.ensures.value at c.depth_of-depth.ensures.bound) (length depths) (λ k lt. omega (arith, lt, so_far.known.low k lt)) in
    let pushed = c.in_ok-push.ensures.items in
    record {
      many = rw pushed (omega (arith, length-append depths (d ∷ []), so_far.many));
      known = rw pushed (knows_more all depths d so_far.known c.requires.table.lower (omega (arith, below)) is low);
      front = rw pushed (starts_more c.args.depths.now.items depths d so_far.front);
    }
