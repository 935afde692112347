-- How the depths of a table are kept as records come.
use Rattle.std.proofs.Common.{◌≡◌, ◌≤◌, ◌<◌, ◌^◌, ℕ, List, [], ◌∷◌, ◌++◌, length, drop, get_or, sym, subst, arith}
use Rattle.cv_leaves.specs.References.{references}
use Rattle.type_trees.specs.Tree.{IsTreeAt, IsRanked}
use Rattle.type_trees.specs.Depth.{depth_above, KnowsDepths, HasDepths, AreBelow}
use Rattle.type_table.specs.Merge.{StartsWith}
use Rattle.type_trees.specs.Table.{IsTable}
use Rattle.type_trees.proofs.DepthLaws.{depths_more, bounded_more}
use Rattle.type_table.proofs.AddLaws.{starts_whole, stands_within}

-- no depths are the depths of the first none
pub knows_none : (r : List (List ℕ)) → KnowsDepths r []
knows_none r = record { are = λ i t inside stands. absurd (omega (arith, inside)); low = λ k inside. absurd (omega (arith, inside)) }

-- the next depth is known too
pub knows_more : (r : List (List ℕ)) (depths : List ℕ) (d : ℕ) → KnowsDepths r depths → IsRanked r (λ k. k) → length depths < length r
    → d ≡ depth_above (λ k. get_or depths k 0) (references (get_or r (length depths) [])) → d ≤ length depths → KnowsDepths r (depths ++ d ∷ [])
knows_more r depths d known ranked below is low = record { are = depths_more r depths d known.are ranked below is; low = bounded_more depths d known.low low }

-- the depths of a table stay right when more records come after it
pub knows_still : (before after : List (List ℕ)) (depths : List ℕ) → IsTable before → StartsWith after before → HasDepths before depths → KnowsDepths after depths
knows_still before after depths table front has = record {
  are = λ i t inside stands. has.known.are i t inside (stands_within before (drop (length before) after) i t table.lower (omega (arith, inside, has.many)) (subst (λ (x : List (List ℕ)). IsTreeAt x i t) (sym (starts_whole before after front)) stands));
  low = has.known.low;
}

-- the depths of few records are small
pub depths_below : (r : List (List ℕ)) (depths : List ℕ) → KnowsDepths r depths → length depths ≤ length r → length r < 2 ^ 31 → AreBelow (2 ^ 31) depths
depths_below r depths known within few = λ k inside. omega (arith, known.low k inside, inside, within, few)
