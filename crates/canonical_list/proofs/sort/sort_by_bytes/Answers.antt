use Rattle.std.proofs.Common.{rules}
use Rattle.std.proofs.lemmas.List.Sorted.{IsPermutation-map}
use Rattle.canonical_list.proofs.SortLaws.{in_order-from_sort_by}
use Rattle.canonical_list.proofs.sort.sort_by_bytes.Goals as goal

pub returns-clause-moved : goal.returns-clause-moved
returns-clause-moved g c = IsPermutation-map (λ p. p.position) c.args.run.now c.sort_unstable_by.new.self c.sort_unstable_by.ensures.permutation

pub returns-clause-sorted : goal.returns-clause-sorted
returns-clause-sorted g c = in_order-from_sort_by c.args.rows.now _ c.sort_unstable_by.ensures.sorted (λ a o f k. search rules)
