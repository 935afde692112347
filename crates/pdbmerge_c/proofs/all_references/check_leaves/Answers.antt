use Rattle.std.proofs.Common.{◌≡◌, ◌++◌, ◌∷◌, [], arith, length, rules}
use Rattle.std.proofs.lemmas.List.{length-append}
use Rattle.tpi_records.specs.Records.{records_in}
use Rattle.tpi_records.proofs.CutLaws.{none_in}
use Rattle.pdbmerge_c.proofs.ReferenceLaws.{checked_more, front_all, front_more}
use Rattle.pdbmerge_c.proofs.all_references.check_leaves.Goals as goal

pub loop-left-preserved : goal.loop-left-preserved
loop-left-preserved c =
    let so_far = c.loop-left.invariant in
    let first = c.split_record.result.0.now in
    let split = c.split_record.ensures in
    record {
      front = so_far.front ++ first ∷ [];
      parts = front_more so_far.front (records_in c.loop-left.left.now) (records_in c.args.bytes.now) first (records_in c.split_record.result.1.now) so_far.parts split.records;
      checked = checked_more so_far.front first so_far.checked c.in_ok-check_leaf.ensures.value;
      index_is = omega (arith, so_far.index_is, length-append so_far.front (first ∷ []));
      few = omega (arith, so_far.few, split.shorter, length-append so_far.front (first ∷ []));
      framed = split.framed;
    }

pub returns-clause-value : goal.returns-clause-value
returns-clause-value c =
    let so_far = c.loop-left.invariant in
    let left = c.loop-left.left.now in
    let empty : length left ≡ 0 = search rules in
    rw (front_all so_far.front (records_in left) (records_in c.args.bytes.now) so_far.parts (none_in left empty)) at so_far.checked
