use Rattle.std.proofs.Common.{arith, sym, ◌∙◌, ◌<◌, ◌*◌, ◌≡◌, length}
use Rattle.std.proofs.lemmas.Result.{err_from_is_err_and}
use Rattle.byte_fields.proofs.NumberLaws.{number_at-small}
use Rattle.byte_fields.proofs.CheckLaws.{checks_below-more, checks_below-stop}
use Rattle.pdb_info.specs.Names.{pair_checks, present_of, present_buckets, size_of, size_offset}
use Rattle.pdb_info.proofs.BucketLaws.{kth_bucket, kth_below, count_more, count_same, present_length, map_counted, all_counted}
use Rattle.pdb_info.proofs.map.NameMap.check_pairs.Goals as goal
use Rattle.pdb_info.proofs.map.NameMap.check_pairs.Goals.{then-is_present+in_ok-check_pair, else-is_present}

pub check_pair-requires-clause-bucket : goal.check_pair-requires-clause-bucket
check_pair-requires-clause-bucket c =
    let stream = c.args.stream.now in
    let below : c.loop-bucket.bucket < 32 * length (present_of stream) = omega (arith, c.loop-bucket-test.true, c.requires.map.u32s_are, present_length stream) in
    kth_bucket (present_of stream) c.loop-bucket.bucket c.loop-bucket.k (sym c.is_present.ensures ∙ c.if-is_present.true) below c.loop-bucket.invariant.counted

pub returns-in_err-check_pair-clause-first : goal.returns-in_err-check_pair-clause-first
returns-in_err-check_pair-clause-first c =
    let stream = c.args.stream.now in
    let p = err_from_is_err_and c.from_residual.result c.from_residual.ensures.1 in
    let k = c.loop-bucket.k in
    let below : c.loop-bucket.bucket < 32 * length (present_of stream) = omega (arith, c.loop-bucket-test.true, c.requires.map.u32s_are, present_length stream) in
    let more : k < length (present_buckets (present_of stream)) = kth_below (present_of stream) c.loop-bucket.bucket k (sym c.is_present.ensures ∙ c.if-is_present.true) below c.loop-bucket.invariant.counted in
    let within : k < size_of stream = omega (arith, more, map_counted stream c.args.self.now (λ i. omega (arith, c.type_inv.stream i)) c.requires.map) in
    rw (p.1, p.2) (checks_below-stop (pair_checks stream) k (size_of stream) _ c.loop-bucket.invariant.held c.in_err-check_pair.ensures.first within)

pub overflow_add-k : goal.overflow_add-k
overflow_add-k c =
    let stream = c.args.stream.now in
    let k = c.loop-bucket.k in
    let below : c.loop-bucket.bucket < 32 * length (present_of stream) = omega (arith, c.loop-bucket-test.true, c.requires.map.u32s_are, present_length stream) in
    let more : k < length (present_buckets (present_of stream)) = kth_below (present_of stream) c.loop-bucket.bucket k (sym c.is_present.ensures ∙ c.if-is_present.true) below c.loop-bucket.invariant.counted in
    omega (arith, more, map_counted stream c.args.self.now (λ i. omega (arith, c.type_inv.stream i)) c.requires.map, number_at-small stream (size_offset stream) (λ i. omega (arith, c.type_inv.stream i)))

pub loop-bucket-preserved : goal.loop-bucket-preserved
loop-bucket-preserved c =
    let stream = c.args.stream.now in
    let present = present_of stream in
    let bucket = c.loop-bucket.bucket in
    let k = c.loop-bucket.k in
    let so_far = c.loop-bucket.invariant in
    elim c.if-is_present.branch [
      | then-is_present+in_ok-check_pair w ↦
          rw w.k-is
          (record {
            counted = count_more present bucket k (sym c.is_present.ensures ∙ w.if-is_present.true) so_far.counted;
            inside = omega (arith, w.in_ok-check_pair.ensures.inside);
            held = checks_below-more (pair_checks stream) k so_far.held w.in_ok-check_pair.ensures.first;
          })
      | else-is_present w ↦
          rw w.k-is
          (record {
            counted = count_same present bucket k (sym c.is_present.ensures ∙ w.if-is_present.false) so_far.counted;
            inside = so_far.inside;
            held = so_far.held;
          })
    ]

pub returns-clause-inside : goal.returns-clause-inside
returns-clause-inside c =
    let stream = c.args.stream.now in
    let end : c.loop-bucket.bucket ≡ 32 * length (present_of stream) = omega (arith, c.loop-bucket-test.false, c.requires.map.u32s_are, present_length stream) in
    let all : c.loop-bucket.k ≡ length (present_buckets (present_of stream)) = all_counted (present_of stream) c.loop-bucket.bucket c.loop-bucket.k end c.loop-bucket.invariant.counted in
    omega (arith, all, c.loop-bucket.invariant.inside, map_counted stream c.args.self.now (λ i. omega (arith, c.type_inv.stream i)) c.requires.map)

pub returns-clause-first : goal.returns-clause-first
returns-clause-first c =
    let stream = c.args.stream.now in
    let end : c.loop-bucket.bucket ≡ 32 * length (present_of stream) = omega (arith, c.loop-bucket-test.false, c.requires.map.u32s_are, present_length stream) in
    let all : c.loop-bucket.k ≡ length (present_buckets (present_of stream)) = all_counted (present_of stream) c.loop-bucket.bucket c.loop-bucket.k end c.loop-bucket.invariant.counted in
    let is : size_of stream ≡ c.loop-bucket.k = omega (arith, all, map_counted stream c.args.self.now (λ i. omega (arith, c.type_inv.stream i)) c.requires.map) in
    rw is c.loop-bucket.invariant.held
