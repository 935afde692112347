-- The depth of a record, place by place, while its references are checked.
use Rattle.std.proofs.Common.{◌≡◌, ◌≤◌, ◌<◌, ◌+◌, ◌-◌, ◌^◌, ℕ, suc, max, List, [], ◌∷◌, ◌++◌, Option, Some, None, map, length, take, drop, replicate, get_or, refl, ◌∙◌, sym, ap, arith}
use Rattle.std.specs.Prelude.{IfSome, Bool, true, false}
use Rattle.std.specs.List.{AllByRecursion, range_with_len}
use Rattle.std.proofs.lemmas.List.{append-nil, drop_all, drop_more, take_all}
use Rattle.byte_fields.specs.Check.{first_failing}
use Rattle.tpi_records.specs.Records.{IsRecord}
use Rattle.topological_order.specs.Order.{IsOrder}
use Rattle.cv_leaves.specs.References.{reference_at, references}
use Rattle.tpi_records.specs.Header.{first_index}
use Rattle.type_trees.specs.Tree.{IsRanked}
use Rattle.checked_types.specs.Graph.{graph_of}
use Rattle.type_trees.specs.Types.{NamesThere}
use Rattle.checked_types.specs.Check.{checks_of}
use Rattle.type_trees.specs.Depth.{height, depth_above, AreBelow}
use Rattle.type_trees.proofs.DepthLaws.{above_step}
use Rattle.checked_types.proofs.CheckLaws.{LowerFrom, lower_ranked, passed_checked}
use Rattle.checked_types.proofs.OrderLaws.{stand_in_order}
use Rattle.checked_types.specs.Measured.{AreMeasured, StoresDepth}
use Rattle.checked_types.proofs.MeasureLaws.{IsMeasuring, measuring_starts, measuring_more, measuring_small, all_measured, below_set}

-- what holds of a value that implies something else, where there is a value
pub if_some : {X : Type 0} {P Q : X → Type 0} (o : Option X) → ((x : X) → P x → Q x) → IfSome o P → IfSome o Q
if_some None f has = tt
if_some (Some x) f has = f x has

-- with the references at these places left, d is the depth of the record so far
pub record IsDeep (position : ℕ) (depths r left : List ℕ) (d : ℕ) : Type 0 where
  pub lower : NamesThere position (map (reference_at r) left) → NamesThere position (references r)
  pub deep : max d (depth_above (λ k. get_or depths k 0) (map (reference_at r) left)) ≡ depth_above (λ k. get_or depths k 0) (references r)
  pub low : (bound : ℕ) → AreBelow bound depths → d ≤ bound

-- d is the greater of the depth before and the height of this reference, which is below the end
abbrev pub IsDeeper : ℕ → List ℕ → Option ℕ → ℕ → ℕ → Type 0
IsDeeper end depths before to d =
    (b : ℕ) × (before ≡ Some b) × (to < end) × (d ≡ max b (height (λ k. get_or depths k 0) to)) × ((bound : ℕ) → AreBelow bound depths → b ≤ bound → d ≤ bound)

-- one reference more
pub deep_more : (position end : ℕ) (depths r left others : List ℕ) (place : ℕ) (before now : Option ℕ) → left ≡ place ∷ others → end ≤ first_index + position
    → IfSome before (IsDeep position depths r left) → IfSome now (IsDeeper end depths before (reference_at r place)) → IfSome now (IsDeep position depths r others)
deep_more position end depths r left others place before None split within so_far step = tt
deep_more position end depths r left others place before (Some d) split within so_far (b, is, lt, deeper, low) =
    let f = λ (k : ℕ). get_or depths k 0 in
    let here : IsDeep position depths r left b = rw is at so_far in
    record {
      lower = λ rest. here.lower (rw split (omega (arith, lt, within), rest));
      deep = above_step r f b _ place _ left others here.deep split deeper;
      low = λ bound below. low bound below (here.low bound below);
    }

-- a list that is written over another of its length is itself
pub written_back : (old now : List ℕ) (len : ℕ) → length now ≡ length old → len ≡ length old → take len (now ++ drop (length now) old) ≡ now
written_back old now len same all =
    let none : drop (length now) old ≡ [] = drop_all (length now) old (omega (arith, same)) in
    ap (λ (xs : List ℕ). take len (now ++ xs)) none ∙ ap (take len) (append-nil now) ∙ take_all len now (omega (arith, same, all))

-- ---- all records

-- with the records `left` from a position on, the depths of the records before them are known
pub record IsWalked (records : List (List ℕ)) (position : ℕ) (left : List (List ℕ)) (first depths : List ℕ) : Type 0 where
  pub lower : LowerFrom position left → LowerFrom 0 records
  pub measured : first ≡ replicate (length records) 0 → IsOrder (graph_of records) (range_with_len 0 (length records))
      → IsMeasuring records (range_with_len 0 (length records)) (range_with_len position (length records - position)) depths

-- before the first record
pub walk_starts : (records : List (List ℕ)) (first : List ℕ) → IsWalked records 0 records first first
walk_starts records first =
    let all : length records - 0 ≡ length records = omega arith in
    record {
      lower = λ lower. lower;
      measured = λ zeros order. rw all (measuring_starts records (range_with_len 0 (length records)) first (length records) refl zeros);
    }

-- after the next record the others are left
pub next_left : (records : List (List ℕ)) (position : ℕ) (r : List ℕ) (left others : List (List ℕ)) → left ≡ r ∷ others → left ≡ drop position records → position < length records → others ≡ drop (position + 1) records
next_left records position r left others split at inside =
    let cut : get_or records position [] ∷ drop (position + 1) records ≡ r ∷ others = sym (drop_more records position [] inside) ∙ sym at ∙ split in
    cc

-- one record more
pub walk_more : (records : List (List ℕ)) (position d : ℕ) (r : List ℕ) (left others : List (List ℕ)) (first depths now : List ℕ) → left ≡ r ∷ others → left ≡ drop position records → position < length records
    → IsWalked records position left first depths → NamesThere position (references r) → d ≡ depth_above (λ k. get_or depths k 0) (references r) → ((bound : ℕ) → AreBelow bound depths → d ≤ bound)
    → StoresDepth depths now position d → IsWalked records (position + 1) others first now
walk_more records position d r left others first depths now split at inside so_far names deep low stores =
    let cut : get_or records position [] ∷ drop (position + 1) records ≡ r ∷ others = sym (drop_more records position [] inside) ∙ sym at ∙ split in
    let own : get_or records position [] ≡ r = cc in
    let one : length records - position ≡ suc (length records - (position + 1)) = omega (arith, inside) in
    let range : range_with_len position (length records - position) ≡ position ∷ range_with_len (position + 1) (length records - (position + 1)) = rw one refl in
    record {
      lower = λ rest. so_far.lower (rw split (names, rest));
      measured = λ zeros order.
          rw stores.stored
          (measuring_more records (range_with_len 0 (length records)) (range_with_len position (length records - position)) (range_with_len (position + 1) (length records - (position + 1)))
          depths position d order (so_far.measured zeros order) range (rw own deep) low);
    }

-- the depths stay low
pub low_more : (position : ℕ) (depths now : List ℕ) (depth : Option ℕ) (kept : Bool) → AreBelow (position + 1) depths → IfSome depth (λ d. (bound : ℕ) → AreBelow bound depths → d ≤ bound)
    → (kept ≡ true → (d : ℕ) × (depth ≡ Some d) × StoresDepth depths now position d) → (kept ≡ false → now ≡ depths) → AreBelow (position + 1 + 1) now
low_more position depths now depth false low bound stores same = λ k lt. let e = same refl in rw e (let below : k < length depths = rw e at lt in omega (arith, low k below))
low_more position depths now depth true low bound stores same =
    let s = stores refl in
    let is_low : (end : ℕ) → AreBelow end depths → s.0 ≤ end = rw s.1 at bound in
    rw s.2.stored (below_set (position + 1) depths position s.0 s.2.inside low (is_low (position + 1) low))

-- after the last record
pub walk_ends : (records left : List (List ℕ)) (position : ℕ) (first depths : List ℕ) → left ≡ [] → IsWalked records position left first depths → IsRanked records (λ i. i)
walk_ends records left position first depths none walked = lower_ranked records (walked.lower (rw none tt))

pub walk_measured : (records left : List (List ℕ)) (position : ℕ) (first depths : List ℕ) → AllByRecursion IsRecord records → first_failing (checks_of records) ≡ None → left ≡ [] → position ≡ length records → length records ≤ 2 ^ 30
    → IsWalked records position left first depths → first ≡ replicate (length records) 0 → AreMeasured records (range_with_len 0 (length records)) depths
walk_measured records left position first depths framed held none end few walked zeros =
    let ranked = walk_ends records left position first depths none walked in
    let order = stand_in_order records ranked in
    let m = walked.measured zeros order in
    let over : length records - position ≡ 0 = omega (arith, end) in
    record {
      types = record { framed = framed; checked = passed_checked records framed held; ranked = ((λ i. i), ranked) };
      ordered = order;
      many = m.many;
      measured = all_measured records (range_with_len 0 (length records)) (range_with_len position (length records - position)) depths order m (rw over refl);
      low = let small = measuring_small records (range_with_len 0 (length records)) (range_with_len position (length records - position)) depths order m in λ k lt. omega (arith, small k lt, few);
    }
