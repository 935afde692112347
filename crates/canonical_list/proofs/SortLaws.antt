-- Rows that are sorted by 8 bytes at a time are in the order of their bytes.
use Rattle.std.proofs.Common.{◌≡◌, ◌≢◌, ℕ, ◌+◌, ◌-◌, ◌*◌, ◌^◌, ◌<◌, ◌≤◌, Bool, false, List, [], ◌∷◌, ◌++◌, length, map, take, drop, set, get_or, replicate, refl, sym, ap, ◌∙◌, subst, arith, inl, inr}
use Rattle.std.proofs.lemmas.Bool.{cases_lt}
use Rattle.std.proofs.lemmas.Fn.{always_returns_same}
use Rattle.std.proofs.lemmas.Cmp.{nat_list_cmp_total}
use Rattle.std.proofs.lemmas.List.{drop-drop, drop-map, get_or_append_left, get_or_default, get_or-append_right, get_or-drop, get_or-map, get_or-take, length-map, length-take-le, map-append, map-set, set-get_or, take-map}
use Rattle.std.proofs.lemmas.List.Elements.{All-contains, All-head, All-map, All-tail, Contains-get_or}
use Rattle.std.proofs.lemmas.List.Sorted.{All-permutation, Contains-permutation, IsPermutation-map, IsPermutation-put_mid, IsPermutation-refl, IsPermutation-sym, IsPermutation-trans, length_permutation, ranks_by}
use Rattle.std.specs.Cmp.Lexicographic.{slice_cmp}
use Rattle.std.specs.List.{All}
use Rattle.std.specs.List.Sorted.{IsSortedBy, IsPermutation, IsNonDecreasingBy}
use Rattle.std.specs.Ordering.{nat_cmp, is_lt, ordering_reverse}
use Rattle.std.specs.Cmp.{IsStrictWeakOrder}
use Rattle.std.specs.Fn.{Called, ComparesAs}
use denote.Ref.{Bor}
use denote.Param.Members.{Mut}
use Rattle.std.specs.declared.cmp.Ordering.{Ordering}
use Rattle.std.specs.declared.cmp.Ordering.TheVariants.{Less, Equal, Greater}
use borrow.Rule.Slice.PartMut.{put_mid, mid_of, mid_len, put_same, drop_put}
use Rattle.byte_fields.specs.Bytes.{AreBytes}
use Rattle.canonical_list.specs.declared.row.Row.{Row}
use Rattle.canonical_list.specs.Rows.{first_bytes, HasHead, HaveHeads, IsStretch, AreAlike, AreInOrder, positions, row_bytes}
use Rattle.canonical_list.proofs.HeadLaws.{first_bytes-less, first_bytes-next, none_left}

-- ---- Rows by their numbers

pub bytes_by_positions : (r : List (List ℕ)) (ps : List Row) → map (λ k. get_or r k []) (positions ps) ≡ row_bytes r ps
bytes_by_positions r [] = refl
bytes_by_positions r (p ∷ ps) = ap (λ (x : List (List ℕ)). get_or r p.position [] ∷ x) (bytes_by_positions r ps)

-- the same rows in another order have the same bytes in another order
bytes_moved : (r : List (List ℕ)) (ps qs : List Row) → IsPermutation (positions ps) (positions qs) → IsPermutation (row_bytes r ps) (row_bytes r qs)
bytes_moved r ps qs moved = rw (← bytes_by_positions r ps, ← bytes_by_positions r qs) (IsPermutation-map (λ k. get_or r k []) (positions ps) (positions qs) moved)

-- what holds of the numbers of all rows holds in another order
pub positions_moved : (P : ℕ → Type 0) (ps qs : List Row) → IsPermutation (positions ps) (positions qs) → All (λ p. P p.position) ps → All (λ p. P p.position) qs
positions_moved P ps qs moved all k d inside =
    let there : All P (positions ps) = All-map P (λ p. p.position) ps all in
    let here : All P (positions qs) = All-permutation P (positions ps) (positions qs) moved there in
    let at : get_or (positions qs) k d.position ≡ (get_or qs k d).position = get_or-map (λ p. p.position) qs k d d.position inside in
    subst P at (here k d.position (omega (arith, inside, length-map qs (λ p. p.position))))

alike_moved : (from : ℕ) (r : List (List ℕ)) (ps qs : List Row) → IsPermutation (positions ps) (positions qs) → AreAlike from (row_bytes r ps) → AreAlike from (row_bytes r qs)
alike_moved from r ps qs moved alike x y in_x in_y =
    let back : IsPermutation (row_bytes r qs) (row_bytes r ps) = IsPermutation-sym (row_bytes r ps) (row_bytes r qs) (bytes_moved r ps qs moved) in
    alike x y (Contains-permutation (row_bytes r qs) (row_bytes r ps) x back in_x) (Contains-permutation (row_bytes r qs) (row_bytes r ps) y back in_y)

-- no bytes are the same in all rows
pub alike_at_first : (xs : List (List ℕ)) → AreAlike 0 xs
alike_at_first xs x y in_x in_y = none_left x ∙ sym (none_left y)

many_moved : (ps qs : List Row) → IsPermutation (positions ps) (positions qs) → length qs ≡ length ps
many_moved ps qs moved = sym (length-map qs (λ p. p.position)) ∙ length_permutation (positions ps) (positions qs) moved ∙ length-map ps (λ p. p.position)

-- a row at a place is written anew, and is still the same row
pub positions_kept : (ps : List Row) (k : ℕ) (p d : Row) → k < length ps → p.position ≡ (get_or ps k d).position → positions (set ps k p) ≡ positions ps
positions_kept ps k p d inside same =
    let at : p.position ≡ get_or (positions ps) k 0 = same ∙ sym (get_or-map (λ p. p.position) ps k d 0 inside) in
    map-set (λ p. p.position) ps k p ∙ ap (λ (n : ℕ). set (positions ps) k n) at ∙ set-get_or (positions ps) k 0

-- ---- What the sorts of std give

-- if one order is greater, the other way round it is less
flip : (p q : Ordering) → p ≡ ordering_reverse q → p ≡ Greater → q ≡ Less
flip p Less is greater = refl
flip p Equal is greater = absurd cc
flip p Greater is greater = absurd cc

not_greater : (x y : List ℕ) → is_lt (slice_cmp nat_cmp y x) ≡ false → slice_cmp nat_cmp x y ≢ Greater
not_greater x y above greater =
    let back : slice_cmp nat_cmp y x ≡ Less = flip (slice_cmp nat_cmp x y) (slice_cmp nat_cmp y x) (nat_list_cmp_total.antisymm x y) greater in
    let e : is_lt Less ≡ false = rw back at above in
    absurd cc

-- whether row p comes before row q in the order of their bytes
abbrev is_before : List (List ℕ) → Row → Row → Bool
is_before r p q = is_lt (slice_cmp nat_cmp (get_or r p.position []) (get_or r q.position []))

rows_in_order : (r : List (List ℕ)) (ps : List Row) → IsSortedBy (is_before r) ps → AreInOrder (row_bytes r ps)
rows_in_order r ps sorted k inside =
    let d : Row = record { head = 0; position = 0 } in
    let bytes : Row → List ℕ = λ p. get_or r p.position [] in
    let next : k + 1 < length ps = omega (arith, inside, length-map ps bytes) in
    let here : k < length ps = omega (arith, next) in
    rw (get_or-map bytes ps k d [] here, get_or-map bytes ps (k + 1) d [] next) (not_greater (bytes (get_or ps k d)) (bytes (get_or ps (k + 1) d)) (sorted k d (omega arith) next))

-- from the clause `sorted` of `sort_unstable_by`, where each call compares the bytes of two rows
pub in_order-from_sort_by : {F : Type 0} {g : Mut F (Bor Row × (Bor Row × Unit {0})) Ordering} {f : F} (r : List (List ℕ)) (ps : List Row)
    → ((lt : Row → Row → Bool) → IsStrictWeakOrder lt → ComparesAs g lt f → IsSortedBy lt ps)
    → ((a : Bor Row × (Bor Row × Unit {0})) (o : Ordering) (f' : F) → Called g f a o f' → (o ≡ slice_cmp nat_cmp (get_or r a.0.now.position []) (get_or r a.1.0.now.position [])) × (f' ≡ f))
    → AreInOrder (row_bytes r ps)
in_order-from_sort_by {g = g} {f = f} r ps sorted h =
    rows_in_order r ps (sorted (is_before r) (ranks_by nat_list_cmp_total (λ p. get_or r p.position []))
    (always_returns_same g (λ a o. is_lt o ≡ is_before r a.0.now a.1.0.now) f (λ a o f' k. (ap is_lt (h a o f' k).0, (h a o f' k).1))))

-- ---- Rows by 8 of their bytes

-- rows that are the same in their first `from` bytes rise by the 8 bytes after these
pub record AreRising (from : ℕ) (r : List (List ℕ)) (ps : List Row) : Type 0 where
  pub alike : AreAlike from (row_bytes r ps)
  pub heads : HaveHeads from r ps
  pub rising : IsNonDecreasingBy (λ p. p.head) ps

-- rows that are the same in their first bytes, and that were sorted by their heads after these
pub rows_rise : (from : ℕ) (r : List (List ℕ)) (before ps : List Row) → IsPermutation before ps → AreAlike from (row_bytes r before) → HaveHeads from r before
    → IsNonDecreasingBy (λ p. p.head) ps → AreRising from r ps
rows_rise from r before ps moved alike heads rising =
    let moved_positions : IsPermutation (positions before) (positions ps) = IsPermutation-map (λ p. p.position) before ps moved in
    record {
      alike = alike_moved from r before ps moved_positions alike;
      heads = All-permutation (λ p. HasHead from p.head (get_or r p.position [])) before ps moved heads;
      rising = rising;
    }

-- the number of the first n bytes of a row
abbrev pub lead : ℕ → List (List ℕ) → Row → ℕ
lead n r p = first_bytes n (get_or r p.position [])

-- the first bytes, then the head
lead_is : (from : ℕ) (r : List (List ℕ)) (ps : List Row) (k : ℕ) (d : Row) → HaveHeads from r ps → k < length ps
    → lead (from + 8) r (get_or ps k d) ≡ lead from r (get_or ps k d) * 256 ^ 8 + (get_or ps k d).head
lead_is from r ps k d heads inside = let this = heads k d inside in omega (arith, first_bytes-next from (get_or r (get_or ps k d).position []), this.is_head)

-- all rows have the same first bytes
same_start : (from : ℕ) (r : List (List ℕ)) (ps : List Row) (i j : ℕ) (d : Row) → AreAlike from (row_bytes r ps) → i < length ps → j < length ps → lead from r (get_or ps i d) ≡ lead from r (get_or ps j d)
same_start from r ps i j d alike i_in j_in =
    let long : length (row_bytes r ps) ≡ length ps = length-map ps (λ p. get_or r p.position []) in
    let a : get_or (row_bytes r ps) i [] ≡ get_or r (get_or ps i d).position [] = get_or-map (λ p. get_or r p.position []) ps i d [] i_in in
    let b : get_or (row_bytes r ps) j [] ≡ get_or r (get_or ps j d).position [] = get_or-map (λ p. get_or r p.position []) ps j d [] j_in in
    ap (first_bytes from) (sym a)
    ∙ alike (get_or (row_bytes r ps) i []) (get_or (row_bytes r ps) j []) (Contains-get_or (row_bytes r ps) i [] (omega (arith, i_in, long))) (Contains-get_or (row_bytes r ps) j [] (omega (arith, j_in, long)))
    ∙ ap (first_bytes from) b

-- the rows of a stretch are the same in 8 more bytes
stretch_alike : (from : ℕ) (r : List (List ℕ)) (ps : List Row) (start end k : ℕ) (d : Row) → AreAlike from (row_bytes r ps) → HaveHeads from r ps → IsStretch ps start end → start ≤ k → k < end
    → lead (from + 8) r (get_or ps k d) ≡ lead (from + 8) r (get_or ps start d)
stretch_alike from r ps start end k d alike heads stretch low high =
    let inside : k < length ps = omega (arith, high, stretch.within) in
    let first : start < length ps = omega (arith, stretch.after, stretch.within) in
    omega (arith, lead_is from r ps k d heads inside, lead_is from r ps start d heads first, same_start from r ps k start d alike inside first, stretch.tied k d low high)

-- rows whose first bytes make one number
alike_by_lead : (n w : ℕ) (r : List (List ℕ)) (ps : List Row) → All (λ p. lead n r p ≡ w) ps → AreAlike n (row_bytes r ps)
alike_by_lead n w r ps one x y in_x in_y =
    let all : All (λ x. first_bytes n x ≡ w) (row_bytes r ps) = All-map (λ x. first_bytes n x ≡ w) (λ p. get_or r p.position []) ps one in
    All-contains (λ x. first_bytes n x ≡ w) (row_bytes r ps) x all in_x ∙ sym (All-contains (λ x. first_bytes n x ≡ w) (row_bytes r ps) y all in_y)

-- rows that have one head are the same in 8 more bytes
pub alike_more : (from : ℕ) (r : List (List ℕ)) (ps : List Row) → AreAlike from (row_bytes r ps) → HaveHeads from r ps → IsStretch ps 0 (length ps) → AreAlike (from + 8) (row_bytes r ps)
alike_more from r ps alike heads stretch =
    let d : Row = record { head = 0; position = 0 } in
    let w : ℕ = lead (from + 8) r (get_or ps 0 d) in
    alike_by_lead (from + 8) w r ps (λ k e inside.
    let first : get_or ps 0 e ≡ get_or ps 0 d = get_or_default ps 0 e d stretch.after in
    stretch_alike from r ps 0 (length ps) k e alike heads stretch (omega arith) inside ∙ ap (lead (from + 8) r) first)

-- the same rows have the same bytes
pub alike_still : (from : ℕ) (r : List (List ℕ)) (ps qs : List Row) → positions qs ≡ positions ps → AreAlike from (row_bytes r ps) → AreAlike from (row_bytes r qs)
alike_still from r ps qs same alike = alike_moved from r ps qs (rw same (IsPermutation-refl (positions ps))) alike

-- after a stretch the next row is higher in these bytes
stretch_below : (from : ℕ) (r : List (List ℕ)) (ps : List Row) (start end : ℕ) (d : Row) → AreRising from r ps → IsStretch ps start end → end < length ps
    → lead (from + 8) r (get_or ps (end - 1) d) < lead (from + 8) r (get_or ps end d)
stretch_below from r ps start end d h stretch inside =
    let before : end - 1 < length ps = omega (arith, inside) in
    let low : start ≤ end - 1 = omega (arith, stretch.after) in
    let high : end - 1 < end = omega (arith, stretch.after) in
    let tied = stretch.tied (end - 1) d low high in
    let rises = h.rising (end - 1) end d (omega arith) inside in
    let apart : (get_or ps (end - 1) d).head ≢ (get_or ps end d).head = λ e. stretch.last d inside (sym e ∙ tied) in
    omega (arith, lead_is from r ps (end - 1) d h.heads before, lead_is from r ps end d h.heads inside, same_start from r ps (end - 1) end d h.alike before inside, rises, apart)

-- ---- Stretch by stretch

-- the rows before `start` are in the order of their bytes, those from there on stand as they did, and each is as high in its first n bytes as the one that stood there
pub record IsSorting (n : ℕ) (r : List (List ℕ)) (before : List Row) (start : ℕ) (ps : List Row) : Type 0 where
  pub moved : IsPermutation (positions before) (positions ps)
  pub rest : drop start ps ≡ drop start before
  pub leads : map (lead n r) ps ≡ map (lead n r) before
  pub sorted : (k : ℕ) → k + 1 < start → slice_cmp nat_cmp (get_or (row_bytes r ps) k []) (get_or (row_bytes r ps) (k + 1) []) ≢ Greater
  pub seam : (d : Row) → 0 < start → start < length before → lead n r (get_or before (start - 1) d) < lead n r (get_or before start d)

map_put : {X : Type 0} (f : Row → X) (a m : ℕ) (ps qs : List Row) → map f (put_mid a m ps qs) ≡ put_mid a m (map f ps) (map f qs)
map_put f a m ps qs =
    map-append f (take a ps) (qs ++ drop m (drop a ps))
    ∙ rw (take-map f a ps, map-append f qs (drop m (drop a ps)), drop-map f a ps, drop-map f m (drop a ps)) refl

map_mid : {X : Type 0} (f : Row → X) (a m : ℕ) (ps : List Row) → map f (mid_of a m ps) ≡ mid_of a m (map f ps)
map_mid f a m ps = rw (drop-map f a ps, take-map f m (drop a ps)) refl

-- rows are moved if those of a stretch are
pub put_moved : (a m : ℕ) (ps qs : List Row) → IsPermutation (positions (mid_of a m ps)) (positions qs) → IsPermutation (positions ps) (positions (put_mid a m ps qs))
put_moved a m ps qs moved = rw (map_put (λ p. p.position) a m ps qs) (IsPermutation-put_mid a m (positions ps) (positions qs) (rw (← map_mid (λ p. p.position) a m ps) moved))

before_put : {X : Type 0} (a m k : ℕ) (xs ys : List X) (d : X) → k < a → a ≤ length xs → get_or (put_mid a m xs ys) k d ≡ get_or xs k d
before_put a m k xs ys d low inside =
    let in_front : k < length (take a xs) = omega (arith, low, length-take-le a xs inside) in
    get_or_append_left (take a xs) (ys ++ drop m (drop a xs)) d k in_front ∙ get_or-take a xs k d low

within_put : {X : Type 0} (a m k : ℕ) (xs ys : List X) (d : X) → k < length ys → a ≤ length xs → get_or (put_mid a m xs ys) (a + k) d ≡ get_or ys k d
within_put a m k xs ys d low inside =
    get_or-append_right (take a xs) (ys ++ drop m (drop a xs)) a (a + k) d (length-take-le a xs inside) (omega arith)
    ∙ ap (λ (i : ℕ). get_or (ys ++ drop m (drop a xs)) i d) (omega arith) ∙ get_or_append_left ys (drop m (drop a xs)) d k low

all_one : (f : Row → ℕ) (w : ℕ) (ps : List Row) → All (λ p. f p ≡ w) ps → map f ps ≡ replicate (length ps) w
all_one f w [] all = refl
all_one f w (p ∷ ps) all =
    let first : f p ≡ w = All-head (λ p. f p ≡ w) p ps all in
    let others : map f ps ≡ replicate (length ps) w = all_one f w ps (All-tail (λ p. f p ≡ w) p ps all) in
    rw (first, others) refl

-- rows that stand as they did are in the same stretches
same_stretch : (before ps : List Row) (start end : ℕ) → drop start ps ≡ drop start before → length ps ≡ length before → IsStretch ps start end → IsStretch before start end
same_stretch before ps start end rest many h =
    let at : (k : ℕ) (d : Row) → start ≤ k → get_or ps k d ≡ get_or before k d = λ k d low.
    let far : start + (k - start) ≡ k = omega (arith, low) in
    ap (λ (i : ℕ). get_or ps i d) (sym far) ∙ sym (get_or-drop start ps (k - start) d) ∙ ap (λ (x : List Row). get_or x (k - start) d) rest ∙ get_or-drop start before (k - start) d ∙ ap (λ (i : ℕ). get_or before i d) far in
    record {
      after = h.after;
      within = omega (arith, h.within, many);
      tied = λ k d low high. rw (← at k d low, ← at start d (omega arith)) (h.tied k d low high);
      last = λ d inside tied. h.last d (omega (arith, inside, many)) (rw (at end d (omega (arith, h.after)), at start d (omega arith)) tied);
    }

later : (start end : ℕ) (xs ys : List Row) → start ≤ end → drop start xs ≡ drop start ys → drop end xs ≡ drop end ys
later start end xs ys le same =
    let far : start + (end - start) ≡ end = omega (arith, le) in
    ap (λ (k : ℕ). drop k xs) (sym far) ∙ sym (drop-drop (end - start) start xs) ∙ ap (drop (end - start)) same ∙ drop-drop (end - start) start ys ∙ ap (λ (k : ℕ). drop k ys) far

-- the rows of a stretch are among all rows, and are the same in 8 more bytes
one_lead : (from : ℕ) (r : List (List ℕ)) (before ps : List Row) (start end : ℕ) (d : Row) → AreRising from r before → IsSorting (from + 8) r before start ps → IsStretch ps start end
    → All (λ p. lead (from + 8) r p ≡ lead (from + 8) r (get_or before start d)) (mid_of start (end - start) ps)
one_lead from r before ps start end d rising h stretch k e inside =
    let n : ℕ = from + 8 in
    let many : length ps ≡ length before = many_moved before ps h.moved in
    let there : IsStretch before start end = same_stretch before ps start end h.rest many stretch in
    let low : k < end - start = omega (arith, inside, mid_len start end ps stretch.within) in
    let at : get_or (mid_of start (end - start) ps) k e ≡ get_or before (start + k) e =
    get_or-take (end - start) (drop start ps) k e low ∙ ap (λ (x : List Row). get_or x k e) h.rest ∙ get_or-drop start before k e in
    let first : get_or before start e ≡ get_or before start d = get_or_default before start e d (omega (arith, stretch.after, stretch.within, many)) in
    ap (lead n r) at ∙ stretch_alike from r before start end (start + k) e rising.alike rising.heads there (omega arith) (omega (arith, low)) ∙ ap (lead n r) first

pub stretch_alike_in : (from : ℕ) (r : List (List ℕ)) (before ps : List Row) (start end : ℕ) → AreRising from r before → IsSorting (from + 8) r before start ps → IsStretch ps start end
    → AreAlike (from + 8) (row_bytes r (mid_of start (end - start) ps))
stretch_alike_in from r before ps start end rising h stretch =
    let n : ℕ = from + 8 in
    let d : Row = record { head = 0; position = 0 } in
    alike_by_lead n (lead n r (get_or before start d)) r (mid_of start (end - start) ps) (one_lead from r before ps start end d rising h stretch)

-- the rows of the stretch are put into the order of their bytes
pub sorting_more : (from : ℕ) (r : List (List ℕ)) (before ps qs : List Row) (start end : ℕ) → AreRising from r before → IsSorting (from + 8) r before start ps → IsStretch ps start end
    → IsPermutation (positions (mid_of start (end - start) ps)) (positions qs) → AreInOrder (row_bytes r qs) → IsSorting (from + 8) r before end (put_mid start (end - start) ps qs)
sorting_more from r before ps qs start end rising h stretch moved sorted =
    let n : ℕ = from + 8 in
    let m : ℕ = end - start in
    let d : Row = record { head = 0; position = 0 } in
    let mid : List Row = mid_of start m ps in
    let after : List Row = put_mid start m ps qs in
    let bytes : Row → List ℕ = λ p. get_or r p.position [] in
    let many : length ps ≡ length before = many_moved before ps h.moved in
    let there : IsStretch before start end = same_stretch before ps start end h.rest many stretch in
    let long : length qs ≡ m = many_moved mid qs moved ∙ mid_len start end ps stretch.within in
    let all_moved : IsPermutation (positions before) (positions after) = IsPermutation-trans (positions before) (positions ps) (positions after) h.moved (put_moved start m ps qs moved) in
    let w : ℕ = lead n r (get_or before start d) in
    let one : All (λ p. lead n r p ≡ w) mid = one_lead from r before ps start end d rising h stretch in
    let one_still : All (λ p. lead n r p ≡ w) qs = positions_moved (λ k. first_bytes n (get_or r k []) ≡ w) mid qs moved one in
    let same_leads : map (lead n r) qs ≡ map (lead n r) mid =
    all_one (lead n r) w qs one_still ∙ ap (λ (k : ℕ). replicate k w) (many_moved mid qs moved) ∙ sym (all_one (lead n r) w mid one) in
    let leads : map (lead n r) after ≡ map (lead n r) before =
    map_put (lead n r) start m ps qs ∙ ap (put_mid start m (map (lead n r) ps)) (same_leads ∙ map_mid (lead n r) start m ps) ∙ put_same start m (map (lead n r) ps) ∙ h.leads in
    let texts : List (List ℕ) = row_bytes r after in
    let texts_are : texts ≡ put_mid start m (row_bytes r ps) (row_bytes r qs) = map_put bytes start m ps qs in
    let long_texts : length (row_bytes r qs) ≡ m = length-map qs bytes ∙ long in
    let inside : start ≤ length (row_bytes r ps) = omega (arith, stretch.after, stretch.within, length-map ps bytes) in
    let old : (k : ℕ) → k < start → get_or texts k [] ≡ get_or (row_bytes r ps) k [] = λ k low.
    ap (λ (x : List (List ℕ)). get_or x k []) texts_are ∙ before_put start m k (row_bytes r ps) (row_bytes r qs) [] low inside in
    let new : (k : ℕ) → k < m → get_or texts (start + k) [] ≡ get_or (row_bytes r qs) k [] = λ k low.
    ap (λ (x : List (List ℕ)). get_or x (start + k) []) texts_are ∙ within_put start m k (row_bytes r ps) (row_bytes r qs) [] (omega (arith, low, long_texts)) inside in
    let after_many : length after ≡ length before = many_moved before after all_moved in
    let lead_at : (k : ℕ) → k < length before → first_bytes n (get_or texts k []) ≡ lead n r (get_or before k d) = λ k low.
    ap (first_bytes n) (get_or-map bytes after k d [] (omega (arith, low, after_many)))
    ∙ sym (get_or-map (lead n r) after k d 0 (omega (arith, low, after_many))) ∙ ap (λ (x : List ℕ). get_or x k 0) leads ∙ get_or-map (lead n r) before k d 0 low in
    let all_bytes : All AreBytes texts = All-permutation AreBytes (row_bytes r before) texts (bytes_moved r before after all_moved)
    (All-map AreBytes bytes before (λ k e low. (rising.heads k e low).bytes)) in
    record {
      moved = all_moved;
      rest = drop_put start end ps qs (omega (arith, stretch.after)) stretch.within long ∙ later start end ps before (omega (arith, stretch.after)) h.rest;
      leads = leads;
      sorted = λ k low. elim (cases_lt (k + 1) start) [
        | inl done ↦ rw (old k (omega (arith, done)), old (k + 1) done) (h.sorted k done)
        | inr next ↦ elim (cases_lt k start) [
          | inl last ↦
              let here : k + 1 ≡ start = omega (arith, next, last) in
              let first_in : start < length before = omega (arith, stretch.after, stretch.within, many) in
              let rises = h.seam d (omega (arith, last)) first_in in
              let low_is : k ≡ start - 1 = omega (arith, here) in
              let row_lead : ℕ → ℕ = λ i. lead n r (get_or before i d) in
              let below : first_bytes n (get_or texts k []) < first_bytes n (get_or texts (k + 1) []) = omega (arith, lead_at k (omega (arith, first_in, last)), lead_at (k + 1) (omega (arith, here, first_in)), ap row_lead low_is, ap row_lead here, rises) in
              let less : slice_cmp nat_cmp (get_or texts k []) (get_or texts (k + 1) []) ≡ Less = first_bytes-less n (get_or texts k []) (get_or texts (k + 1) []) (all_bytes (k + 1) [] (omega (arith, here, first_in, after_many, length-map after bytes))) below in
              λ greater. absurd (cc (less, greater))
          | inr later_on ↦
              let j : ℕ = k - start in
              let at : get_or texts k [] ≡ get_or (row_bytes r qs) j [] = ap (λ (i : ℕ). get_or texts i []) (omega (arith, later_on)) ∙ new j (omega (arith, low, later_on)) in
              let at_next : get_or texts (k + 1) [] ≡ get_or (row_bytes r qs) (j + 1) [] = ap (λ (i : ℕ). get_or texts i []) (omega (arith, later_on)) ∙ new (j + 1) (omega (arith, low, later_on)) in
              rw (at, at_next) (sorted j (omega (arith, low, later_on, long_texts)))
        ]
      ];
      seam = λ e some low. stretch_below from r before start end e rising there low;
    }
