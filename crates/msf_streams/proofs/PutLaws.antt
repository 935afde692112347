-- What a sink took of the data with its map blocks, and what is still to be written.
use Rattle.std.proofs.Common.{◌≡◌, Bor, ℕ, ◌+◌, ◌-◌, ◌*◌, ◌/◌, ◌%◌, ◌<◌, ◌≤◌, ◌≢◌, ◌^◌, min, set, List, [], ◌∷◌, ◌++◌, Option, length, map, take, drop, get_or, refl, sym, ap, ◌∙◌, arith, append_assoc, inl, inr}
use Rattle.std.specs.List.{concat, flat_map}
use Rattle.std.proofs.lemmas.Grind.{flat_map-append}
use Rattle.std.specs.Prelude.{Result, Ok, Err, OnOk, OnErr}
use Rattle.std.specs.Io.KnownBytes.{Appends}
use Rattle.std.proofs.KnownBytes.{Appends-nil, Appends-trans}
use Rattle.std.proofs.Math.Seq.{take-append-add}
use Rattle.std.proofs.lemmas.Nat.{div-add-mod', mod_below, mul-le}
use Rattle.std.proofs.lemmas.Bool.{cases_eq, cases_lt}
use Rattle.std.proofs.lemmas.List.{append-nil, length-append, length-take, length-drop, take-append-drop, take_rest, take-append-le, drop_more, take_more, drop_all, get_or-map, get_or-set_same, get_or-set_other, length-map, length-set, set-get_or}
use Rattle.msf_superblock.specs.BlockNumber.{IsBlockSize, blocks_for}
use Rattle.msf_superblock.proofs.SizeLaws.{size_facts, some_bytes, big_enough, next_row, ceil_is}
use Rattle.msf_streams.specs.Image.{joined, joined_of, padded, superblock_part, block_map_part, directory_part, parts, image, image_blocks, data_count}
use Rattle.msf_streams.specs.Put.{WriterView, IsSameImage, maps_before, woven, woven_from, room, AppendsPart, IsImageFront}
use Rattle.msf_blocks.proofs.RangeLaws.{next_block, first_block}
use Rattle.msf_streams.proofs.ImageLaws.{length_parts}
use Rattle.msf_streams.proofs.BackLaws.{all_blocks, bounds}
use Rattle.msf_streams.proofs.WovenLaws.{woven_parts, some_room, woven_run, some_stretch, image_woven}
use Rattle.msf_streams.specs.Write.{with_texts}
use lib.ListN.{replicate}

-- a sink took the first of all these bytes; the others are the rest of the data, from the position of the writer on, with its map blocks
pub record Halfway (old now : Option (List ℕ)) (writer : WriterView) (all left : List ℕ) : Type 0 where
  pub taken : List ℕ
  pub split : all ≡ taken ++ woven_from writer left
  pub appends : Appends old now taken

-- ---- what a sink took

-- a write failed within the first of two lists of bytes
pub part_first : (old new : Option (List ℕ)) (front back : List ℕ) → AppendsPart old new front → AppendsPart old new (front ++ back)
part_first old new front back h =
    let same : take h.0 (front ++ back) ≡ take h.0 front = take-append-le h.0 front back (omega (arith, h.1)) in
    (h.0, omega (arith, h.1, length-append front back), rw same h.2)

-- a write failed within the second of two lists of bytes
pub part_second : (old between new : Option (List ℕ)) (front back : List ℕ) → Appends old between front → AppendsPart between new back → AppendsPart old new (front ++ back)
part_second old between new front back first h =
    let all : Appends old new (front ++ take h.0 back) = Appends-trans old between new front (take h.0 back) first h.2 in
    let same : take (length front + h.0) (front ++ back) ≡ front ++ take h.0 back = take-append-add front back h.0 in
    (length front + h.0, omega (arith, h.1, length-append front back), rw same all)

-- if P implies Q, then P at an error implies Q at an error
pub on_err : {A E : Type 0} (P Q : Type 0) (r : Result A E) → (P → Q) → OnErr r P → OnErr r Q
on_err P Q (Ok value) carry h = h
on_err P Q (Err fault) carry h = carry h

-- if P implies Q, then P at a success implies Q at a success
pub on_ok : {A E : Type 0} (P Q : Type 0) (r : Result A E) → (P → Q) → OnOk r P → OnOk r Q
on_ok P Q (Ok value) carry h = carry h
on_ok P Q (Err fault) carry h = h

-- a fact that always holds also holds at an error
pub at_err : {A E : Type 0} (P : Type 0) (r : Result A E) → P → OnErr r P
at_err P (Ok value) h = tt
at_err P (Err fault) h = h

-- ---- one run after the other

woven_first : (b n p : ℕ) (bytes : List ℕ) → 0 < length bytes → (rest : List ℕ) × (woven b n p bytes ≡ maps_before b n p ++ rest)
unfolding woven
woven_first b n p [] more = absurd (omega arith)
woven_first b n p (byte ∷ bytes) more = (byte ∷ woven b n (p + 1) bytes, refl)

-- the map blocks before some bytes were not all taken
pub fails_before : (old new : Option (List ℕ)) (b n p : ℕ) (bytes : List ℕ) → 0 < length bytes → AppendsPart old new (maps_before b n p) → AppendsPart old new (woven b n p bytes)
fails_before old new b n p bytes more h =
    let first = woven_first b n p bytes more in
    rw first.1 (part_first old new (maps_before b n p) first.0 h)

-- the first run of some bytes, with the map blocks before it
run_of : (b n p count : ℕ) (bytes : List ℕ) → 3 < b → 0 < length bytes → count ≡ min (room b p) (length bytes) → woven b n p (take count bytes) ≡ maps_before b n p ++ take count bytes
run_of b n p count bytes big more is =
    let some = some_room b p (some_stretch b big) in
    woven_run b n p (take count bytes) (omega arith) (some_stretch b big) (omega (arith, length-take count bytes, some)) (omega (arith, length-take count bytes))

split_run : (b n p count : ℕ) (bytes : List ℕ) → woven b n p bytes ≡ woven b n p (take count bytes) ++ woven b n (p + length (take count bytes)) (drop count bytes)
split_run b n p count bytes = ap (woven b n p) (sym (take-append-drop count bytes)) ∙ woven_parts b n p (take count bytes) (drop count bytes)

-- the first run was not taken as a whole
pub fails_within : (old between new : Option (List ℕ)) (b n p count : ℕ) (bytes : List ℕ) → 3 < b → 0 < length bytes → count ≡ min (room b p) (length bytes)
    → Appends old between (maps_before b n p) → AppendsPart between new (take count bytes) → AppendsPart old new (woven b n p bytes)
fails_within old between new b n p count bytes big more is before h =
    rw (split_run b n p count bytes, run_of b n p count bytes big more is)
    (part_first old new (maps_before b n p ++ take count bytes) _ (part_second old between new (maps_before b n p) (take count bytes) before h))

-- the first run was taken as a whole
pub run_taken : (old between new : Option (List ℕ)) (b n p count : ℕ) (bytes : List ℕ) → 3 < b → 0 < length bytes → count ≡ min (room b p) (length bytes)
    → Appends old between (maps_before b n p) → Appends between new (take count bytes) → Appends old new (woven b n p (take count bytes))
run_taken old between new b n p count bytes big more is before h =
    rw (run_of b n p count bytes big more is) (Appends-trans old between new (maps_before b n p) (take count bytes) before h)

-- a run has at least one byte
pub run_count : (b p count : ℕ) (bytes : List ℕ) → 3 < b → 0 < length bytes → count ≡ min (room b p) (length bytes) → (0 < count) × (count ≤ length bytes)
run_count b p count bytes big more is = let some = some_room b p (some_stretch b big) in (omega (arith, some), omega arith)

-- the position after the run, and how many bytes are left
pub places_left : (p count end : ℕ) (rest : List ℕ) → p + length rest ≡ end → count ≤ length rest → p + count + length (take (length rest - count) (drop count rest)) ≡ end
places_left p count end rest e le = omega (arith, length-take (length rest - count) (drop count rest), length-drop count rest)

-- no bytes are left, so all of them were taken
pub woven_done : (b n p : ℕ) (taken rest all : List ℕ) → all ≡ taken ++ woven b n p rest → length rest ≡ 0 → all ≡ taken
unfolding woven
woven_done b n p taken [] all e none = e ∙ append-nil taken
woven_done b n p taken (byte ∷ rest) all e none = absurd (omega arith)

-- ---- a part, padded to whole blocks

-- how many zeros pad some bytes to whole blocks
pub fill_count : (b len : ℕ) → IsBlockSize b → ((b - len % b) % b ≡ blocks_for b len * b - len) × ((b - len % b) % b ≤ 32768)
fill_count b len size =
    let facts = size_facts b size in
    let some = some_bytes b size in
    let q = len / b in
    let r = len % b in
    let whole : len ≡ q * b + r = omega (arith, div-add-mod' len b) in
    let below : r < b = mod_below len b some in
    let blocks = ceil_is len b some in
    elim (cases_lt 0 r) [
      | inl more ↦
          let rest : (b - r) % b ≡ b - r = (first_block b (b - r) (omega arith)).1 in
          let count : blocks_for b len ≡ q + 1 = omega (arith, blocks) in
          (rw (rest, count) (omega (arith, whole, next_row q b)), omega (arith, rest, facts))
      | inr none ↦
          let one : b - r ≡ 0 + b = omega arith in
          let rest : (b - r) % b ≡ 0 = rw one ((next_block b 0 some).1 ∙ (first_block b 0 some).1) in
          let count : blocks_for b len ≡ q = omega (arith, blocks) in
          (rw (rest, count) (omega (arith, whole)), omega (arith, rest))
    ]

pub filled_is : (b : ℕ) (part fill : List ℕ) (count : ℕ) → count ≡ blocks_for b (length part) * b - length part → fill ≡ replicate count 0 → padded b part ≡ part ++ fill
unfolding padded
filled_is b part fill count is e = rw (e, is) refl

-- a padded part is the part, and then as many zeros as follow from the positions before and after the part
pub filled_after : (w v first last : WriterView) (part fill : List ℕ) (count : ℕ) → first ≡ w → last ≡ v → IsSameImage w v → v.position ≡ w.position + length part
    → count ≡ blocks_for last.block_size (last.position - first.position) * last.block_size - (last.position - first.position) → fill ≡ replicate count 0 → padded w.block_size part ≡ part ++ fill
filled_after w v first last part fill count before after same end is e =
    let size : last.block_size ≡ w.block_size = ap (λ (x : WriterView). x.block_size) after ∙ same.block_size in
    let len : last.position - first.position ≡ length part = omega (arith, ap (λ (x : WriterView). x.position) before, ap (λ (x : WriterView). x.position) after, end) in
    filled_is w.block_size part fill count (rw (size, len) at is) e

pub filled_longer : (b : ℕ) (part : List ℕ) → length part ≤ length (padded b part)
unfolding padded
filled_longer b part = omega (arith, length-append part (replicate (blocks_for b (length part) * b - length part) 0))

woven_filled : (b n p : ℕ) (part fill : List ℕ) → padded b part ≡ part ++ fill → woven b n p (padded b part) ≡ woven b n p part ++ woven b n (p + length part) fill
woven_filled b n p part fill is = ap (woven b n p) is ∙ woven_parts b n p part fill

-- the bytes of a part were not all taken
pub part_fails : (old new : Option (List ℕ)) (b n p : ℕ) (part : List ℕ) → AppendsPart old new (woven b n p part) → AppendsPart old new (woven b n p (padded b part))
part_fails old new b n p part h =
    let fill : List ℕ = replicate (blocks_for b (length part) * b - length part) 0 in
    rw (woven_filled b n p part fill (filled_is b part fill (blocks_for b (length part) * b - length part) refl refl)) (part_first old new (woven b n p part) (woven b n (p + length part) fill) h)

-- the bytes of a part were all taken, and its padding was not
pub fill_fails : (old between new : Option (List ℕ)) (b n p : ℕ) (part fill : List ℕ) → padded b part ≡ part ++ fill → Appends old between (woven b n p part)
    → AppendsPart between new (woven b n (p + length part) fill) → AppendsPart old new (woven b n p (padded b part))
fill_fails old between new b n p part fill is before h =
    rw (woven_filled b n p part fill is) (part_second old between new (woven b n p part) (woven b n (p + length part) fill) before h)

-- the bytes of a part and its padding were all taken
pub part_taken : (old between new : Option (List ℕ)) (b n p : ℕ) (part fill : List ℕ) → padded b part ≡ part ++ fill → Appends old between (woven b n p part)
    → Appends between new (woven b n (p + length part) fill) → Appends old new (woven b n p (padded b part))
part_taken old between new b n p part fill is before h =
    rw (woven_filled b n p part fill is) (Appends-trans old between new (woven b n p part) (woven b n (p + length part) fill) before h)

-- ---- one part after the other

-- the remaining parts are the next part and those after it
part_here : {X : Type 0} (h : X → List ℕ) (xs : List X) (i : ℕ) (d : X) → i < length xs → flat_map h (drop i xs) ≡ h (get_or xs i d) ++ flat_map h (drop (i + 1) xs)
part_here h xs i d lt = ap (flat_map h) (drop_more xs i d lt)

-- the position after the next part is where the remaining parts begin
pub next_place : {X : Type 0} (h : X → List ℕ) (xs : List X) (i : ℕ) (d : X) (p end : ℕ) → i < length xs
    → p + length (flat_map h (drop i xs)) ≡ end → p + length (h (get_or xs i d)) + length (flat_map h (drop (i + 1) xs)) ≡ end
next_place h xs i d p end lt e = omega (arith, e, ap length (part_here h xs i d lt), length-append (h (get_or xs i d)) (flat_map h (drop (i + 1) xs)))

pub next_fits : {X : Type 0} (h : X → List ℕ) (xs : List X) (i : ℕ) (d : X) (p end : ℕ) → i < length xs → p + length (flat_map h (drop i xs)) ≡ end → end < 2 ^ 33
    → p + length (h (get_or xs i d)) < 2 ^ 33
next_fits h xs i d p end lt e few = omega (arith, next_place h xs i d p end lt e)

-- after the last part no bytes are left
pub none_left : {X : Type 0} (h : X → List ℕ) (xs : List X) (i : ℕ) → length xs ≤ i → length (flat_map h (drop i xs)) ≡ 0
none_left h xs i le = rw (drop_all i xs le) refl

-- a writer of the same image as another one writes the same image as a third one
pub still_same : (first second third : WriterView) → IsSameImage first second → IsSameImage second third → IsSameImage first third
still_same first second third before after = record { block_size = after.block_size ∙ before.block_size; num_blocks = after.num_blocks ∙ before.num_blocks }

-- the first of the remaining data was not taken as a whole
pub first_fails : (old between new : Option (List ℕ)) (w : WriterView) (all first rest : List ℕ) → Halfway old between w all (first ++ rest)
    → AppendsPart between new (woven_from w first) → AppendsPart old new all
first_fails old between new w all first rest so_far h =
    rw (so_far.split, woven_parts w.block_size w.num_blocks w.position first rest)
    (part_second old between new so_far.taken _ so_far.appends (part_first between new (woven_from w first) _ h))

-- the first of the remaining data was taken as a whole
pub first_taken : (old between new : Option (List ℕ)) (w v : WriterView) (all first rest : List ℕ) → Halfway old between w all (first ++ rest)
    → Appends between new (woven_from w first) → IsSameImage w v → v.position ≡ w.position + length first → Halfway old new v all rest
first_taken old between new w v all first rest so_far h same is =
    let put = woven_from w first in
    record {
      taken = so_far.taken ++ put;
      split = so_far.split ∙ rw (same.block_size, same.num_blocks, is, woven_parts w.block_size w.num_blocks w.position first rest) (sym (append_assoc so_far.taken put _));
      appends = Appends-trans old between new so_far.taken put so_far.appends h;
    }

-- the remaining data was not taken as a whole
pub rest_fails : (old between new : Option (List ℕ)) (w : WriterView) (all left : List ℕ) → Halfway old between w all left → AppendsPart between new (woven_from w left) → AppendsPart old new all
rest_fails old between new w all left so_far h = rw so_far.split (part_second old between new so_far.taken (woven_from w left) so_far.appends h)

-- the remaining data was taken as a whole
pub rest_taken : (old between new : Option (List ℕ)) (w : WriterView) (all left : List ℕ) → Halfway old between w all left → Appends between new (woven_from w left) → Appends old new all
rest_taken old between new w all left so_far h = rw so_far.split (Appends-trans old between new so_far.taken (woven_from w left) so_far.appends h)

-- a run was taken as a whole
pub run_more : (old between new : Option (List ℕ)) (w v : WriterView) (all rest : List ℕ) (count : ℕ) → count ≤ length rest → Halfway old between w all rest
    → Appends between new (woven_from w (take count rest)) → IsSameImage w v → v.position ≡ w.position + count → Halfway old new v all (take (length rest - count) (drop count rest))
run_more old between new w v all rest count le so_far h same is =
    let long : length (take count rest) ≡ count = omega (arith, length-take count rest) in
    let parts : Halfway old between w all (take count rest ++ drop count rest) = rw (take-append-drop count rest) so_far in
    rw (take_rest rest count) (first_taken old between new w v all (take count rest) (drop count rest) parts h same (omega (arith, is, long)))

-- the next part was not taken as a whole
pub next_fails : {X : Type 0} (old between new : Option (List ℕ)) (h : X → List ℕ) (w : WriterView) (xs : List X) (i : ℕ) (d : X) (all : List ℕ) → i < length xs
    → Halfway old between w all (flat_map h (drop i xs)) → AppendsPart between new (woven_from w (h (get_or xs i d))) → AppendsPart old new all
next_fails old between new h w xs i d all lt so_far part =
    first_fails old between new w all (h (get_or xs i d)) (flat_map h (drop (i + 1) xs)) (rw (part_here h xs i d lt) at so_far) part

-- the next part was taken as a whole
pub next_taken : {X : Type 0} (old between new : Option (List ℕ)) (h : X → List ℕ) (w v : WriterView) (xs : List X) (i : ℕ) (d : X) (all : List ℕ) → i < length xs
    → Halfway old between w all (flat_map h (drop i xs)) → Appends between new (woven_from w (h (get_or xs i d)))
    → IsSameImage w v → v.position ≡ w.position + length (h (get_or xs i d)) → Halfway old new v all (flat_map h (drop (i + 1) xs))
next_taken old between new h w v xs i d all lt so_far put same is =
    first_taken old between new w v all (h (get_or xs i d)) (flat_map h (drop (i + 1) xs)) (rw (part_here h xs i d lt) at so_far) put same is

-- no data remains, so all of it was taken
pub all_taken : (old now : Option (List ℕ)) (w : WriterView) (all left : List ℕ) → Halfway old now w all left → length left ≡ 0 → Appends old now all
all_taken old now w all left h none = rw (woven_done w.block_size w.num_blocks w.position h.taken left all h.split none) h.appends

-- the next part, padded to whole blocks, was not taken as a whole
pub part_not_put : (old between new : Option (List ℕ)) (b : ℕ) (w : WriterView) (all part given rest : List ℕ) → w.block_size ≡ b → given ≡ part
    → Halfway old between w all (padded b part ++ rest) → AppendsPart between new (woven_from w (padded w.block_size given)) → AppendsPart old new all
part_not_put old between new b w all part given rest size is so_far h =
    let same : padded w.block_size given ≡ padded b part = rw (size, is) refl in
    first_fails old between new w all (padded b part) rest so_far (rw same at h)

-- the next part, padded to whole blocks, was taken as a whole
pub part_put : (old between new : Option (List ℕ)) (b : ℕ) (w v : WriterView) (all part given rest : List ℕ) → w.block_size ≡ b → given ≡ part
    → Halfway old between w all (padded b part ++ rest) → Appends between new (woven_from w (padded w.block_size given))
    → IsSameImage w v → v.position ≡ w.position + length (padded w.block_size given) → Halfway old new v all rest
part_put old between new b w v all part given rest size is so_far h is_same end =
    let same : padded w.block_size given ≡ padded b part = rw (size, is) refl in
    first_taken old between new w v all (padded b part) rest so_far (rw same at h) is_same (rw same at end)

-- the same for the next of several streams
pub next_not_put : {X : Type 0} (old between new : Option (List ℕ)) (h : X → List ℕ) (b : ℕ) (w : WriterView) (xs : List X) (i : ℕ) (d : X) (all : List ℕ) → i < length xs → w.block_size ≡ b
    → Halfway old between w all (flat_map (λ x. padded b (h x)) (drop i xs)) → AppendsPart between new (woven_from w (padded w.block_size (h (get_or xs i d)))) → AppendsPart old new all
next_not_put old between new h b w xs i d all lt size so_far part =
    let here = part_here (λ x. padded b (h x)) xs i d lt in
    part_not_put old between new b w all (h (get_or xs i d)) (h (get_or xs i d)) (flat_map (λ x. padded b (h x)) (drop (i + 1) xs)) size refl (rw here at so_far) part

pub next_put : {X : Type 0} (old between new : Option (List ℕ)) (h : X → List ℕ) (b : ℕ) (w v : WriterView) (xs : List X) (i : ℕ) (d : X) (all : List ℕ) → i < length xs → w.block_size ≡ b
    → Halfway old between w all (flat_map (λ x. padded b (h x)) (drop i xs)) → Appends between new (woven_from w (padded w.block_size (h (get_or xs i d))))
    → IsSameImage w v → v.position ≡ w.position + length (padded w.block_size (h (get_or xs i d))) → Halfway old new v all (flat_map (λ x. padded b (h x)) (drop (i + 1) xs))
next_put old between new h b w v xs i d all lt size so_far put same end =
    let here = part_here (λ x. padded b (h x)) xs i d lt in
    part_put old between new b w v all (h (get_or xs i d)) (h (get_or xs i d)) (flat_map (λ x. padded b (h x)) (drop (i + 1) xs)) size refl (rw here at so_far) put same end

-- ---- the parts of an image in turn

-- the image, in terms of its parts
by_parts : (b n : ℕ) (ts : List (List ℕ)) (sb bm dir : List ℕ) → IsImageFront b n (map length ts) sb bm dir → image b ts ≡ woven b n 0 (flat_map (padded b) (sb ∷ bm ∷ dir ∷ ts))
unfolding parts
by_parts b n ts sb bm dir front = rw (front.count, front.superblock_is, front.block_map_is, front.directory_is) (image_woven b ts front.size front.fits)

-- the padded parts are no longer than the file
pub few_bytes : (b n : ℕ) (ts : List (List ℕ)) (sb bm dir : List ℕ) → IsImageFront b n (map length ts) sb bm dir → length (flat_map (padded b) (sb ∷ bm ∷ dir ∷ ts)) < 2 ^ 32
unfolding parts
few_bytes b n ts sb bm dir front =
    let sizes = map length ts in
    let big = big_enough b front.size in
    let all = superblock_part b sizes ∷ block_map_part b sizes ∷ directory_part b sizes ∷ ts in
    let few = (bounds b sizes front.size front.fits).1 in
    let blocks = mul-le (data_count b sizes) b (image_blocks b sizes) b few (omega arith) in
    let long : length (flat_map (padded b) (sb ∷ bm ∷ dir ∷ ts)) ≡ (data_count b sizes - 1 + 1) * b =
    rw (front.superblock_is, front.block_map_is, front.directory_is) (length_parts b all (omega (arith, big)) ∙ rw (all_blocks b ts front.size front.fits) refl) in
    let one : data_count b sizes - 1 + 1 ≡ data_count b sizes = omega arith in
    omega (arith, front.fits.short, blocks, rw one at long)

-- what was written before the first part
pub before_front : (old : Option (List ℕ)) (w : WriterView) (ts : List (List ℕ)) (sb bm dir : List ℕ) → IsImageFront w.block_size w.num_blocks (map length ts) sb bm dir
    → w.position ≡ 0 → Halfway old old w (image w.block_size ts) (flat_map (padded w.block_size) (sb ∷ bm ∷ dir ∷ ts))
before_front old w ts sb bm dir front start =
    record {
      taken = [];
      split = by_parts w.block_size w.num_blocks ts sb bm dir front ∙ rw start refl;
      appends = Appends-nil old;
    }

-- ---- the parts of an image, one after the other

-- a sink took the first parts of the image of these streams: `start` was the writer before them, `writer` is the one after them, and these parts are left
pub record HasPut (old now : Option (List ℕ)) (start writer : WriterView) (ts left : List (List ℕ)) : Type 0 where
  pub so_far : Halfway old now writer (image start.block_size ts) (flat_map (padded start.block_size) left)
  pub same : IsSameImage start writer
  pub few : writer.position + length (flat_map (padded start.block_size) left) < 2 ^ 32

-- nothing was put yet
pub none_put : (old : Option (List ℕ)) (w : WriterView) (ts : List (List ℕ)) (sb bm dir : List ℕ) → IsImageFront w.block_size w.num_blocks (map length ts) sb bm dir → w.position ≡ 0 → HasPut old old w w ts (sb ∷ bm ∷ dir ∷ ts)
none_put old w ts sb bm dir front start = record {
  so_far = before_front old w ts sb bm dir front start;
  same = record { block_size = refl; num_blocks = refl };
  few = omega (arith, start, few_bytes w.block_size w.num_blocks ts sb bm dir front);
}

-- the next part fits
pub next_part_fits : (old now : Option (List ℕ)) (w v : WriterView) (ts left : List (List ℕ)) (part given : List ℕ) → given ≡ part → HasPut old now w v ts (part ∷ left) → v.position + length (padded v.block_size given) < 2 ^ 33
next_part_fits old now w v ts left part given is h =
    let padding : padded v.block_size given ≡ padded w.block_size part = rw (h.same.block_size, is) refl in
    omega (arith, h.few, ap length padding, length-append (padded w.block_size part) (flat_map (padded w.block_size) left))

-- the next part was put
pub next_part_put : (old between new : Option (List ℕ)) (w v u : WriterView) (ts left : List (List ℕ)) (part given : List ℕ) → given ≡ part → HasPut old between w v ts (part ∷ left)
    → Appends between new (woven_from v (padded v.block_size given)) → IsSameImage v u → u.position ≡ v.position + length (padded v.block_size given) → HasPut old new w u ts left
next_part_put old between new w v u ts left part given is h put same end =
    let padding : padded v.block_size given ≡ padded w.block_size part = rw (h.same.block_size, is) refl in
    record {
      so_far = part_put old between new w.block_size v u (image w.block_size ts) part given (flat_map (padded w.block_size) left) h.same.block_size is h.so_far put same end;
      same = still_same w v u h.same same;
      few = omega (arith, h.few, end, ap length padding, length-append (padded w.block_size part) (flat_map (padded w.block_size) left));
    }

-- the next part was put in part
pub next_part_fails : (old between new : Option (List ℕ)) (w v : WriterView) (ts left : List (List ℕ)) (part given : List ℕ) → given ≡ part → HasPut old between w v ts (part ∷ left)
    → AppendsPart between new (woven_from v (padded v.block_size given)) → AppendsPart old new (image w.block_size ts)
next_part_fails old between new w v ts left part given is h put =
    part_not_put old between new w.block_size v (image w.block_size ts) part given (flat_map (padded w.block_size) left) h.same.block_size is h.so_far put

-- the parts that are left fit
pub all_parts_fit : (old now : Option (List ℕ)) (w v : WriterView) (ts left : List (List ℕ)) → HasPut old now w v ts left → v.position + length (flat_map (padded v.block_size) left) < 2 ^ 33
all_parts_fit old now w v ts left h =
    let padding : flat_map (padded v.block_size) left ≡ flat_map (padded w.block_size) left = rw h.same.block_size refl in
    omega (arith, h.few, ap length padding)

-- the parts that are left were put
pub all_parts_put : (old between new : Option (List ℕ)) (w v : WriterView) (ts left : List (List ℕ)) → HasPut old between w v ts left
    → Appends between new (woven_from v (flat_map (padded v.block_size) left)) → Appends old new (image w.block_size ts)
all_parts_put old between new w v ts left h put =
    let padding : flat_map (padded v.block_size) left ≡ flat_map (padded w.block_size) left = rw h.same.block_size refl in
    rest_taken old between new v (image w.block_size ts) (flat_map (padded w.block_size) left) h.so_far (rw padding at put)

-- the parts that are left were put in part
pub all_parts_fail : (old between new : Option (List ℕ)) (w v : WriterView) (ts left : List (List ℕ)) → HasPut old between w v ts left
    → AppendsPart between new (woven_from v (flat_map (padded v.block_size) left)) → AppendsPart old new (image w.block_size ts)
all_parts_fail old between new w v ts left h put =
    let padding : flat_map (padded v.block_size) left ≡ flat_map (padded w.block_size) left = rw h.same.block_size refl in
    rest_fails old between new v (image w.block_size ts) (flat_map (padded w.block_size) left) h.so_far (rw padding at put)

-- a stream in one part has the contents of that part
pub joined_one : (part : Bor (List ℕ)) → joined (part ∷ []) ≡ part.now
joined_one part = append-nil part.now

-- one more part
joined_more : (ps : List (Bor (List ℕ))) (i : ℕ) (d : Bor (List ℕ)) → i < length ps → joined (take (i + 1) ps) ≡ joined (take i ps) ++ (get_or ps i d).now
joined_more ps i d lt =
    ap joined (take_more ps i d lt) ∙ flat_map-append (λ part. part.now) (take i ps) (get_or ps i d ∷ []) ∙ ap (λ (x : List ℕ). joined (take i ps) ++ x) (joined_one (get_or ps i d))

pub length_more : (ps : List (Bor (List ℕ))) (i : ℕ) (d : Bor (List ℕ)) → i < length ps → length (joined (take (i + 1) ps)) ≡ length (joined (take i ps)) + length (get_or ps i d).now
length_more ps i d lt = ap length (joined_more ps i d lt) ∙ length-append (joined (take i ps)) (get_or ps i d).now

-- the first parts together are no longer than all the parts
pub length_all : (ps : List (Bor (List ℕ))) (i : ℕ) → length (joined (take i ps)) ≤ length (joined ps)
length_all ps i =
    let split : joined ps ≡ joined (take i ps) ++ joined (drop i ps) = ap joined (sym (take-append-drop i ps)) ∙ flat_map-append (λ part. part.now) (take i ps) (drop i ps) in
    omega (arith, ap length split, length-append (joined (take i ps)) (joined (drop i ps)))

-- ---- texts, collected in a chunk

-- a part without texts
pub part_alone : (part : Bor (List ℕ)) (none : List (List ℕ)) → none ≡ [] → joined (part ∷ []) ++ concat none ≡ part.now
part_alone part none is = rw is (append-nil (joined (part ∷ [])) ∙ joined_one part)

-- streams without texts are just their parts
pub without_texts : (streams : List (Bor (List (Bor (List ℕ))))) (none : List (List ℕ)) → none ≡ [] → with_texts streams none ≡ joined_of streams
without_texts streams none is = rw is (ap (λ (x : List ℕ). set (joined_of streams) 2 x) (append-nil (get_or (joined_of streams) 2 [])) ∙ set-get_or (joined_of streams) 2 [])

-- the contents of the next stream
pub contents_at : (streams : List (Bor (List (Bor (List ℕ))))) (texts none : List (List ℕ)) (s : ℕ) (d : Bor (List (Bor (List ℕ)))) (after : List (List ℕ)) → none ≡ [] → s < length streams → (s ≡ 2 → after ≡ texts) → (s ≢ 2 → after ≡ none)
    → get_or (with_texts streams texts) s [] ≡ joined (get_or streams s d).now ++ concat after
contents_at streams texts none s d after nothing inside here elsewhere =
    let at : get_or (joined_of streams) s [] ≡ joined (get_or streams s d).now = get_or-map (λ parts. joined parts.now) streams s d [] inside in
    elim (cases_eq s 2) [
      | inl same ↦
          let last : 2 < length (joined_of streams) = omega (arith, inside, same, length-map streams (λ parts. joined parts.now)) in
          rw (same, get_or-set_same (joined_of streams) 2 (get_or (joined_of streams) 2 [] ++ concat texts) [] last, here same, rw same at at) refl
      | inr apart ↦
          get_or-set_other (joined_of streams) 2 s (get_or (joined_of streams) 2 [] ++ concat texts) [] apart ∙ at ∙ rw (elsewhere apart, nothing) (sym (append-nil (joined (get_or streams s d).now)))
    ]

-- there are as many contents as streams
pub contents_many : (streams : List (Bor (List (Bor (List ℕ))))) (texts : List (List ℕ)) → length (with_texts streams texts) ≡ length streams
contents_many streams texts = length-set (joined_of streams) 2 (get_or (joined_of streams) 2 [] ++ concat texts) ∙ length-map streams (λ parts. joined parts.now)

-- nothing was put yet
pub nothing_put : (old : Option (List ℕ)) (w : WriterView) (left : List ℕ) → Halfway old old w (woven_from w left) left
nothing_put old w left = record { taken = []; split = refl; appends = Appends-nil old }

-- the texts that are left are the next one and those after it
pub text_here : (texts : List (List ℕ)) (k : ℕ) → k < length texts → concat (drop k texts) ≡ get_or texts k [] ++ concat (drop (k + 1) texts)
text_here texts k inside = ap (λ (xs : List (List ℕ)). concat xs) (drop_more texts k [] inside)

-- the next text waits in the chunk
pub text_waits : (chunk : List ℕ) (texts : List (List ℕ)) (k : ℕ) → k < length texts → (chunk ++ get_or texts k []) ++ concat (drop (k + 1) texts) ≡ chunk ++ concat (drop k texts)
text_waits chunk texts k inside = append_assoc chunk (get_or texts k []) (concat (drop (k + 1) texts)) ∙ ap (λ (x : List ℕ). chunk ++ x) (sym (text_here texts k inside))

-- after the last text the chunk is left
pub chunk_left : (chunk : List ℕ) (texts : List (List ℕ)) (k : ℕ) → length texts ≤ k → chunk ++ concat (drop k texts) ≡ chunk
chunk_left chunk texts k past = ap (λ (xs : List (List ℕ)). chunk ++ concat xs) (drop_all k texts past) ∙ append-nil chunk
