-- An image reads back as its streams.
use Rattle.std.proofs.Common.{◌≡◌, ℕ, suc, ◌+◌, ◌-◌, ◌*◌, ◌/◌, ◌%◌, ◌^◌, ◌<◌, ◌≤◌, List, [], ◌∷◌, ◌++◌, length, map, take, drop, get_or, refl, sym, ap, ◌∙◌, arith, append_assoc, inl}
use Rattle.std.specs.Prelude.{All, slice_get}
use Rattle.std.specs.List.{flat_map, sum_by}
use Rattle.std.proofs.lemmas.Nat.{mul-le, le-div}
use Rattle.std.proofs.lemmas.Bool.Decides.{nat_tests}
use Rattle.std.proofs.lemmas.Option.{slice_get-map}
use Rattle.std.proofs.lemmas.List.{append-nil, length-append, drop_at, take_at, drop-drop, take-append-drop, map-append, take-take, drop-take}
use Rattle.std.proofs.lemmas.List.FromFn.{length-map-range_with_len, get_or-map-range_with_len}
use Rattle.std.proofs.lemmas.List.Sums.{sum_by-cons, sum_by-append}
use Rattle.std.proofs.lemmas.List.Elements.{All-nil, All-cons, All-head, All-tail, All-from_get_or}
use Rattle.byte_fields.specs.Number.{number_at, nth_u32, u32s}
use Rattle.byte_fields.proofs.NumberLaws.{nth_u32-u32s, length-u32s}
use Rattle.msf_superblock.specs.BlockNumber.{IsBlockSize, IsOrdinary, blocks_for, nth_block}
use Rattle.msf_superblock.specs.Superblock.{Fields, IsSuperblock, magic}
use Rattle.msf_blocks.specs.Directory.{IsListed, IsDirectory, directory_contents, map_number, bytes_of}
use Rattle.msf_superblock.proofs.BlockLaws.{nth_zero, nth_ge}
use Rattle.msf_superblock.proofs.SizeLaws.{size_facts, big_enough, next_row, ceil_ge, place_below}
use Rattle.msf_streams.specs.Streams.{listed_contents}
use Rattle.msf_blocks.specs.Blocks.{in_blocks}
use Rattle.msf_superblock.specs.BlockNumber.{block_numbers}
use Rattle.msf_streams.specs.Image.{padded, laid_out, superblock_numbers, listed_from, blocks_of_all, directory_len, directory_count, data_count, image_blocks, superblock_part, block_map_part, directory_part, parts, image, Fits, image_fields, ReadsBack}
use Rattle.msf_blocks.proofs.RangeLaws.{map-range_with_len_parts, map-same_ranges}
use Rattle.msf_streams.proofs.PieceLaws.{in_blocks_first, at_most_one_for}
use Rattle.msf_streams.proofs.ImageLaws.{part_back, image_long, length_parts, nth_below}

-- one of several numbers that are next to each other
word_in : (x ns : List ℕ) (at len k : ℕ) → take len (drop at x) ≡ u32s ns → k < length ns → get_or ns k 0 < 2 ^ 32 → number_at 4 x (at + 4 * k) ≡ get_or ns k 0
unfolding number_at nth_u32
word_in x ns at len k e lt small =
    let whole : drop at x ≡ u32s ns ++ drop len (drop at x) = sym (take-append-drop len (drop at x)) ∙ rw e refl in
    let cut : drop (at + 4 * k) x ≡ drop (4 * k) (u32s ns ++ drop len (drop at x)) = sym (drop-drop (4 * k) at x) ∙ ap (drop (4 * k)) whole in
    rw cut (nth_u32-u32s ns (drop len (drop at x)) k lt small)

-- ---- streams on consecutive data blocks

pub listed_blocks : (b f : ℕ) (sizes : List ℕ) → flat_map (λ l. l.blocks) (listed_from b f sizes) ≡ block_numbers b f (blocks_of_all b sizes)
unfolding listed_from
listed_blocks b f [] = refl
listed_blocks b f (k ∷ ks) = rw (listed_blocks b (f + blocks_for b k) ks, sum_by-cons (blocks_for b) k ks) (sym (map-range_with_len_parts (nth_block b) f (blocks_for b k) (blocks_of_all b ks)))

pub listed_sizes : (b f : ℕ) (sizes : List ℕ) → map (λ l. l.size) (listed_from b f sizes) ≡ sizes
unfolding listed_from
listed_sizes b f [] = refl
listed_sizes b f (k ∷ ks) = ap (λ (xs : List ℕ). k ∷ xs) (listed_sizes b (f + blocks_for b k) ks)

pub listed_count : (b f : ℕ) (sizes : List ℕ) → length (listed_from b f sizes) ≡ length sizes
unfolding listed_from
listed_count b f [] = refl
listed_count b f (k ∷ ks) = ap suc (listed_count b (f + blocks_for b k) ks)

-- the parts after the first ones read back as streams, in order
pub streams_back : (b m : ℕ) (all front ts : List (List ℕ)) → 3 < b → all ≡ front ++ ts → sum_by (blocks_for b) (map length all) ≡ m + 1 → All (λ t. length t < 0xFFFFFFFF) ts
    → map (listed_contents (laid_out b (nth_block b m + 1) (flat_map (padded b) all)) b) (listed_from b (sum_by (blocks_for b) (map length front)) (map length ts)) ≡ ts
unfolding listed_from
streams_back b m all front [] big e count short = refl
streams_back b m all front (t ∷ ts) big e count short =
    let x = laid_out b (nth_block b m + 1) (flat_map (padded b) all) in
    let f = sum_by (blocks_for b) (map length front) in
    let small : length t < 0xFFFFFFFF = All-head (λ u. length u < 0xFFFFFFFF) t ts short in
    let size : bytes_of (length t) ≡ length t = grind (arith, nat_tests) in
    let here : in_blocks x b (block_numbers b f (blocks_for b (length t))) (length t) ≡ t = rw e (part_back b m front t ts big (rw e at count)) in
    let more : all ≡ (front ++ t ∷ []) ++ ts = e ∙ sym (append_assoc front (t ∷ []) ts) in
    let next : sum_by (blocks_for b) (map length (front ++ t ∷ [])) ≡ f + blocks_for b (length t) =
    omega (arith, ap (sum_by (blocks_for b)) (map-append length front (t ∷ [])) ∙ sum_by-append (blocks_for b) (map length front) (length t ∷ []), sum_by-cons (blocks_for b) (length t) []) in
    let others = streams_back b m all (front ++ t ∷ []) ts big more count (All-tail (λ u. length u < 0xFFFFFFFF) t ts short) in
    rw (size, here) (ap (λ (us : List (List ℕ)). t ∷ us) (rw next at others))

pub one_for : (b len : ℕ) → 0 < b → 0 < len → len ≤ b → blocks_for b len ≡ 1
one_for b len pos some one =
    let least : 1 ≤ (len + b - 1) / b = le-div 1 (len + b - 1) b pos (omega arith) in
    omega (arith, least, at_most_one_for b len pos one)

-- a part that fits in one block
pub block_back : (b m : ℕ) (all front : List (List ℕ)) (t : List ℕ) (back : List (List ℕ)) → 3 < b → all ≡ front ++ t ∷ back → sum_by (blocks_for b) (map length all) ≡ m + 1
    → 0 < length t → length t ≤ b → (nth_block b (sum_by (blocks_for b) (map length front)) + 1) * b ≤ length (laid_out b (nth_block b m + 1) (flat_map (padded b) all))
    → take (length t) (drop (nth_block b (sum_by (blocks_for b) (map length front)) * b) (laid_out b (nth_block b m + 1) (flat_map (padded b) all))) ≡ t
unfolding in_blocks
block_back b m all front t back big e count some one fits =
    let x = laid_out b (nth_block b m + 1) (flat_map (padded b) all) in
    let f = sum_by (blocks_for b) (map length front) in
    let here : in_blocks x b (block_numbers b f (blocks_for b (length t))) (length t) ≡ t = rw e (part_back b m front t back big (rw e at count)) in
    let single : blocks_for b (length t) ≡ 1 = one_for b (length t) (omega arith) some one in
    let first : in_blocks x b (block_numbers b f 1) (length t) ≡ t = rw single at here in
    sym (in_blocks_first x b (nth_block b f) (length t) [] one fits) ∙ first

-- ---- the parts of an image

pub length_superblock : (b : ℕ) (sizes : List ℕ) → length (superblock_part b sizes) ≡ 56
unfolding superblock_part
length_superblock b sizes =
    let ns = superblock_numbers b sizes in
    omega (arith, length-append magic (u32s ns), length-u32s ns)

pub length_block_map : (b : ℕ) (sizes : List ℕ) → length (block_map_part b sizes) ≡ 4 * directory_count b sizes
unfolding block_map_part
length_block_map b sizes = omega (arith, length-u32s (block_numbers b 2 (directory_count b sizes)), length-map-range_with_len (nth_block b) 2 (directory_count b sizes))

pub length_directory : (b : ℕ) (sizes : List ℕ) → length (directory_part b sizes) ≡ directory_len b sizes
unfolding directory_part
length_directory b sizes =
    let ns = block_numbers b (2 + directory_count b sizes) (blocks_of_all b sizes) in
    omega (arith, length-u32s (length sizes ∷ sizes ++ ns), length-append sizes ns, length-map-range_with_len (nth_block b) (2 + directory_count b sizes) (blocks_of_all b sizes))

pub front_blocks : (b : ℕ) (ts : List (List ℕ)) → IsBlockSize b → Fits b (map length ts)
    → (blocks_for b (length (superblock_part b (map length ts))) ≡ 1) × (blocks_for b (length (block_map_part b (map length ts))) ≡ 1) × (blocks_for b (length (directory_part b (map length ts))) ≡ directory_count b (map length ts))
front_blocks b ts size fits =
    let sizes = map length ts in
    let facts = size_facts b size in
    let some : 1 ≤ directory_count b sizes = le-div 1 (directory_len b sizes + b - 1) b (omega (arith, facts.least)) (omega arith) in
    let few : 4 * directory_count b sizes ≤ b = omega (arith, fits.directory, facts.fours) in (
      rw (length_superblock b sizes) (one_for b 56 (omega (arith, facts.least)) (omega arith) (omega (arith, facts.least))),
      rw (length_block_map b sizes) (one_for b (4 * directory_count b sizes) (omega (arith, facts.least)) (omega arith) few),
      rw (length_directory b sizes) refl,
    )

pub all_blocks : (b : ℕ) (ts : List (List ℕ)) → IsBlockSize b → Fits b (map length ts) → sum_by (blocks_for b) (map length (parts b ts)) ≡ data_count b (map length ts) - 1 + 1
unfolding parts
all_blocks b ts size fits =
    let sizes = map length ts in
    let sb = length (superblock_part b sizes) in
    let bm = length (block_map_part b sizes) in
    let dir = length (directory_part b sizes) in
    let h = front_blocks b ts size fits in
    sum_by-cons (blocks_for b) sb (bm ∷ dir ∷ sizes)
    ∙ rw (sum_by-cons (blocks_for b) bm (dir ∷ sizes), sum_by-cons (blocks_for b) dir sizes, h.0, h.1, h.2) (omega arith)

-- the image, in terms of its data blocks
pub image_is : (b : ℕ) (ts : List (List ℕ)) → image b ts ≡ laid_out b (nth_block b (data_count b (map length ts) - 1) + 1) (flat_map (padded b) (parts b ts))
unfolding image
image_is b ts = refl

pub image_long_as_said : (b : ℕ) (ts : List (List ℕ)) → IsBlockSize b → Fits b (map length ts) → length (image b ts) ≡ image_blocks b (map length ts) * b
image_long_as_said b ts size fits =
    let m = data_count b (map length ts) - 1 in
    let big = big_enough b size in
    rw (image_is b ts) (image_long b m (flat_map (padded b) (parts b ts)) big (length_parts b (parts b ts) (omega arith) ∙ rw (all_blocks b ts size fits) refl))

-- the superblock of an image
pub head : (b : ℕ) (ts : List (List ℕ)) → IsBlockSize b → Fits b (map length ts) → take 56 (image b ts) ≡ superblock_part b (map length ts)
unfolding parts
head b ts size fits =
    let sizes = map length ts in
    let m = data_count b sizes - 1 in
    let big = big_enough b size in
    let facts = size_facts b size in
    let sb = superblock_part b sizes in
    let long = length_superblock b sizes in
    let is = image_is b ts in
    let whole = image_long_as_said b ts size fits in
    let zeroth = nth_zero b big in
    let fit : (nth_block b 0 + 1) * b ≤ length (image b ts) =
    let h = mul-le (nth_block b 0 + 1) b (image_blocks b sizes) b (omega (arith, zeroth)) (omega arith) in omega (arith, h, whole) in
    let e = block_back b m (parts b ts) [] sb (block_map_part b sizes ∷ directory_part b sizes ∷ ts) big refl (all_blocks b ts size fits) (omega (arith, long)) (omega (arith, long, facts.least)) (rw is at fit) in
    let z : 0 * b ≡ 0 = omega arith in
    rw is (rw (long, zeroth, z) at e)

-- the block map of an image
pub map_here : (b : ℕ) (ts : List (List ℕ)) → IsBlockSize b → Fits b (map length ts)
    → take (4 * directory_count b (map length ts)) (drop (nth_block b 1 * b) (image b ts)) ≡ u32s (block_numbers b 2 (directory_count b (map length ts)))
unfolding parts block_map_part
map_here b ts size fits =
    let sizes = map length ts in
    let m = data_count b sizes - 1 in
    let big = big_enough b size in
    let facts = size_facts b size in
    let h = front_blocks b ts size fits in
    let sb = superblock_part b sizes in
    let bm = block_map_part b sizes in
    let long = length_block_map b sizes in
    let is = image_is b ts in
    let whole = image_long_as_said b ts size fits in
    let some : 1 ≤ directory_count b sizes = le-div 1 (directory_len b sizes + b - 1) b (omega (arith, facts.least)) (omega arith) in
    let few : 4 * directory_count b sizes ≤ b = omega (arith, fits.directory, facts.fours) in
    let one : sum_by (blocks_for b) (map length (sb ∷ [])) ≡ 1 = omega (arith, sum_by-cons (blocks_for b) (length sb) [], h.0) in
    let fit : (nth_block b 1 + 1) * b ≤ length (image b ts) =
    let below = nth_below b m 1 big (omega arith) in
    let g = mul-le (nth_block b 1 + 1) b (image_blocks b sizes) b (omega (arith, below)) (omega arith) in omega (arith, g, whole) in
    let e = block_back b m (parts b ts) (sb ∷ []) bm (directory_part b sizes ∷ ts) big refl (all_blocks b ts size fits) (omega (arith, long)) (omega (arith, long, few)) (rw (one, ← is) fit) in
    rw is (rw (one, long) at e)

pub directory_here : (b : ℕ) (ts : List (List ℕ)) → IsBlockSize b → Fits b (map length ts)
    → in_blocks (image b ts) b (block_numbers b 2 (directory_count b (map length ts))) (directory_len b (map length ts)) ≡ directory_part b (map length ts)
unfolding parts
directory_here b ts size fits =
    let sizes = map length ts in
    let m = data_count b sizes - 1 in
    let big = big_enough b size in
    let h = front_blocks b ts size fits in
    let sb = superblock_part b sizes in
    let bm = block_map_part b sizes in
    let dir = directory_part b sizes in
    let two : sum_by (blocks_for b) (map length (sb ∷ bm ∷ [])) ≡ 2 = omega (arith, sum_by-cons (blocks_for b) (length sb) (length bm ∷ []), sum_by-cons (blocks_for b) (length bm) [], h.0, h.1) in
    let e = part_back b m (sb ∷ bm ∷ []) dir ts big (all_blocks b ts size fits) in
    rw (image_is b ts) (rw (two, length_directory b sizes) at e)

-- ---- the law

-- the bounds of the numbers in an image
pub bounds : (b : ℕ) (sizes : List ℕ) → IsBlockSize b → Fits b sizes → (image_blocks b sizes < 2 ^ 23) × (data_count b sizes ≤ image_blocks b sizes) × (directory_len b sizes ≤ directory_count b sizes * b) × (directory_len b sizes < 2 ^ 32) × (directory_count b sizes * b ≤ image_blocks b sizes * b)
bounds b sizes size fits =
    let big = big_enough b size in
    let n = image_blocks b sizes in
    let ge = nth_ge b (data_count b sizes - 1) big in
    let few : data_count b sizes ≤ n = omega (arith, ge) in
    let more = mul-le n 512 n b (omega arith) ((size_facts b size).least) in
    let up = ceil_ge b (directory_len b sizes) (omega (arith, big)) in
    let within = mul-le (directory_count b sizes) b n b (omega (arith, few)) (omega arith) in
    (omega (arith, more, fits.short), few, up, omega (arith, up, within, fits.short), within)

pub number_here : (b : ℕ) (ts : List (List ℕ)) (k : ℕ) → IsBlockSize b → Fits b (map length ts)
    → let ns = superblock_numbers b (map length ts) in
    k < 6 → get_or ns k 0 < 2 ^ 32 → number_at 4 (image b ts) (32 + 4 * k) ≡ get_or ns k 0
unfolding superblock_part
number_here b ts k size fits lt small =
    let sizes = map length ts in
    let ns = superblock_numbers b sizes in
    let x = image b ts in
    let first : take 24 (drop 32 x) ≡ u32s ns = sym (drop-take 32 24 x) ∙ ap (drop 32) (head b ts size fits) ∙ drop_at magic (u32s ns) 32 refl in
    word_in x ns 32 24 k first lt small

pub super_back : (b : ℕ) (ts : List (List ℕ)) → IsBlockSize b → Fits b (map length ts) → IsSuperblock (image b ts) (image_fields b (map length ts))
unfolding superblock_part
super_back b ts size fits =
    let sizes = map length ts in
    let x = image b ts in
    let big = big_enough b size in
    let facts = size_facts b size in
    let h = bounds b sizes size fits in
    let whole = image_long_as_said b ts size fits in
    let m = data_count b sizes - 1 in
    let first : nth_block b 1 < image_blocks b sizes = nth_below b m 1 big (omega arith) in
    let one = mul-le 1 b (image_blocks b sizes) b (omega arith) (omega arith) in
    let ns = superblock_numbers b sizes in
    record {
      long = omega (arith, whole, one, facts.least);
      magical = sym (take-take 32 56 x (omega arith)) ∙ ap (take 32) (head b ts size fits) ∙ take_at magic (u32s ns) 32 refl;
      block_size_is = number_here b ts 0 size fits (omega arith) (omega (arith, one, fits.short));
      free_map_block_is = number_here b ts 1 size fits (omega arith) (omega arith);
      num_blocks_is = number_here b ts 2 size fits (omega arith) (omega (arith, h.0));
      directory_bytes_is = number_here b ts 3 size fits (omega arith) h.3;
      unknown_is = number_here b ts 4 size fits (omega arith) (omega arith);
      block_map_addr_is = number_here b ts 5 size fits (omega arith) (omega (arith, h.0, first));
      whole = omega (arith, whole);
      fit = record {
        block_size_fits = size;
        free_map_block_fits = inl refl;
        directory_multiple = omega arith;
        directory_fits = fits.directory;
        block_map_fits = (omega (arith, nth_ge b 1 big), first);
      };
    }

pub map_number_back : (b : ℕ) (ts : List (List ℕ)) (k : ℕ) → IsBlockSize b → Fits b (map length ts) → k < directory_count b (map length ts)
    → map_number (image b ts) (image_fields b (map length ts)) k ≡ nth_block b (2 + k)
unfolding map_number
map_number_back b ts k size fits lt =
    let sizes = map length ts in
    let x = image b ts in
    let big = big_enough b size in
    let h = bounds b sizes size fits in
    let ns = block_numbers b 2 (directory_count b sizes) in
    let at : get_or ns k 0 ≡ nth_block b (2 + k) = get_or-map-range_with_len (nth_block b) 2 (directory_count b sizes) k (2 + k) 0 lt refl in
    let below = nth_below b (data_count b sizes - 1) (2 + k) big (omega arith) in
    word_in x ns (nth_block b 1 * b) (4 * directory_count b sizes) k (map_here b ts size fits) (omega (arith, lt, length-map-range_with_len (nth_block b) 2 (directory_count b sizes))) (omega (arith, at, below, h.0)) ∙ at

pub dir_back : (b : ℕ) (ts : List (List ℕ)) → IsBlockSize b → Fits b (map length ts) → IsDirectory (image b ts) (image_fields b (map length ts)) (directory_part b (map length ts))
unfolding in_blocks directory_contents
dir_back b ts size fits =
    let sizes = map length ts in
    let x = image b ts in
    let big = big_enough b size in
    let d = directory_len b sizes in
    let ns = block_numbers b 2 (directory_count b sizes) in
    let here : in_blocks x b ns d ≡ directory_part b sizes = directory_here b ts size fits in
    record {
      ordinary = λ k lt.
          let e = map_number_back b ts k size fits lt in
          let below = nth_below b (data_count b sizes - 1) (2 + k) big (omega arith) in
          let ge = nth_ge b (2 + k) big in
          (omega (arith, e, ge), omega (arith, e, below));
      contents_is = sym here ∙ map-same_ranges (λ i. get_or x (get_or ns (i / b) 0 * b + i % b) 0) (λ i. get_or x (map_number x (image_fields b sizes) (i / b) * b + i % b) 0) 0 0 d (λ i lt.
          let same : 0 + i ≡ i = omega arith in
          let below = place_below b d i (omega (arith, big)) lt in
          let e = map_number_back b ts (i / b) size fits below in
          let at : get_or ns (i / b) 0 ≡ nth_block b (2 + i / b) = get_or-map-range_with_len (nth_block b) 2 (directory_count b sizes) (i / b) (2 + i / b) 0 below refl in
          rw (same, at, e) refl);
    }

listed_parts : (b : ℕ) (sizes : List ℕ) → let streams = listed_from b (2 + directory_count b sizes) sizes in
    directory_part b sizes ≡ u32s (length streams ∷ map (λ s. s.size) streams ++ flat_map (λ s. s.blocks) streams) ++ []
unfolding directory_part
listed_parts b sizes =
    let f = 2 + directory_count b sizes in
    rw (listed_count b f sizes, listed_sizes b f sizes, listed_blocks b f sizes) (sym (append-nil _))

-- each listed stream has the number of blocks that its size needs, and all of them are ordinary
pub each_listed : (b f n m : ℕ) (sizes : List ℕ) → 3 < b → 0 < f → f + blocks_of_all b sizes ≤ m + 1 → nth_block b m + 1 < 2 ^ 23 → All (λ k. k < 0xFFFFFFFF) sizes
    → (s : Fields) → s.block_size ≡ b → s.num_blocks ≡ nth_block b m + 1 → All (IsListed s) (listed_from b f sizes)
unfolding listed_from
each_listed b f n m [] big some within few short s es en = All-nil (IsListed s)
each_listed b f n m (k ∷ ks) big some within few short s es en =
    let small : k < 0xFFFFFFFF = All-head (λ j. j < 0xFFFFFFFF) k ks short in
    let bytes : bytes_of k ≡ k = grind (arith, nat_tests) in
    let count = length-map-range_with_len (nth_block b) f (blocks_for b k) in
    let sum = sum_by-cons (blocks_for b) k ks in
    let ge = nth_ge b m big in
    All-cons (IsListed s) _ (listed_from b (f + blocks_for b k) ks)
    (record {
      short = omega (arith, small);
      count = rw (bytes, es) count;
      ordinary = All-from_get_or (IsOrdinary s.num_blocks) (block_numbers b f (blocks_for b k)) 0 (λ i lt.
          let in' : i < blocks_for b k = omega (arith, lt, count) in
          let at : get_or (block_numbers b f (blocks_for b k)) i 0 ≡ nth_block b (f + i) = get_or-map-range_with_len (nth_block b) f (blocks_for b k) i (f + i) 0 in' refl in
          let below = nth_below b m (f + i) big (omega (arith, sum, within, in')) in
          let up = nth_ge b (f + i) big in
          (omega (arith, at, up, some), omega (arith, at, below, en)));
    })
    (each_listed b (f + blocks_for b k) n m ks big (omega arith) (omega (arith, sum, within)) few (All-tail (λ j. j < 0xFFFFFFFF) k ks short) s es en)

pub all_short : (b : ℕ) (sizes : List ℕ) (n : ℕ) → 0 < b → blocks_of_all b sizes ≤ n → n * b < 0xFFFFFFFF → All (λ k. k < 0xFFFFFFFF) sizes
all_short b [] n pos within fits = All-nil (λ k. k < 0xFFFFFFFF)
all_short b (k ∷ ks) n pos within fits =
    let sum = sum_by-cons (blocks_for b) k ks in
    let up = ceil_ge b k pos in
    let m = mul-le (blocks_for b k) b n b (omega (arith, sum, within)) (omega arith) in
    All-cons (λ j. j < 0xFFFFFFFF) k ks (omega (arith, up, m)) (all_short b ks n pos (omega (arith, sum, within)) fits)

all_lengths : (ts : List (List ℕ)) → All (λ k. k < 0xFFFFFFFF) (map length ts) → All (λ t. length t < 0xFFFFFFFF) ts
all_lengths [] h = All-nil (λ (t : List ℕ). length t < 0xFFFFFFFF)
all_lengths (t ∷ ts) h = All-cons (λ (u : List ℕ). length u < 0xFFFFFFFF) t ts (All-head (λ k. k < 0xFFFFFFFF) (length t) (map length ts) h) (all_lengths ts (All-tail (λ k. k < 0xFFFFFFFF) (length t) (map length ts) h))

-- the image of streams that fit reads back as these streams
pub reads_back : (b : ℕ) (ts : List (List ℕ)) → IsBlockSize b → Fits b (map length ts) → ReadsBack b ts
unfolding parts
reads_back b ts size fits =
    let sizes = map length ts in
    let big = big_enough b size in
    let h = bounds b sizes size fits in
    let m = data_count b sizes - 1 in
    let q = nth_block b m in
    let f = 2 + directory_count b sizes in
    let short : All (λ k. k < 0xFFFFFFFF) sizes = all_short b sizes q (omega (arith, big)) (omega (arith, h.1)) (omega (arith, next_row q b, fits.short, (size_facts b size).least)) in
    let sb = length (superblock_part b sizes) in
    let bm = length (block_map_part b sizes) in
    let dir = length (directory_part b sizes) in
    let front = superblock_part b sizes ∷ block_map_part b sizes ∷ directory_part b sizes ∷ [] in
    let p = front_blocks b ts size fits in
    let three : sum_by (blocks_for b) (map length front) ≡ f =
    omega (arith, sum_by-cons (blocks_for b) sb (bm ∷ dir ∷ []), sum_by-cons (blocks_for b) bm (dir ∷ []), sum_by-cons (blocks_for b) dir [], p.0, p.1, p.2) in
    let all = streams_back b m (parts b ts) front ts big refl (all_blocks b ts size fits) (all_lengths ts short) in
    let back : map (listed_contents (image b ts) b) (listed_from b f sizes) ≡ ts = rw (image_is b ts) (rw three at all) in
    record {
      long = image_long_as_said b ts size fits;
      layout = record {
        superblock = super_back b ts size fits;
        contents = directory_part b sizes;
        directory = dir_back b ts size fits;
        lists = record {
          rest = [];
          parts = listed_parts b sizes;
          each = each_listed b f (q + 1) m sizes big (omega arith) (omega arith) h.0 short (image_fields b sizes) refl refl;
        };
      };
      streams = λ s. sym (slice_get-map (listed_contents (image b ts) b) (listed_from b f sizes) s) ∙ ap (λ (contents : List (List ℕ)). slice_get contents s) back;
    }
