-- A file has at most one layout.
use Rattle.std.proofs.Common.{◌≡◌, ℕ, ◌+◌, ◌*◌, ◌<◌, ◌^◌, List, [], ◌∷◌, ◌++◌, length, map, drop, get_or, refl, sym, ap, ◌∙◌, arith, append_assoc}
use Rattle.std.specs.List.{flat_map, AllByRecursion, All}
use Rattle.std.proofs.lemmas.Grind.{flat_map-append}
use Rattle.std.proofs.lemmas.List.{length-append, length-map, append_cancel_left}
use Rattle.std.proofs.lemmas.List.Elements.{All-head, All-tail}
use Rattle.byte_fields.specs.Bytes.{AreBytes}
use Rattle.byte_fields.specs.Number.{four_bytes, u32s, nth_u32}
use Rattle.byte_fields.proofs.NumberLaws.{nth_u32-u32s, length-u32s, number_at-small}
use Rattle.msf_superblock.specs.BlockNumber.{IsOrdinary, blocks_for}
use Rattle.msf_superblock.specs.Superblock.{Fields}
use Rattle.msf_blocks.specs.Directory.{Listed, IsListed, ListsStreams, bytes_of, directory_contents}
use Rattle.msf_blocks.specs.Layout.{LayoutView, HasLayout}
use Rattle.msf_superblock.proofs.FrontLaws.{fields_are}
use Rattle.msf_blocks.proofs.DirectoryLaws.{contents_length}

-- numbers of four bytes
abbrev IsSmall : ℕ → Type 0
IsSmall n = n < 2 ^ 32

-- two numbers at the front of the same bytes are the same, and so are the bytes after them
first_same : (m n : ℕ) (xs ys : List ℕ) → IsSmall m → IsSmall n → u32s (m ∷ []) ++ xs ≡ u32s (n ∷ []) ++ ys → (m ≡ n) × (xs ≡ ys)
first_same m n xs ys small_m small_n e =
    let same : m ≡ n = sym (nth_u32-u32s (m ∷ []) xs 0 (omega arith) small_m) ∙ ap (λ (t : List ℕ). nth_u32 t 0) e ∙ nth_u32-u32s (n ∷ []) ys 0 (omega arith) small_n in
    (same, append_cancel_left (u32s (n ∷ [])) xs ys (rw same at e))

-- the first of several numbers
u32s_first : (n : ℕ) (ns xs : List ℕ) → u32s (n ∷ ns) ++ xs ≡ u32s (n ∷ []) ++ (u32s ns ++ xs)
u32s_first n ns xs = ap (λ (t : List ℕ). t ++ xs) (flat_map-append four_bytes (n ∷ []) ns) ∙ append_assoc (u32s (n ∷ [])) (u32s ns) xs

-- two lists of numbers of the same length at the front of the same bytes are the same
pub numbers_same : (ms ns xs ys : List ℕ) → length ms ≡ length ns → AllByRecursion IsSmall ms → AllByRecursion IsSmall ns → u32s ms ++ xs ≡ u32s ns ++ ys → (ms ≡ ns) × (xs ≡ ys)
numbers_same [] [] xs ys many small_m small_n e = (refl, e)
numbers_same [] (n ∷ ns) xs ys many small_m small_n e = absurd (omega (arith, many))
numbers_same (m ∷ ms) [] xs ys many small_m small_n e = absurd (omega (arith, many))
numbers_same (m ∷ ms) (n ∷ ns) xs ys many small_m small_n e =
    let first = first_same m n (u32s ms ++ xs) (u32s ns ++ ys) small_m.0 small_n.0 (sym (u32s_first m ms xs) ∙ e ∙ u32s_first n ns ys) in
    let others = numbers_same ms ns xs ys (omega (arith, many)) small_m.1 small_n.1 first.1 in
    (rw (first.0, others.0) refl, others.1)

-- the numbers of the blocks of a stream are numbers of four bytes
ordinary_small : (num_blocks : ℕ) (blocks : List ℕ) → num_blocks < 2 ^ 32 → All (IsOrdinary num_blocks) blocks → AllByRecursion IsSmall blocks
ordinary_small num_blocks [] few each = tt
ordinary_small num_blocks (block ∷ blocks) few each =
    (omega (arith, (All-head (IsOrdinary num_blocks) block blocks each).1), ordinary_small num_blocks blocks few (All-tail (IsOrdinary num_blocks) block blocks each))

sizes_small : (fields : Fields) (streams : List Listed) → All (IsListed fields) streams → AllByRecursion IsSmall (map (λ s. s.size) streams)
sizes_small fields [] each = tt
sizes_small fields (stream ∷ streams) each = ((All-head (IsListed fields) stream streams each).short, sizes_small fields streams (All-tail (IsListed fields) stream streams each))

-- the bytes of the lists of blocks
abbrev lists_of : List Listed → List ℕ
lists_of streams = u32s (flat_map (λ s. s.blocks) streams)

lists_first : (stream : Listed) (streams : List Listed) (xs : List ℕ) → lists_of (stream ∷ streams) ++ xs ≡ u32s stream.blocks ++ (lists_of streams ++ xs)
lists_first stream streams xs =
    let blocks = flat_map (λ (s : Listed). s.blocks) streams in
    ap (λ (t : List ℕ). t ++ xs) (flat_map-append four_bytes stream.blocks blocks) ∙ append_assoc (u32s stream.blocks) (u32s blocks) xs

-- streams of the same sizes, whose lists are at the front of the same bytes, are the same
pub lists_same : (fields : Fields) (ss ts : List Listed) (xs ys : List ℕ) → fields.num_blocks < 2 ^ 32 → All (IsListed fields) ss → All (IsListed fields) ts → map (λ s. s.size) ss ≡ map (λ s. s.size) ts
    → lists_of ss ++ xs ≡ lists_of ts ++ ys → ss ≡ ts
lists_same fields [] [] xs ys few each_s each_t sizes e = refl
lists_same fields [] (t ∷ ts) xs ys few each_s each_t sizes e = absurd (omega (arith, ap length sizes))
lists_same fields (s ∷ ss) [] xs ys few each_s each_t sizes e = absurd (omega (arith, ap length sizes))
lists_same fields (s ∷ ss) (t ∷ ts) xs ys few each_s each_t sizes e =
    let is_s = All-head (IsListed fields) s ss each_s in
    let is_t = All-head (IsListed fields) t ts each_t in
    let size : s.size ≡ t.size = ap (λ (ns : List ℕ). get_or ns 0 0) sizes in
    let others : map (λ (u : Listed). u.size) ss ≡ map (λ (u : Listed). u.size) ts = ap (λ (ns : List ℕ). drop 1 ns) sizes in
    let many : length s.blocks ≡ length t.blocks = is_s.count ∙ ap (λ (n : ℕ). blocks_for fields.block_size (bytes_of n)) size ∙ sym is_t.count in
    let same = numbers_same s.blocks t.blocks (lists_of ss ++ xs) (lists_of ts ++ ys) many (ordinary_small fields.num_blocks s.blocks few is_s.ordinary) (ordinary_small fields.num_blocks t.blocks few is_t.ordinary)
    (sym (lists_first s ss xs) ∙ e ∙ lists_first t ts ys) in
    let rest = lists_same fields ss ts xs ys few (All-tail (IsListed fields) s ss each_s) (All-tail (IsListed fields) t ts each_t) others same.1 in
    let head : s ≡ t = rw (size, same.0) refl in
    rw (head, rest) refl

-- a directory is the number of streams, the sizes and the lists
contents_parts : (streams : List Listed) (xs : List ℕ)
    → u32s (length streams ∷ map (λ s. s.size) streams ++ flat_map (λ s. s.blocks) streams) ++ xs ≡ u32s (length streams ∷ []) ++ (u32s (map (λ s. s.size) streams) ++ (lists_of streams ++ xs))
contents_parts streams xs =
    let sizes = map (λ (s : Listed). s.size) streams in
    let blocks = flat_map (λ (s : Listed). s.blocks) streams in
    u32s_first (length streams) (sizes ++ blocks) xs
    ∙ ap (λ (t : List ℕ). u32s (length streams ∷ []) ++ t) (ap (λ (t : List ℕ). t ++ xs) (flat_map-append four_bytes sizes blocks) ∙ append_assoc (u32s sizes) (u32s blocks) xs)

-- the number of streams of a directory fits in four bytes
count_small : (fields : Fields) (contents : List ℕ) (streams : List Listed) → length contents < 2 ^ 32 → ListsStreams fields contents streams → IsSmall (length streams)
count_small fields contents streams short h =
    let numbers = length streams ∷ map (λ s. s.size) streams ++ flat_map (λ s. s.blocks) streams in
    let long : length contents ≡ 4 * length numbers + length h.rest = ap length h.parts ∙ length-append (u32s numbers) h.rest ∙ rw (length-u32s numbers) refl in
    omega (arith, long, short, length-append (map (λ (s : Listed). s.size) streams) (flat_map (λ (s : Listed). s.blocks) streams), length-map streams (λ (s : Listed). s.size))

-- a directory lists at most one list of streams
pub streams_same : (fields : Fields) (contents : List ℕ) (ss ts : List Listed) → fields.num_blocks < 2 ^ 32 → length contents < 2 ^ 32 → ListsStreams fields contents ss → ListsStreams fields contents ts → ss ≡ ts
streams_same fields contents ss ts few short lists_s lists_t =
    let sizes_s = map (λ (s : Listed). s.size) ss in
    let sizes_t = map (λ (s : Listed). s.size) ts in
    let e = sym (contents_parts ss lists_s.rest) ∙ sym lists_s.parts ∙ lists_t.parts ∙ contents_parts ts lists_t.rest in
    let first = first_same (length ss) (length ts) (u32s sizes_s ++ (lists_of ss ++ lists_s.rest)) (u32s sizes_t ++ (lists_of ts ++ lists_t.rest)) (count_small fields contents ss short lists_s) (count_small fields contents ts short lists_t) e in
    let many : length sizes_s ≡ length sizes_t = length-map ss (λ (s : Listed). s.size) ∙ first.0 ∙ sym (length-map ts (λ (s : Listed). s.size)) in
    let sizes = numbers_same sizes_s sizes_t (lists_of ss ++ lists_s.rest) (lists_of ts ++ lists_t.rest) many (sizes_small fields ss lists_s.each) (sizes_small fields ts lists_t.each) first.1 in
    lists_same fields ss ts lists_s.rest lists_t.rest few lists_s.each lists_t.each sizes.0 sizes.1

-- a file has at most one layout, if the numbers of one layout fit in four bytes
pub one_layout_short : (file : List ℕ) (some other : LayoutView) → some.superblock.num_blocks < 2 ^ 32 → some.superblock.directory_bytes < 2 ^ 32 → HasLayout file some → HasLayout file other → some ≡ other
one_layout_short file some other few bytes has_s has_o =
    let fields : some.superblock ≡ other.superblock = fields_are file some.superblock has_s.superblock ∙ sym (fields_are file other.superblock has_o.superblock) in
    let contents : has_o.contents ≡ has_s.contents = has_o.directory.contents_is ∙ ap (directory_contents file) (sym fields) ∙ sym has_s.directory.contents_is in
    let short : length has_s.contents < 2 ^ 32 = rw (ap length has_s.directory.contents_is ∙ contents_length file some.superblock) bytes in
    let lists : ListsStreams some.superblock has_s.contents other.streams = rw (fields, ← contents) has_o.lists in
    let streams = streams_same some.superblock has_s.contents some.streams other.streams few short has_s.lists lists in
    rw (fields, streams) refl

-- a file of bytes has at most one layout
pub one_layout : (file : List ℕ) (some other : LayoutView) → AreBytes file → HasLayout file some → HasLayout file other → some ≡ other
one_layout file some other bytes has_s has_o =
    one_layout_short file some other (rw (← has_s.superblock.num_blocks_is) (number_at-small file 40 bytes)) (rw (← has_s.superblock.directory_bytes_is) (number_at-small file 44 bytes)) has_s has_o
