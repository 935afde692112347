-- A block map and contents that have a fault, made of the numbers that were read one at a time.
use Rattle.std.proofs.Common.{◌≡◌, ℕ, zero, suc, ◌+◌, ◌-◌, ◌*◌, ◌<◌, ◌≤◌, ◌^◌, true, false, List, [], ◌∷◌, ◌++◌, Some, None, length, take, get_or, refl, sym, ap, ◌∙◌, arith, append_assoc, inl, inr}
use Rattle.std.specs.Prelude.{All}
use Rattle.std.proofs.Math.Seq.{take-append_seam, get_or-append_seam}
use Rattle.std.proofs.lemmas.Bool.{cases_lt}
use Rattle.std.proofs.lemmas.Bool.Decides.{nat_tests}
use Rattle.std.proofs.lemmas.List.{append-nil, take_all, length-append, get_or_append_left}
use Rattle.std.proofs.lemmas.List.Sums.{sum_by-append, sum_by-cons, sum_by_more}
use Rattle.std.proofs.lemmas.List.Elements.{All-nil, All-push, All-append, All-get_or}
use Rattle.byte_fields.specs.Number.{nth_u32, u32s}
use Rattle.byte_fields.specs.Check.{first_failing, checks_below}
use Rattle.byte_fields.proofs.NumberLaws.{nth_u32-u32s, length-u32s}
use Rattle.byte_fields.proofs.CheckLaws.{first_failing-append_none, first_failing-append_some, checks_below-all, checks_below-stop, check_holds, check_fails}
use Rattle.byte_io.specs.At.{Bytes}
use Rattle.msf_superblock.specs.BlockNumber.{IsOrdinary, is_ordinary, blocks_for}
use Rattle.msf_superblock.specs.Superblock.{Fields}
use Rattle.msf_blocks.specs.Directory.{AreMapNumbers, IsNumberGiven, AreDirectoryBytes, AreDirectoryNumbers, IsDirectoryNumber, directory_blocks, map_start, number_check, number_checks, bytes_of, length_checks, stream_blocks, stream_block_check, stream_checks, directory_checks, list_start, blocks_together, HasSize, HasSizes, HasRoom, LacksRoom, HasBlocks, HasBadBlock, HasLists, HasBlockMap, BlockMapRefuses, ListRefuses, ContentsRefuse}
use Rattle.msf_superblock.specs.declared.fault.MsfFault.{MsfFault}
use Rattle.msf_superblock.specs.declared.fault.MsfFault.TheVariants.{DirectoryBlock, DirectoryShort, StreamBlock, Memory}
use Rattle.msf_blocks.proofs.AtLaws.{short_count, short_sizes, short_lists, long_enough}
use Rattle.msf_blocks.proofs.DirectoryLaws.{list_start_zero, list_start_more, list_start_first, list_start_upto}
use Rattle.msf_blocks.proofs.FoundLaws.{Spells, spelled_count, spelled_size, spelled_block}
use Rattle.msf_blocks.proofs.ReadNumberLaws.{none_given, more_given, one_given, text_given}

-- an ordinary number passes its test
ordinary_passes : (num_blocks n : ℕ) → IsOrdinary num_blocks n → is_ordinary num_blocks n ≡ true
ordinary_passes num_blocks n is = grind (arith, nat_tests, is.0, is.1)

-- a number that passes its test is ordinary
pub passes_ordinary : (num_blocks n : ℕ) → is_ordinary num_blocks n ≡ true → IsOrdinary num_blocks n
passes_ordinary num_blocks n is = (grind (arith, nat_tests), grind (arith, nat_tests))

-- ---- the block map

-- reads gave the first numbers of the block map, and all of them are ordinary
pub record HasMapBelow (bytes : Bytes) (fields : Fields) (count : ℕ) : Type 0 where
  pub numbers : List ℕ
  pub many : length numbers ≡ count
  pub given : AreMapNumbers bytes fields numbers
  pub ordinary : All (IsOrdinary fields.num_blocks) numbers

-- one more number was read
pushed_given : (bytes : Bytes) (fields : Fields) (numbers : List ℕ) (n : ℕ) → AreMapNumbers bytes fields numbers → IsNumberGiven bytes (map_start fields + 4 * length numbers) n → AreMapNumbers bytes fields (numbers ++ n ∷ [])
pushed_given bytes fields numbers n given here = λ k lt. elim (cases_lt k (length numbers)) [
  | inl below ↦ rw (get_or_append_left numbers (n ∷ []) 0 k below) (given k below)
  | inr le ↦
      let last : k ≡ length numbers = omega (arith, le, lt, length-append numbers (n ∷ [])) in
      rw (last, get_or-append_seam numbers n [] 0) here
]

-- one more number was read, and it is ordinary
pub more_map : (bytes : Bytes) (fields : Fields) (count n : ℕ) → HasMapBelow bytes fields count → IsNumberGiven bytes (map_start fields + 4 * count) n → is_ordinary fields.num_blocks n ≡ true → HasMapBelow bytes fields (count + 1)
more_map bytes fields count n h here ordinary = record {
  numbers = h.numbers ++ n ∷ [];
  many = omega (arith, length-append h.numbers (n ∷ []), h.many);
  given = pushed_given bytes fields h.numbers n h.given (rw h.many here);
  ordinary = All-push (IsOrdinary fields.num_blocks) h.numbers n h.ordinary (passes_ordinary fields.num_blocks n ordinary);
}

-- the checks of the first numbers hold, whatever comes after them
map_holds : (fields : Fields) (numbers rest : List ℕ) → All (IsOrdinary fields.num_blocks) numbers → first_failing (checks_below (length numbers) (number_check (numbers ++ rest) fields)) ≡ None
map_holds fields numbers rest ordinary =
    checks_below-all (number_check (numbers ++ rest) fields) (length numbers) (λ k below.
    let n = get_or (numbers ++ rest) k 0 in
    let is : n ≡ get_or numbers k 0 = get_or_append_left numbers rest 0 k below in
    check_holds (is_ordinary fields.num_blocks n) (DirectoryBlock k n) (rw is (ordinary_passes fields.num_blocks (get_or numbers k 0) (All-get_or (IsOrdinary fields.num_blocks) numbers k 0 below ordinary))))

-- a number that is not ordinary, after ordinary ones
pub map_refuses : (bytes : Bytes) (fields : Fields) (at n : ℕ) → HasMapBelow bytes fields at → IsNumberGiven bytes (map_start fields + 4 * at) n → at < directory_blocks fields → is_ordinary fields.num_blocks n ≡ false
    → BlockMapRefuses bytes fields (DirectoryBlock at n)
unfolding number_checks
map_refuses bytes fields at n h here lt bad = record {
  numbers = h.numbers ++ n ∷ [];
  given = pushed_given bytes fields h.numbers n h.given (rw h.many here);
  few = omega (arith, lt, h.many, length-append h.numbers (n ∷ []));
  refused = λ rest all.
      let whole = h.numbers ++ n ∷ rest in
      let same : (h.numbers ++ n ∷ []) ++ rest ≡ whole = append_assoc h.numbers (n ∷ []) rest in
      let this : get_or whole at 0 ≡ n = rw h.many at (get_or-append_seam h.numbers n rest 0) in
      let before : first_failing (checks_below at (number_check whole fields)) ≡ None = rw h.many at (map_holds fields h.numbers (n ∷ rest) h.ordinary) in
      rw same (checks_below-stop (number_check whole fields) at (directory_blocks fields) (DirectoryBlock at n) before
      (check_fails (is_ordinary fields.num_blocks (get_or whole at 0)) (DirectoryBlock at (get_or whole at 0)) (DirectoryBlock at n) (rw this bad) (ap (DirectoryBlock at) this)) lt);
}

-- a block map without a fault
pub map_read : (bytes : Bytes) (fields : Fields) → HasMapBelow bytes fields (directory_blocks fields) → HasBlockMap bytes fields
unfolding number_checks
map_read bytes fields h = (
  h.numbers,
  record {
    count = h.many;
    given = h.given;
    sound = rw (append-nil h.numbers, h.many) at (map_holds fields h.numbers [] h.ordinary);
  },
)

-- ---- the sizes of the streams

-- no size was read
pub no_sizes : (bytes : Bytes) (fields : Fields) (from start : ℕ) → HasSizes bytes fields from from start start
unfolding blocks_together
no_sizes bytes fields from start = record { sizes = []; given = none_given bytes fields (1 + from); many = omega arith; end_is = omega arith }

together-append : (b : ℕ) (front back : List ℕ) → blocks_together b (front ++ back) ≡ blocks_together b front + blocks_together b back
unfolding blocks_together
together-append b front back = sum_by-append (λ (size : ℕ). blocks_for b (bytes_of size)) front back

together-cons : (b size : ℕ) (sizes : List ℕ) → blocks_together b (size ∷ sizes) ≡ blocks_for b (bytes_of size) + blocks_together b sizes
unfolding blocks_together
together-cons b size sizes = sum_by-cons (λ (size : ℕ). blocks_for b (bytes_of size)) size sizes

together_more : (b : ℕ) (sizes : List ℕ) (t : ℕ) → t < length sizes → blocks_together b (take (t + 1) sizes) ≡ blocks_together b (take t sizes) + blocks_for b (bytes_of (get_or sizes t 0))
unfolding blocks_together
together_more b sizes t lt = sum_by_more (λ (size : ℕ). blocks_for b (bytes_of size)) sizes t 0 lt

-- sizes of some streams, and of the streams after them
pub join_sizes : (bytes : Bytes) (fields : Fields) (from middle to start between end : ℕ) → HasSizes bytes fields from middle start between → HasSizes bytes fields middle to between end → HasSizes bytes fields from to start end
join_sizes bytes fields from middle to start between end first later =
    let at : 1 + middle ≡ 1 + from + length first.sizes = omega (arith, first.many) in
    record {
      sizes = first.sizes ++ later.sizes;
      given = more_given bytes fields (1 + from) first.sizes later.sizes first.given (rw at at later.given);
      many = omega (arith, first.many, later.many, length-append first.sizes later.sizes);
      end_is = omega (arith, first.end_is, later.end_is, together-append fields.block_size first.sizes later.sizes);
    }

-- one size
one_size : (bytes : Bytes) (fields : Fields) (stream start blocks : ℕ) → HasSize bytes fields stream blocks → HasSizes bytes fields stream (stream + 1) start (start + blocks)
unfolding blocks_together
one_size bytes fields stream start blocks h = record {
  sizes = h.0 ∷ [];
  given = one_given bytes fields (1 + stream) h.0 h.1;
  many = omega arith;
  end_is = omega (arith, h.2, together-cons fields.block_size h.0 []);
}

-- one more size was read
pub more_sizes : (bytes : Bytes) (fields : Fields) (from stream start end blocks : ℕ) → HasSizes bytes fields from stream start end → HasSize bytes fields stream blocks → HasSizes bytes fields from (stream + 1) start (end + blocks)
more_sizes bytes fields from stream start end blocks h one = join_sizes bytes fields from stream (stream + 1) start end (end + blocks) h (one_size bytes fields stream end blocks one)

-- ---- the numbers of the blocks

-- no number was read
pub no_blocks : (bytes : Bytes) (fields : Fields) (start : ℕ) → HasBlocks bytes fields start start
no_blocks bytes fields start = record { blocks = []; given = none_given bytes fields start; end_is = omega arith; ordinary = All-nil (IsOrdinary fields.num_blocks) }

-- some numbers, and those after them
pub join_blocks : (bytes : Bytes) (fields : Fields) (start middle end : ℕ) → HasBlocks bytes fields start middle → HasBlocks bytes fields middle end → HasBlocks bytes fields start end
join_blocks bytes fields start middle end first later = record {
  blocks = first.blocks ++ later.blocks;
  given = more_given bytes fields start first.blocks later.blocks first.given (rw first.end_is at later.given);
  end_is = omega (arith, first.end_is, later.end_is, length-append first.blocks later.blocks);
  ordinary = All-append (IsOrdinary fields.num_blocks) first.blocks later.blocks first.ordinary later.ordinary;
}

-- one more number was read, and it is ordinary
pub more_blocks : (bytes : Bytes) (fields : Fields) (start end n : ℕ) → HasBlocks bytes fields start end → IsDirectoryNumber bytes fields end n → is_ordinary fields.num_blocks n ≡ true → HasBlocks bytes fields start (end + 1)
more_blocks bytes fields start end n h one ordinary =
    join_blocks bytes fields start end (end + 1) h (record {
      blocks = n ∷ [];
      given = one_given bytes fields end n one;
      end_is = omega arith;
      ordinary = All-push (IsOrdinary fields.num_blocks) [] n (All-nil (IsOrdinary fields.num_blocks)) (passes_ordinary fields.num_blocks n ordinary);
    })

-- ---- the contents

-- the text of the number of streams, their sizes, and numbers of blocks
abbrev listing : List ℕ → List ℕ → List ℕ
listing sizes blocks = u32s (length sizes ∷ sizes ++ blocks)

length-listing : (sizes blocks : List ℕ) → length (listing sizes blocks) ≡ 4 * (1 + (length sizes + length blocks))
length-listing sizes blocks = length-u32s (length sizes ∷ sizes ++ blocks) ∙ omega (arith, length-append sizes blocks)

-- such a text is spelled, whatever comes after it
listing_spells : (bytes : Bytes) (fields : Fields) (sizes blocks rest : List ℕ) → length sizes < 2 ^ 32 → AreDirectoryNumbers bytes fields 1 sizes → Spells (listing sizes blocks ++ rest) sizes blocks
listing_spells bytes fields sizes blocks rest few given = record { rest = rest; parts = refl; few = few; short = λ t lt. (given t lt).short }

-- it was given if its numbers were
listing_given : (bytes : Bytes) (fields : Fields) (streams : ℕ) (sizes blocks : List ℕ) → streams ≡ length sizes → IsDirectoryNumber bytes fields 0 streams → AreDirectoryNumbers bytes fields 1 sizes → AreDirectoryNumbers bytes fields (1 + streams) blocks
    → AreDirectoryBytes bytes fields 0 (listing sizes blocks)
listing_given bytes fields streams sizes blocks many count sizes_given blocks_given =
    let tail = more_given bytes fields 1 sizes blocks sizes_given (rw many at blocks_given) in
    text_given bytes fields 0 (length sizes ∷ sizes ++ blocks) (more_given bytes fields 0 (length sizes ∷ []) (sizes ++ blocks) (one_given bytes fields 0 (length sizes) (rw many at count)) tail)

-- a stream has as many blocks as its size needs
spelled_blocks : (b : ℕ) (contents sizes blocks : List ℕ) (t : ℕ) → Spells contents sizes blocks → t < length sizes → stream_blocks b contents t ≡ blocks_for b (bytes_of (get_or sizes t 0))
unfolding stream_blocks
spelled_blocks b contents sizes blocks t h lt = rw (spelled_size contents sizes blocks t h lt) refl

-- a list begins after the number of streams, the sizes and the blocks of the streams before it
spelled_start : (b : ℕ) (contents sizes blocks : List ℕ) (t : ℕ) → Spells contents sizes blocks → t ≤ length sizes → list_start b contents t ≡ 1 + length sizes + blocks_together b (take t sizes)
unfolding blocks_together
spelled_start b contents sizes blocks zero h le = omega (arith, list_start_zero b contents, spelled_count contents sizes blocks h)
spelled_start b contents sizes blocks (suc t) h le =
    let one : suc t ≡ t + 1 = omega arith in
    rw one (omega (arith, list_start_more b contents t, spelled_start b contents sizes blocks t h (omega arith), spelled_blocks b contents sizes blocks t h (omega arith), together_more b sizes t (omega arith)))

-- the last list ends where the sizes say
spelled_end : (b : ℕ) (contents sizes blocks : List ℕ) → Spells contents sizes blocks → list_start b contents (nth_u32 contents 0) ≡ 1 + length sizes + blocks_together b sizes
spelled_end b contents sizes blocks h =
    let whole : take (length sizes) sizes ≡ sizes = take_all (length sizes) sizes (omega arith) in
    rw (spelled_count contents sizes blocks h) (rw whole at (spelled_start b contents sizes blocks (length sizes) h (omega arith)))

-- ---- contents that are too short

-- too short for the number of streams
pub count_refused : (bytes : Bytes) (fields : Fields) → fields.directory_bytes < 4 → ContentsRefuse bytes fields (DirectoryShort 4 fields.directory_bytes)
count_refused bytes fields lt = record {
  text = [];
  given = λ i below. absurd (omega (arith, below));
  few = omega arith;
  refused = λ rest all.
      let len : length rest ≡ fields.directory_bytes = omega (arith, all) in
      let first : first_failing (length_checks fields.block_size rest) ≡ Some (DirectoryShort 4 fields.directory_bytes) = rw len at (short_count fields.block_size rest (omega (arith, len, lt))) in
      inl (first_failing-append_some (length_checks fields.block_size rest) _ _ first);
}

-- too short for the sizes
pub sizes_refused : (bytes : Bytes) (fields : Fields) (streams : ℕ) → IsDirectoryNumber bytes fields 0 streams → 4 ≤ fields.directory_bytes → fields.directory_bytes < 4 + 4 * streams
    → ContentsRefuse bytes fields (DirectoryShort (4 + 4 * streams) fields.directory_bytes)
sizes_refused bytes fields streams given le lt =
    let b = fields.block_size in
    let have = fields.directory_bytes in
    let text = u32s (streams ∷ []) in
    record {
      text = text;
      given = text_given bytes fields 0 (streams ∷ []) (one_given bytes fields 0 streams given);
      few = omega (arith, le, length-u32s (streams ∷ []));
      refused = λ rest all.
          let contents = text ++ rest in
          let len : length contents ≡ have = length-append text rest ∙ all in
          let count : nth_u32 contents 0 ≡ streams = nth_u32-u32s (streams ∷ []) rest 0 (omega arith) given.short in
          let first : first_failing (length_checks b contents) ≡ Some (DirectoryShort (4 + 4 * streams) have) =
          rw (len, count) at (short_sizes b contents (omega (arith, len, le)) (omega (arith, len, count, lt))) in
          inl (first_failing-append_some (length_checks b contents) _ _ first);
    }

-- too short for the lists of blocks
pub lists_refused : (bytes : Bytes) (fields : Fields) (streams : ℕ) (fault : MsfFault) → IsDirectoryNumber bytes fields 0 streams → LacksRoom bytes fields 0 streams (1 + streams) fault → 4 * (1 + streams) ≤ fields.directory_bytes
    → ContentsRefuse bytes fields fault
lists_refused bytes fields streams fault count lacks room =
    let b = fields.block_size in
    let have = fields.directory_bytes in
    let end = lacks.0 in
    let sizes = lacks.1.sizes in
    let many : streams ≡ length sizes = omega (arith, lacks.1.many) in
    let text = listing sizes [] in
    record {
      text = text;
      given = listing_given bytes fields streams sizes [] many count lacks.1.given (none_given bytes fields (1 + streams));
      few = omega (arith, length-listing sizes [], many, room);
      refused = λ rest all.
          let contents = text ++ rest in
          let len : length contents ≡ have = length-append text rest ∙ all in
          let spells : Spells contents sizes [] = listing_spells bytes fields sizes [] rest (omega (arith, many, count.short)) lacks.1.given in
          let first_count : nth_u32 contents 0 ≡ streams = omega (arith, spelled_count contents sizes [] spells, many) in
          let last : list_start b contents (nth_u32 contents 0) ≡ end = omega (arith, spelled_end b contents sizes [] spells, lacks.1.end_is, many) in
          let first : first_failing (length_checks b contents) ≡ Some (DirectoryShort (4 * end) have) =
          rw (len, last) at (short_lists b contents (omega (arith, len, room)) (omega (arith, len, first_count, room)) (omega (arith, len, last, lacks.2))) in
          rw lacks.3 (inl (first_failing-append_some (length_checks b contents) _ _ first));
    }

-- ---- contents that are long enough

-- contents with these sizes and numbers of blocks, of which the first `m` are ordinary
record IsFilled (fields : Fields) (contents sizes blocks : List ℕ) (m : ℕ) : Type 0 where
  spells : Spells contents sizes blocks
  count : length contents ≡ fields.directory_bytes
  long : 4 * (1 + length sizes + blocks_together fields.block_size sizes) ≤ fields.directory_bytes
  short : (j : ℕ) → j < length blocks → get_or blocks j 0 < 2 ^ 32
  some : m ≤ length blocks
  ordinary : (j : ℕ) → j < m → is_ordinary fields.num_blocks (get_or blocks j 0) ≡ true

-- the number of a block
filled_block : (fields : Fields) (contents sizes blocks : List ℕ) (m j : ℕ) → IsFilled fields contents sizes blocks m → j < length blocks → nth_u32 contents (1 + length sizes + j) ≡ get_or blocks j 0
filled_block fields contents sizes blocks m j h lt = spelled_block contents sizes blocks j h.spells lt (h.short j lt)

-- the first numbers of a stream are ordinary
numbers_hold : (fields : Fields) (contents sizes blocks : List ℕ) (m t upto : ℕ) → IsFilled fields contents sizes blocks m → list_start fields.block_size contents t + upto ≤ 1 + length sizes + m
    → first_failing (checks_below upto (stream_block_check fields contents t)) ≡ None
numbers_hold fields contents sizes blocks m t upto h within =
    let start = list_start fields.block_size contents t in
    let first : 1 + length sizes ≤ start = omega (arith, list_start_first fields.block_size contents t, spelled_count contents sizes _ h.spells) in
    checks_below-all (stream_block_check fields contents t) upto (λ k below.
    let block = nth_u32 contents (start + k) in
    let j = start + k - (1 + length sizes) in
    let at : start + k ≡ 1 + length sizes + j = omega (arith, first) in
    let lt : j < m = omega (arith, within, below, first) in
    let is : block ≡ get_or blocks j 0 = ap (nth_u32 contents) at ∙ filled_block fields contents sizes blocks m j h (omega (arith, lt, h.some)) in
    check_holds (is_ordinary fields.num_blocks block) (StreamBlock t k block) (rw is (h.ordinary j lt)))

-- the checks of the first streams hold
streams_hold : (fields : Fields) (contents sizes blocks : List ℕ) (m n : ℕ) → IsFilled fields contents sizes blocks m → list_start fields.block_size contents n ≤ 1 + length sizes + m
    → first_failing (checks_below n (stream_checks fields contents)) ≡ None
unfolding stream_checks
streams_hold fields contents sizes blocks m n h within =
    let b = fields.block_size in
    checks_below-all (stream_checks fields contents) n (λ t lt.
    numbers_hold fields contents sizes blocks m t (stream_blocks b contents t) h (omega (arith, within, (list_start_upto b contents t n lt).0)))

-- the checks of the length hold
filled_long : (fields : Fields) (contents sizes blocks : List ℕ) (m : ℕ) → IsFilled fields contents sizes blocks m → first_failing (length_checks fields.block_size contents) ≡ None
filled_long fields contents sizes blocks m h =
    let count = spelled_count contents sizes _ h.spells in
    let end = spelled_end fields.block_size contents sizes _ h.spells in
    long_enough fields.block_size contents (omega (arith, h.long, h.count)) (omega (arith, h.long, h.count, count)) (omega (arith, h.long, h.count, end))

-- all checks hold where all numbers are ordinary
filled_holds : (fields : Fields) (contents sizes blocks : List ℕ) (m : ℕ) → IsFilled fields contents sizes blocks m → blocks_together fields.block_size sizes ≡ m → first_failing (directory_checks fields contents) ≡ None
filled_holds fields contents sizes blocks m h all =
    let end = spelled_end fields.block_size contents sizes _ h.spells in
    first_failing-append_none (length_checks fields.block_size contents) _ (filled_long fields contents sizes blocks m h)
    ∙ streams_hold fields contents sizes blocks m (nth_u32 contents 0) h (omega (arith, end, all))

-- the first fault is that of the number after them
filled_stops : (fields : Fields) (contents sizes blocks : List ℕ) (m t at n : ℕ) → IsFilled fields contents sizes blocks m → t < length sizes → at < stream_blocks fields.block_size contents t
    → list_start fields.block_size contents t + at ≡ 1 + length sizes + m → m < length blocks → get_or blocks m 0 ≡ n → is_ordinary fields.num_blocks n ≡ false → first_failing (directory_checks fields contents) ≡ Some (StreamBlock t at n)
unfolding stream_checks
filled_stops fields contents sizes blocks m t at n h lt below there inside this bad =
    let b = fields.block_size in
    let block = nth_u32 contents (list_start b contents t + at) in
    let is : block ≡ n = ap (nth_u32 contents) there ∙ filled_block fields contents sizes blocks m m h inside ∙ this in
    let here : first_failing (stream_checks fields contents t) ≡ Some (StreamBlock t at n) =
    checks_below-stop (stream_block_check fields contents t) at (stream_blocks b contents t) (StreamBlock t at n) (numbers_hold fields contents sizes blocks m t at h (omega (arith, there)))
    (check_fails (is_ordinary fields.num_blocks block) (StreamBlock t at block) (StreamBlock t at n) (rw is bad) (ap (StreamBlock t at) is)) below in
    first_failing-append_none (length_checks b contents) _ (filled_long fields contents sizes blocks m h)
    ∙ checks_below-stop (stream_checks fields contents) t (nth_u32 contents 0) (StreamBlock t at n) (streams_hold fields contents sizes blocks m t h (omega (arith, there))) here
    (omega (arith, lt, spelled_count contents sizes _ h.spells))

-- contents that begin with what reads gave
listing_filled : (bytes : Bytes) (fields : Fields) (streams end : ℕ) (blocks rest : List ℕ) (m : ℕ) (h : HasSizes bytes fields 0 streams (1 + streams) end) → streams < 2 ^ 32 → 4 * end ≤ fields.directory_bytes
    → length (listing h.sizes blocks) + length rest ≡ fields.directory_bytes → AreDirectoryNumbers bytes fields (1 + streams) blocks → m ≤ length blocks → ((j : ℕ) → j < m → is_ordinary fields.num_blocks (get_or blocks j 0) ≡ true)
    → IsFilled fields (listing h.sizes blocks ++ rest) h.sizes blocks m
listing_filled bytes fields streams end blocks rest m h few room all given some ordinary =
    let many : streams ≡ length h.sizes = omega (arith, h.many) in
    record {
      spells = listing_spells bytes fields h.sizes blocks rest (omega (arith, many, few)) h.given;
      count = length-append (listing h.sizes blocks) rest ∙ all;
      long = omega (arith, room, h.end_is, many);
      short = λ j lt. (given j lt).short;
      some = some;
      ordinary = ordinary;
    }

-- ordinary numbers pass their tests
all_pass : (num_blocks : ℕ) (blocks : List ℕ) (j : ℕ) → All (IsOrdinary num_blocks) blocks → j < length blocks → is_ordinary num_blocks (get_or blocks j 0) ≡ true
all_pass num_blocks blocks j all lt = ordinary_passes num_blocks (get_or blocks j 0) (All-get_or (IsOrdinary num_blocks) blocks j 0 lt all)

-- contents without a fault
pub contents_sound : (bytes : Bytes) (fields : Fields) (streams end : ℕ) → HasLists bytes fields streams streams end → 4 * end ≤ fields.directory_bytes → ContentsRefuse bytes fields Memory
contents_sound bytes fields streams end h room =
    let sizes = h.sizes.sizes in
    let blocks = h.blocks.blocks in
    let many : streams ≡ length sizes = omega (arith, h.sizes.many) in
    record {
      text = listing sizes blocks;
      given = listing_given bytes fields streams sizes blocks many h.count h.sizes.given h.blocks.given;
      few = omega (arith, length-listing sizes blocks, many, h.blocks.end_is, room);
      refused = λ rest all.
          let filled = listing_filled bytes fields streams end blocks rest (length blocks) h.sizes h.count.short room all h.blocks.given (omega arith) (λ j lt. all_pass fields.num_blocks blocks j h.blocks.ordinary lt) in
          inr (refl, filled_holds fields (listing sizes blocks ++ rest) sizes blocks (length blocks) filled (omega (arith, h.sizes.end_is, h.blocks.end_is)));
    }

-- contents with a number that is not ordinary, after ordinary ones
pub block_refused : (bytes : Bytes) (fields : Fields) (streams t start count : ℕ) (fault : MsfFault) → HasLists bytes fields streams t start → HasSize bytes fields t count → HasRoom bytes fields (t + 1) streams (start + count)
    → HasBadBlock bytes fields t start count fault → ContentsRefuse bytes fields fault
unfolding join_sizes one_size
block_refused bytes fields streams t start count fault h one room bad =
    let b = fields.block_size in
    let end = room.0 in
    let this = one_size bytes fields t start count one in
    let others = join_sizes bytes fields t (t + 1) streams start (start + count) end this room.1 in
    let every = join_sizes bytes fields 0 t streams (1 + streams) start end h.sizes others in
    let sizes = every.sizes in
    let many : streams ≡ length sizes = omega (arith, every.many) in
    let before = join_blocks bytes fields (1 + streams) start (start + bad.at) h.blocks bad.before in
    let m = length before.blocks in
    let blocks = before.blocks ++ bad.n ∷ [] in
    let at_end : start + bad.at ≡ 1 + streams + m = before.end_is in
    let given : AreDirectoryNumbers bytes fields (1 + streams) blocks = more_given bytes fields (1 + streams) before.blocks (bad.n ∷ []) before.given (rw at_end at (one_given bytes fields (start + bad.at) bad.n bad.given)) in
    let one_more : length blocks ≡ m + 1 = length-append before.blocks (bad.n ∷ []) in
    let fits : start + count ≤ end = omega (arith, room.1.end_is) in
    record {
      text = listing sizes blocks;
      given = listing_given bytes fields streams sizes blocks many h.count every.given given;
      few = omega (arith, length-listing sizes blocks, many, at_end, one_more, bad.below, fits, room.2);
      refused = λ rest all.
          let contents = listing sizes blocks ++ rest in
          let filled = listing_filled bytes fields streams end blocks rest m every h.count.short room.2 all given (omega (arith, one_more)) (λ j lt.
          rw (get_or_append_left before.blocks (bad.n ∷ []) 0 j lt) (all_pass fields.num_blocks before.blocks j before.ordinary lt)) in
          let inside : t < length sizes = omega (arith, many, room.1.many) in
          let first_sizes : t ≡ length h.sizes.sizes = omega (arith, h.sizes.many) in
          let listed : get_or sizes t 0 ≡ one.0 = ap (λ (i : ℕ). get_or sizes i 0) first_sizes ∙ get_or-append_seam h.sizes.sizes one.0 room.1.sizes 0 in
          let here : stream_blocks b contents t ≡ count = spelled_blocks b contents sizes blocks t filled.spells inside ∙ rw listed (sym one.2) in
          let front : take t sizes ≡ h.sizes.sizes = ap (λ (i : ℕ). take i sizes) first_sizes ∙ take-append_seam h.sizes.sizes others.sizes in
          let begin : list_start b contents t ≡ start = omega (arith, rw front at (spelled_start b contents sizes blocks t filled.spells (omega (arith, inside))), many, h.sizes.end_is) in
          rw bad.fault_is (inl (filled_stops fields contents sizes blocks m t bad.at bad.n filled inside (omega (arith, here, bad.below)) (omega (arith, begin, many, at_end)) (omega (arith, one_more))
          (get_or-append_seam before.blocks bad.n [] 0) bad.bad));
    }

-- contents that are too short for the lists: those read before, one more, and those after it
pub rest_refused : (bytes : Bytes) (fields : Fields) (streams t start count : ℕ) (fault : MsfFault) → HasLists bytes fields streams t start → HasSize bytes fields t count → LacksRoom bytes fields (t + 1) streams (start + count) fault
    → 4 * (1 + streams) ≤ fields.directory_bytes → ContentsRefuse bytes fields fault
rest_refused bytes fields streams t start count fault h one lacks room =
    let read = more_sizes bytes fields 0 t (1 + streams) start count h.sizes one in
    lists_refused bytes fields streams fault h.count (lacks.0, join_sizes bytes fields 0 (t + 1) streams (1 + streams) (start + count) lacks.0 read lacks.1, lacks.2, lacks.3) room

-- a list with a fault, in a directory that is long enough for all lists
pub list_refused : (bytes : Bytes) (fields : Fields) (streams t start count : ℕ) (fault : MsfFault) → HasLists bytes fields streams t start → HasSize bytes fields t count → HasRoom bytes fields (t + 1) streams (start + count)
    → ListRefuses bytes fields t start count fault → ContentsRefuse bytes fields fault
list_refused bytes fields streams t start count fault h one room refuses = elim refuses [
  | inl short ↦ absurd (omega (arith, short, room.2, room.1.end_is))
  | inr bad ↦ block_refused bytes fields streams t start count fault h one room bad
]

-- the list of one more stream was read
pub more_lists : (bytes : Bytes) (fields : Fields) (streams t start count : ℕ) → HasLists bytes fields streams t start → HasSize bytes fields t count → HasBlocks bytes fields start (start + count) → HasLists bytes fields streams (t + 1) (start + count)
more_lists bytes fields streams t start count h one blocks = record {
  count = h.count;
  sizes = more_sizes bytes fields 0 t (1 + streams) start count h.sizes one;
  blocks = join_blocks bytes fields (1 + streams) start (start + count) h.blocks blocks;
}

-- no list was read
pub no_lists : (bytes : Bytes) (fields : Fields) (streams : ℕ) → IsDirectoryNumber bytes fields 0 streams → HasLists bytes fields streams 0 (1 + streams)
no_lists bytes fields streams count = record { count = count; sizes = no_sizes bytes fields 0 (1 + streams); blocks = no_blocks bytes fields (1 + streams) }
