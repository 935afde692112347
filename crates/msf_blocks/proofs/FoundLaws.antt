-- A file that has a layout fails no check.
use Rattle.std.proofs.Common.{◌≡◌, ℕ, zero, suc, ◌+◌, ◌*◌, ◌<◌, ◌≤◌, ◌^◌, true, List, [], ◌∷◌, ◌++◌, None, length, map, take, get_or, refl, sym, ap, ◌∙◌, arith}
use Rattle.std.specs.Prelude.{nat_le}
use Rattle.std.specs.List.{flat_map}
use Rattle.std.proofs.Math.Seq.{take-suc}
use Rattle.std.proofs.lemmas.Grind.{flat_map-append}
use Rattle.std.proofs.lemmas.Bool.Decides.{nat_tests}
use Rattle.std.proofs.lemmas.List.{append-nil, take_all, length-append, length-map, get_or-map, get_or_append_left, get_or-append-add}
use Rattle.std.proofs.lemmas.List.Concat.{get_or-flat_map}
use Rattle.std.proofs.lemmas.List.Folds.{length-flat_map-take}
use Rattle.std.proofs.lemmas.List.Elements.{All-get_or}
use Rattle.byte_fields.specs.Bytes.{AreBytes}
use Rattle.byte_fields.specs.Number.{nth_u32, u32s}
use Rattle.byte_fields.specs.Check.{first_failing, checks_below}
use Rattle.byte_fields.proofs.NumberLaws.{nth_u32-u32s, length-u32s, number_at-small}
use Rattle.byte_fields.proofs.CheckLaws.{checks_below-all, check_holds}
use Rattle.msf_superblock.specs.BlockNumber.{IsOrdinary, is_ordinary}
use Rattle.msf_superblock.specs.Superblock.{Fields}
use Rattle.msf_blocks.specs.Directory.{Listed, IsListed, IsDirectory, ListsStreams, directory_blocks, map_number, directory_block_check, directory_block_checks, length_checks, stream_checks, stream_block_check, stream_blocks, list_start}
use Rattle.msf_blocks.specs.Layout.{LayoutView, HasLayout, layout_checks}
use Rattle.msf_superblock.specs.declared.fault.MsfFault.TheVariants.{DirectoryBlock, StreamBlock}
use Rattle.msf_superblock.proofs.SizeLaws.{listed_short}
use Rattle.msf_blocks.proofs.DirectoryLaws.{contents_length, list_start_zero, list_start_more}
use Rattle.msf_superblock.proofs.FrontLaws.{fields_are, superblock_holds}
use Rattle.msf_blocks.proofs.LayoutLaws.{stream_answer}

-- a placeholder for a position where a list has no stream
no_stream : Listed
no_stream = record { size = 0; blocks = [] }

-- the contents begin with these sizes of streams, as many as are announced, and then these numbers of blocks
pub record Spells (contents sizes blocks : List ℕ) : Type 0 where
  pub rest : List ℕ
  pub parts : contents ≡ u32s (length sizes ∷ sizes ++ blocks) ++ rest
  pub few : length sizes < 2 ^ 32
  pub short : (t : ℕ) → t < length sizes → get_or sizes t 0 < 2 ^ 32

-- the number of streams comes first
pub spelled_count : (contents sizes blocks : List ℕ) → Spells contents sizes blocks → nth_u32 contents 0 ≡ length sizes
spelled_count contents sizes blocks h =
    ap (λ (x : List ℕ). nth_u32 x 0) h.parts ∙ nth_u32-u32s (length sizes ∷ sizes ++ blocks) h.rest 0 (omega arith) h.few

-- the sizes come next
pub spelled_size : (contents sizes blocks : List ℕ) (t : ℕ) → Spells contents sizes blocks → t < length sizes → nth_u32 contents (1 + t) ≡ get_or sizes t 0
spelled_size contents sizes blocks t h lt =
    let numbers = length sizes ∷ sizes ++ blocks in
    let one : 1 + t ≡ suc t = omega arith in
    let here : get_or numbers (1 + t) 0 ≡ get_or sizes t 0 = rw one (get_or_append_left sizes blocks 0 t lt) in
    ap (λ (x : List ℕ). nth_u32 x (1 + t)) h.parts
    ∙ nth_u32-u32s numbers h.rest (1 + t) (omega (arith, length-append sizes blocks)) (rw here (h.short t lt)) ∙ here

-- the numbers of blocks come next
pub spelled_block : (contents sizes blocks : List ℕ) (j : ℕ) → Spells contents sizes blocks → j < length blocks → get_or blocks j 0 < 2 ^ 32 → nth_u32 contents (1 + length sizes + j) ≡ get_or blocks j 0
spelled_block contents sizes blocks j h lt small =
    let numbers = length sizes ∷ sizes ++ blocks in
    let at = 1 + length sizes + j in
    let is : at ≡ suc (length sizes + j) = omega arith in
    let here : get_or numbers at 0 ≡ get_or blocks j 0 = rw is (get_or-append-add sizes blocks j 0) in
    ap (λ (x : List ℕ). nth_u32 x at) h.parts
    ∙ nth_u32-u32s numbers h.rest at (omega (arith, length-append sizes blocks)) (rw here small) ∙ here

-- the contents of a directory with a list of streams
record IsText (fields : Fields) (contents : List ℕ) (streams : List Listed) : Type 0 where
  lists : ListsStreams fields contents streams
  short : length contents < 2 ^ 32
  few_blocks : fields.num_blocks < 2 ^ 32

section_len : (fields : Fields) (contents : List ℕ) (streams : List Listed) (h : ListsStreams fields contents streams) → length contents ≡ 4 * (1 + (length streams + length (flat_map (λ s. s.blocks) streams))) + length h.rest
section_len fields contents streams h =
    let numbers = length streams ∷ map (λ s. s.size) streams ++ flat_map (λ s. s.blocks) streams in
    ap length h.parts ∙ length-append (u32s numbers) h.rest
    ∙ rw (length-u32s numbers) (omega (arith, length-append (map (λ (s : Listed). s.size) streams) (flat_map (λ s. s.blocks) streams), length-map streams (λ (s : Listed). s.size)))

text_spells : (fields : Fields) (contents : List ℕ) (streams : List Listed) → IsText fields contents streams → Spells contents (map (λ s. s.size) streams) (flat_map (λ s. s.blocks) streams)
text_spells fields contents streams h =
    let sizes = map (λ (s : Listed). s.size) streams in
    let counted : length sizes ≡ length streams = length-map streams (λ (s : Listed). s.size) in
    record {
      rest = h.lists.rest;
      parts = rw counted h.lists.parts;
      few = omega (arith, counted, h.short, section_len fields contents streams h.lists);
      short = λ t lt.
          let below : t < length streams = omega (arith, lt, counted) in
          rw (get_or-map (λ (s : Listed). s.size) streams t no_stream 0 below) (All-get_or (IsListed fields) streams t no_stream below h.lists.each).short;
    }

-- how many streams are listed
count_is : (fields : Fields) (contents : List ℕ) (streams : List Listed) → IsText fields contents streams → nth_u32 contents 0 ≡ length streams
count_is fields contents streams h = spelled_count contents _ _ (text_spells fields contents streams h) ∙ length-map streams (λ (s : Listed). s.size)

-- the size of a stream
size_is : (fields : Fields) (contents : List ℕ) (streams : List Listed) (t : ℕ) → IsText fields contents streams → t < length streams → nth_u32 contents (1 + t) ≡ (get_or streams t no_stream).size
size_is fields contents streams t h lt =
    let counted : length (map (λ (s : Listed). s.size) streams) ≡ length streams = length-map streams (λ (s : Listed). s.size) in
    spelled_size contents _ _ t (text_spells fields contents streams h) (omega (arith, counted, lt)) ∙ get_or-map (λ (s : Listed). s.size) streams t no_stream 0 lt

-- the k-th number of the list of the t-th stream
list_is : (fields : Fields) (contents : List ℕ) (streams : List Listed) (t k : ℕ) → IsText fields contents streams → t < length streams → k < length (get_or streams t no_stream).blocks
    → nth_u32 contents (1 + length streams + length (flat_map (λ s. s.blocks) (take t streams)) + k) ≡ get_or (get_or streams t no_stream).blocks k 0
list_is fields contents streams t k h lt below =
    let blocks_of = λ (s : Listed). s.blocks in
    let blocks = flat_map blocks_of streams in
    let counted : length (map (λ (s : Listed). s.size) streams) ≡ length streams = length-map streams (λ (s : Listed). s.size) in
    let start = length (flat_map blocks_of (take t streams)) in
    let within : start + length (get_or streams t no_stream).blocks ≤ length blocks = length-flat_map-take blocks_of streams t no_stream lt in
    let here : get_or blocks (start + k) 0 ≡ get_or (get_or streams t no_stream).blocks k 0 = get_or-flat_map blocks_of streams t k no_stream 0 lt below in
    let o : IsOrdinary fields.num_blocks (get_or (get_or streams t no_stream).blocks k 0) = All-get_or (IsOrdinary fields.num_blocks) (get_or streams t no_stream).blocks k 0 below (All-get_or (IsListed fields) streams t no_stream lt h.lists.each).ordinary in
    let small : get_or blocks (start + k) 0 < 2 ^ 32 = rw here (omega (arith, o.1, h.few_blocks)) in
    let at : 1 + length streams + start + k ≡ 1 + length streams + (start + k) = omega arith in
    rw at (rw counted at (spelled_block contents _ _ (start + k) (text_spells fields contents streams h) (omega (arith, within, below)) small) ∙ here)

-- a stream has as many blocks as its list has numbers
blocks_is : (fields : Fields) (contents : List ℕ) (streams : List Listed) (t : ℕ) → IsText fields contents streams → t < length streams → stream_blocks fields.block_size contents t ≡ length (get_or streams t no_stream).blocks
unfolding stream_blocks
blocks_is fields contents streams t h lt =
    rw (size_is fields contents streams t h lt) (sym (All-get_or (IsListed fields) streams t no_stream lt h.lists.each).count)

-- a list begins after the number of streams, the sizes and the lists before it
start_is : (fields : Fields) (contents : List ℕ) (streams : List Listed) (t : ℕ) → IsText fields contents streams → t ≤ length streams
    → list_start fields.block_size contents t ≡ 1 + length streams + length (flat_map (λ s. s.blocks) (take t streams))
start_is fields contents streams zero h le = omega (arith, list_start_zero fields.block_size contents, count_is fields contents streams h)
start_is fields contents streams (suc t) h le =
    let blocks_of = λ (s : Listed). s.blocks in
    let this = get_or streams t no_stream in
    let one : suc t ≡ t + 1 = omega arith in
    let more : flat_map blocks_of (take (suc t) streams) ≡ flat_map blocks_of (take t streams) ++ this.blocks =
    ap (flat_map blocks_of) (take-suc streams t no_stream (omega arith)) ∙ flat_map-append blocks_of (take t streams) (this ∷ []) ∙ ap (λ (x : List ℕ). flat_map blocks_of (take t streams) ++ x) (append-nil this.blocks) in
    let len : length (flat_map blocks_of (take (suc t) streams)) ≡ length (flat_map blocks_of (take t streams)) + length this.blocks =
    ap length more ∙ length-append (flat_map blocks_of (take t streams)) this.blocks in
    let next : list_start fields.block_size contents (suc t) ≡ list_start fields.block_size contents t + stream_blocks fields.block_size contents t = rw one (list_start_more fields.block_size contents t) in
    omega (arith, next, start_is fields contents streams t h (omega arith), blocks_is fields contents streams t h (omega arith), len)

-- the checks of a stream hold
stream_holds : (fields : Fields) (contents : List ℕ) (streams : List Listed) (t : ℕ) → IsText fields contents streams → t < length streams → first_failing (stream_checks fields contents t) ≡ None
unfolding stream_checks
stream_holds fields contents streams t h lt =
    let b = fields.block_size in
    let this = get_or streams t no_stream in
    checks_below-all (stream_block_check fields contents t) (stream_blocks b contents t) (λ k below.
    let inside : k < length this.blocks = omega (arith, below, blocks_is fields contents streams t h lt) in
    let block = nth_u32 contents (list_start b contents t + k) in
    let is : block ≡ get_or this.blocks k 0 = rw (start_is fields contents streams t h (omega arith)) (list_is fields contents streams t k h lt inside) in
    let o : IsOrdinary fields.num_blocks (get_or this.blocks k 0) = All-get_or (IsOrdinary fields.num_blocks) this.blocks k 0 inside (All-get_or (IsListed fields) streams t no_stream lt h.lists.each).ordinary in
    let ordinary : IsOrdinary fields.num_blocks block = rw is o in
    check_holds (is_ordinary fields.num_blocks block) (StreamBlock t k block) (grind (arith, nat_tests)))

-- the checks of the directory's length hold
length_holds : (fields : Fields) (contents : List ℕ) (streams : List Listed) → IsText fields contents streams → first_failing (length_checks fields.block_size contents) ≡ None
unfolding length_checks
length_holds fields contents streams h =
    let n = length streams in
    let long = section_len fields contents streams h.lists in
    let whole : take n streams ≡ streams = take_all n streams (omega arith) in
    let count = count_is fields contents streams h in
    let end : list_start fields.block_size contents n ≡ 1 + n + length (flat_map (λ s. s.blocks) streams) =
    start_is fields contents streams n h (omega arith) ∙ rw whole refl in
    let a : nat_le 4 (length contents) ≡ true = grind (arith, nat_tests) in
    let b : nat_le (4 + 4 * nth_u32 contents 0) (length contents) ≡ true = grind (arith, nat_tests) in
    let c : nat_le (4 * list_start fields.block_size contents (nth_u32 contents 0)) (length contents) ≡ true = rw count (grind (arith, nat_tests)) in
    rw (a, b, c) refl

-- the checks of the directory's blocks hold
pub blocks_hold : (file : List ℕ) (fields : Fields) (contents : List ℕ) → IsDirectory file fields contents → first_failing (directory_block_checks file fields) ≡ None
unfolding directory_block_checks
blocks_hold file fields contents h =
    checks_below-all (directory_block_check file fields) (directory_blocks fields) (λ k below.
    let block = map_number file fields k in
    let o : IsOrdinary fields.num_blocks block = h.ordinary k below in
    check_holds (is_ordinary fields.num_blocks block) (DirectoryBlock k block) (grind (arith, nat_tests)))

-- a file that has a layout fails no check
pub layout_holds : (file : List ℕ) (layout : LayoutView) → AreBytes file → HasLayout file layout → first_failing (layout_checks file) ≡ None
layout_holds file layout bytes h =
    let fields = layout.superblock in
    let is = fields_are file fields h.superblock in
    let fit = h.superblock.fit in
    let long : length h.contents ≡ fields.directory_bytes = ap length h.directory.contents_is ∙ contents_length file fields in
    let t : IsText fields h.contents layout.streams = record {
      lists = h.lists;
      short = omega (arith, long, listed_short fields.block_size fields.directory_bytes fit.block_size_fits fit.directory_fits);
      few_blocks = rw (← h.superblock.num_blocks_is) (number_at-small file 40 bytes);
    } in
    let blocks = blocks_hold file fields h.contents h.directory in
    let streams : first_failing (checks_below (length layout.streams) (stream_checks fields h.contents)) ≡ None =
    checks_below-all (stream_checks fields h.contents) (length layout.streams) (λ k lt. stream_holds fields h.contents layout.streams k t lt) in
    stream_answer file fields h.contents (length layout.streams) is h.directory.contents_is (superblock_holds file fields h.superblock) blocks (length_holds fields h.contents layout.streams t)
    (sym (count_is fields h.contents layout.streams t))
    ∙ streams
