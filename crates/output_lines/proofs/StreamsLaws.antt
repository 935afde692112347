-- The lines of the streams of a container.
use Rattle.std.proofs.Common.{◌≡◌, ℕ, zero, suc, ◌+◌, ◌<◌, List, [], ◌∷◌, ◌++◌, Option, Some, None, length, take, drop, inl, inr, refl, sym, ap, ◌∙◌, arith, append_assoc}
use Rattle.std.specs.Prelude.{All, IfSome, unwrap_or, option_map}
use Rattle.std.specs.Fmt.{decimal}
use Rattle.std.specs.List.{flat_map, slice_get}
use Rattle.std.proofs.lemmas.List.{append-nil, take_all}
use Rattle.std.proofs.lemmas.List.Elements.{All-get_or}
use Rattle.std.proofs.lemmas.Option.{slice_get_cases}
use Rattle.msf_superblock.specs.BlockNumber.{blocks_for}
use Rattle.msf_superblock.specs.Superblock.{Fields}
use Rattle.msf_blocks.specs.Directory.{Listed, IsListed, bytes_of}
use Rattle.msf_blocks.specs.Layout.{block_in}
use Rattle.msf_streams.specs.Streams.{blocks_in}
use Rattle.output_lines.specs.Streams.{blank_number, stream_line, stream_lines}

-- ---- the numbers of a stream's blocks

take_next : {X : Type 0} (xs : List ℕ) (f : ℕ → List X) (k x : ℕ) → slice_get xs k ≡ Some x → flat_map f (take (k + 1) xs) ≡ flat_map f (take k xs) ++ f x
take_next [] f k x there = absurd cc
take_next {X = X} (y ∷ ys) f zero x there = let same : y ≡ x = cc in rw same (append-nil (f x))
take_next {X = X} (y ∷ ys) f (suc k) x there =
    let one : suc k + 1 ≡ suc (k + 1) = omega arith in
    rw one (ap (λ (rest : List X). f y ++ rest) (take_next ys f k x there) ∙ sym (append_assoc (f y) (flat_map f (take k ys)) (f x)))

listed_block : (stream : Option Listed) (k : ℕ) → block_in stream k ≡ slice_get (blocks_in stream) k
listed_block None k = refl
listed_block (Some stream) k = refl

-- one block more
pub blocks_more : (text new before : List ℕ) (stream : Option Listed) (k block : ℕ) → block_in stream k ≡ Some block → text ≡ before ++ flat_map blank_number (take k (blocks_in stream)) → new ≡ text ++ blank_number block
    → new ≡ before ++ flat_map blank_number (take (k + 1) (blocks_in stream))
blocks_more text new before stream k block there so_far added =
    let next = take_next (blocks_in stream) blank_number k block (sym (listed_block stream k) ∙ there) in
    added ∙ rw (so_far, next) (append_assoc before (flat_map blank_number (take k (blocks_in stream))) (blank_number block))

-- five parts that are appended one after the other
pub five_parts : (t0 t1 t2 t3 t4 t5 a b c d e : List ℕ) → t1 ≡ t0 ++ a → t2 ≡ t1 ++ b → t3 ≡ t2 ++ c → t4 ≡ t3 ++ d → t5 ≡ t4 ++ e → t5 ≡ t0 ++ (a ++ b ++ c ++ d ++ e)
five_parts t0 t1 t2 t3 t4 t5 a b c d e e1 e2 e3 e4 e5 = rw (e5, e4, e3, e2, e1) (simp append_assoc)

-- ---- the lines of streams

-- a line that is appended part by part
pub line_whole : (fields : Fields) (streams : List Listed) (s size count : ℕ) (t0 t1 t2 t3 t4 : List ℕ) → All (IsListed fields) streams → size ≡ unwrap_or (option_map (λ l. bytes_of l.size) (slice_get streams s)) 0
    → count ≡ blocks_for fields.block_size size → t1 ≡ t0 ++ decimal s → t2 ≡ t1 ++ blank_number size → t3 ≡ t2 ++ flat_map blank_number (take count (blocks_in (slice_get streams s))) → t4 ≡ t3 ++ 10 ∷ []
    → IfSome (slice_get streams s) (λ stream. t4 ≡ t0 ++ stream_line s stream)
unfolding stream_line
line_whole fields streams s size count t0 t1 t2 t3 t4 each is_size is_count e1 e2 e3 e4 =
    elim (slice_get_cases streams s).1 [
      | inl (stream, below, there, same) ↦
          let listed : IsListed fields stream = rw same at (All-get_or (IsListed fields) streams s stream below each) in
          let size_is : size ≡ bytes_of stream.size = rw there at is_size in
          let long : length stream.blocks ≡ count = listed.count ∙ rw (is_count, size_is) refl in
          let blocks : t3 ≡ t2 ++ flat_map blank_number stream.blocks = (rw there at e3) ∙ rw (take_all count stream.blocks (omega (arith, long))) refl in
          let whole : t4 ≡ t0 ++ (decimal s ++ blank_number (bytes_of stream.size) ++ flat_map blank_number stream.blocks ++ 10 ∷ []) = rw (e4, blocks, e2, e1, size_is) (simp append_assoc) in
          rw there whole
      | inr (past, none) ↦ rw none tt
    ]

drop_next : (streams : List Listed) (s : ℕ) (stream : Listed) → slice_get streams s ≡ Some stream → drop s streams ≡ stream ∷ drop (s + 1) streams
drop_next [] s stream there = absurd cc
drop_next (x ∷ xs) zero stream there = let same : x ≡ stream = cc in ap (λ (y : Listed). y ∷ xs) same
drop_next (x ∷ xs) (suc s) stream there = let one : suc s + 1 ≡ suc (s + 1) = omega arith in rw one (drop_next xs s stream there)

-- one line more
pub line_more : (streams : List Listed) (s : ℕ) (text new all : List ℕ) → s < length streams → text ++ stream_lines s (drop s streams) ≡ all → IfSome (slice_get streams s) (λ stream. new ≡ text ++ stream_line s stream)
    → new ++ stream_lines (s + 1) (drop (s + 1) streams) ≡ all
unfolding stream_lines
line_more streams s text new all below so_far added =
    elim (slice_get_cases streams s).1 [
      | inl (stream, inside, there, same) ↦
          let more : new ≡ text ++ stream_line s stream = rw there at added in
          let before = rw (drop_next streams s stream there) at so_far in
          rw more (append_assoc text (stream_line s stream) (stream_lines (s + 1) (drop (s + 1) streams))) ∙ before
      | inr (past, none) ↦ absurd (omega (arith, past))
    ]
