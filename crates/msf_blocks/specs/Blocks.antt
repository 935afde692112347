-- The bytes in a list of blocks.
use Rattle.std.specs.Prelude.{ℕ, true, ◌≡◌, ◌+◌, ◌*◌, ◌/◌, ◌%◌, ◌<◌, ◌≤◌, List, length, map, get_or, slice_index}
use Rattle.std.specs.List.{range_with_len}
use Rattle.byte_io.specs.At.{Bytes}

-- the bytes in blocks with these numbers, of which there are `size`:
-- byte i is in block i / block_size of the list
unfoldable pub in_blocks : List ℕ → ℕ → List ℕ → ℕ → List ℕ
in_blocks file block_size blocks size =
    map (λ i. slice_index file (get_or blocks (i / block_size) 0 * block_size + i % block_size))
    (range_with_len 0 size)

-- each of these blocks is in the file as a whole
abbrev pub AreInside : List ℕ → ℕ → List ℕ → Type 0
AreInside file block_size blocks =
    (k : ℕ) → k < length blocks → (get_or blocks k 0 + 1) * block_size ≤ length file

-- reads gave these bytes in blocks with these numbers: byte i in block i / block_size of the list
abbrev pub AreGivenIn : Bytes → ℕ → List ℕ → List ℕ → Type 0
AreGivenIn bytes block_size blocks text =
    (i : ℕ) → i < length text
    → bytes.gives (get_or blocks (i / block_size) 0 * block_size + i % block_size) (get_or text i 0)
    ≡ true
