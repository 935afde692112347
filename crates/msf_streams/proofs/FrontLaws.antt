-- The parts of an image before its streams, number by number.
use Rattle.std.proofs.Common.{◌≡◌, ℕ, ◌+◌, ◌*◌, ◌<◌, ◌≤◌, ◌^◌, List, [], ◌∷◌, ◌++◌, length, map, take, get_or, refl, sym, ap, ◌∙◌, arith}
use Rattle.std.specs.Prelude.{All}
use Rattle.std.proofs.lemmas.List.Elements.{All-push, All-map}
use lib.ListN.{set}
use Rattle.std.proofs.lemmas.List.{take_more, take_more_set, take_all, map-append}
use Rattle.byte_fields.specs.Number.{u32s}
use Rattle.msf_superblock.specs.BlockNumber.{blocks_for, nth_block}
use Rattle.msf_superblock.specs.Superblock.{magic}
use Rattle.msf_superblock.specs.BlockNumber.{block_numbers}
use Rattle.msf_streams.specs.Image.{blocks_of_all, directory_len, directory_count, image_blocks, superblock_part, block_map_part, directory_part}
use Rattle.msf_streams.proofs.ImageLaws.{five_streams}

-- ---- the parts before the streams

-- the superblock
pub superblock_is : (b n blocks len addr : ℕ) (sizes bytes : List ℕ) → length sizes ≡ 5 → n ≡ image_blocks b sizes → blocks ≡ blocks_of_all b sizes → len ≡ 4 * (6 + blocks) → addr ≡ nth_block b 1
    → bytes ≡ magic ++ u32s (b ∷ 1 ∷ n ∷ len ∷ 0 ∷ addr ∷ []) → bytes ≡ superblock_part b sizes
unfolding superblock_part
superblock_is b n blocks len addr sizes bytes five count all long at e =
    let same : len ≡ directory_len b sizes = omega (arith, five, all, long) in
    e ∙ rw (count, same, at) refl

-- the block map
pub block_map_is : (b blocks directory : ℕ) (sizes bytes : List ℕ) → length sizes ≡ 5 → blocks ≡ blocks_of_all b sizes → directory ≡ blocks_for b (4 * (6 + blocks))
    → bytes ≡ u32s (block_numbers b 2 directory) → bytes ≡ block_map_part b sizes
unfolding block_map_part
block_map_is b blocks directory sizes bytes five all is e = e ∙ rw ((five_streams b blocks directory sizes five all is).0) refl

-- the directory
pub directory_is : (b blocks directory : ℕ) (sizes bytes : List ℕ) → length sizes ≡ 5 → blocks ≡ blocks_of_all b sizes → directory ≡ blocks_for b (4 * (6 + blocks))
    → bytes ≡ u32s (5 ∷ sizes ++ block_numbers b (2 + directory) blocks) → bytes ≡ directory_part b sizes
unfolding directory_part
directory_is b blocks directory sizes bytes five all is e =
    let same = (five_streams b blocks directory sizes five all is).0 in
    let numbered : block_numbers b (2 + directory) blocks ≡ block_numbers b (2 + directory_count b sizes) (blocks_of_all b sizes) = rw (same, all) refl in
    e ∙ ap (λ (ns : List ℕ). u32s (5 ∷ sizes ++ ns)) numbered ∙ ap (λ (n : ℕ). u32s (n ∷ sizes ++ block_numbers b (2 + directory_count b sizes) (blocks_of_all b sizes))) (sym five)

-- ---- the sizes of streams

-- one more size
pub size_pushed : {X : Type 0} (f : X → ℕ) (sizes : List ℕ) (xs : List X) (i size : ℕ) (d : X) → take i sizes ≡ map f (take i xs) → i < length sizes → i < length xs → size ≡ f (get_or xs i d)
    → take (i + 1) (set sizes i size) ≡ map f (take (i + 1) xs)
size_pushed f sizes xs i size d so_far in_sizes in_xs is =
    take_more_set sizes i size in_sizes ∙ rw (so_far, is) (sym (ap (map f) (take_more xs i d in_xs) ∙ map-append f (take i xs) (get_or xs i d ∷ [])))

-- all the sizes
pub sizes_are : {X : Type 0} (f : X → ℕ) (sizes : List ℕ) (xs : List X) (i : ℕ) → take i sizes ≡ map f (take i xs) → length sizes ≤ i → length xs ≤ i → sizes ≡ map f xs
sizes_are f sizes xs i so_far all_sizes all_xs = sym (take_all i sizes all_sizes) ∙ so_far ∙ ap (map f) (take_all i xs all_xs)

-- one more short stream
pub short_pushed : {X : Type 0} (f : X → ℕ) (xs : List X) (i size : ℕ) (d : X) → All (λ x. f x < 2 ^ 32) (take i xs) → i < length xs → size ≡ f (get_or xs i d) → size < 2 ^ 32 → All (λ x. f x < 2 ^ 32) (take (i + 1) xs)
short_pushed f xs i size d so_far lt is small = rw (take_more xs i d lt) (All-push (λ x. f x < 2 ^ 32) (take i xs) (get_or xs i d) so_far (rw (← is) small))

-- all streams are short
pub all_short : {X : Type 0} (f : X → List ℕ) (xs : List X) (i : ℕ) → length xs ≤ i → All (λ x. length (f x) < 2 ^ 32) (take i xs) → All (λ bytes. length bytes < 2 ^ 32) (map f xs)
all_short f xs i le so_far = All-map (λ bytes. length bytes < 2 ^ 32) f xs (rw (take_all i xs le) at so_far)
