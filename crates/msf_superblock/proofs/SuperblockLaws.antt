-- The magic at the front of a superblock.
use Rattle.std.proofs.Common.{◌≡◌, ◌++◌, ℕ, true, List, take, drop, ap, ◌∙◌, refl, sym}
use Rattle.std.proofs.lemmas.Bool.Decides.{Decides-eqb}
use Rattle.std.proofs.lemmas.Slice.Eq.{starts_is}
use Rattle.std.proofs.lemmas.List.{take_at, take-append-drop}
use Rattle.std.specs.List.{starts_with}
use Rattle.std.specs.Prelude.{nat_eq}
use Rattle.msf_superblock.specs.Superblock.{magic}

-- if a file begins with the magic, its first 32 bytes are the magic
pub magic_from_starts_with : (file : List ℕ) → starts_with nat_eq file magic ≡ true → take 32 file ≡ magic
magic_from_starts_with file e =
    let parts : file ≡ magic ++ drop 32 file = (starts_is Decides-eqb file magic (starts_with nat_eq file magic) refl).0 e in
    ap (take 32) parts ∙ take_at magic (drop 32 file) 32 refl

-- if the first 32 bytes of a file are the magic, it begins with the magic
pub starts_with_magic : (file : List ℕ) → take 32 file ≡ magic → starts_with nat_eq file magic ≡ true
starts_with_magic file e =
    let parts : file ≡ magic ++ drop 32 file = sym (take-append-drop 32 file) ∙ ap (λ (front : List ℕ). front ++ drop 32 file) e in
    (starts_is Decides-eqb file magic (starts_with nat_eq file magic) refl).1 (drop 32 file) parts
