-- No check of a layout has out of memory as its fault.
use Rattle.std.proofs.Common.{◌≡◌, Bool, true, false, cond, ℕ, zero, suc, List, [], ◌∷◌, ◌++◌, Option, Some, refl}
use Rattle.byte_fields.specs.Check.{Check, first_failing, checks_below}
use Rattle.msf_superblock.specs.Superblock.{Fields, fields_of, superblock_checks, front_checks}
use Rattle.msf_blocks.specs.Directory.{directory_contents, directory_blocks, directory_block_check, directory_block_checks, length_checks, stream_blocks, stream_block_check, stream_checks}
use Rattle.msf_blocks.specs.Layout.{layout_checks}
use Rattle.byte_fields.specs.Number.{nth_u32}
use Rattle.msf_superblock.specs.declared.fault.MsfFault.{MsfFault}
use Rattle.msf_superblock.specs.declared.fault.MsfFault.TheVariants.{Memory}

-- whether a fault is out of memory
abbrev is_want : MsfFault → Bool
is_want Memory = true
is_want _ = false

-- each of these checks has another fault than out of memory
abbrev Others : List (Check MsfFault) → Type 0
Others [] = Unit {0}
Others (c ∷ cs) = (is_want c.fault ≡ false) × Others cs

-- the first fault is that of one check, or of those after it
one_fails : (b : Bool) (f e : MsfFault) (r : Option MsfFault) → is_want f ≡ false → (r ≡ Some e → is_want e ≡ false) → cond b r (Some f) ≡ Some e → is_want e ≡ false
one_fails true f e r here later is = later is
one_fails false f e r here later is = let same : f ≡ e = cc in rw (← same) here

-- so their first fault is not out of memory
fails_other : (cs : List (Check MsfFault)) (e : MsfFault) → Others cs → first_failing cs ≡ Some e → is_want e ≡ false
fails_other [] e others is = absurd cc
fails_other (c ∷ cs) e others is = one_fails c.holds c.fault e (first_failing cs) others.0 (λ later. fails_other cs e others.1 later) is

-- one list after another
others_append : (xs ys : List (Check MsfFault)) → Others xs → Others ys → Others (xs ++ ys)
others_append [] ys first second = second
others_append (x ∷ xs) ys first second = (first.0, others_append xs ys first.1 second)

-- one list of checks for each number
others_below : (n : ℕ) (checks : ℕ → List (Check MsfFault)) → ((k : ℕ) → Others (checks k)) → Others (checks_below n checks)
others_below zero checks each = tt
others_below (suc n) checks each = others_append (checks_below n checks) (checks n) (others_below n checks each) (each n)

-- the checks of the superblock have other faults
superblock_others : (file : List ℕ) → Others (superblock_checks file)
unfolding superblock_checks front_checks
superblock_others file = (refl, (refl, (refl, (refl, (refl, (refl, (refl, tt)))))))

-- so do the checks of the blocks of the directory
block_others : (file : List ℕ) (fields : Fields) → Others (directory_block_checks file fields)
unfolding directory_block_checks
block_others file fields = others_below (directory_blocks fields) (directory_block_check file fields) (λ k. (refl, tt))

-- so do the checks of its length
length_others : (block_size : ℕ) (contents : List ℕ) → Others (length_checks block_size contents)
unfolding length_checks
length_others block_size contents = (refl, (refl, (refl, tt)))

-- so do the checks of a stream
stream_others : (fields : Fields) (contents : List ℕ) (t : ℕ) → Others (stream_checks fields contents t)
unfolding stream_checks
stream_others fields contents t = others_below (stream_blocks fields.block_size contents t) (stream_block_check fields contents t) (λ k. (refl, tt))

-- the first fault of a layout is not out of memory
pub layout_wants_none : (file : List ℕ) → first_failing (layout_checks file) ≡ Some Memory → ⊥
unfolding layout_checks
layout_wants_none file is =
    let fields = fields_of file in
    let contents = directory_contents file fields in
    let lists = checks_below (nth_u32 contents 0) (stream_checks fields contents) in
    let lengths = length_checks fields.block_size contents in
    let blocks = directory_block_checks file fields in
    never (fails_other (superblock_checks file ++ (blocks ++ (lengths ++ lists))) Memory
    (others_append (superblock_checks file) (blocks ++ (lengths ++ lists)) (superblock_others file)
    (others_append blocks (lengths ++ lists) (block_others file fields) (others_append lengths lists (length_others fields.block_size contents) (others_below (nth_u32 contents 0) (stream_checks fields contents) (λ t. stream_others fields contents t))))) is)
  where
    never : true ≡ false → ⊥
    never e = absurd cc
