-- The checks of a layout, one part after the other, and what they say about the streams.
use Rattle.std.proofs.Common.{◌≡◌, ℕ, ◌+◌, List, [], ◌∷◌, ◌++◌, Some, None, map, refl, sym, ap, ◌∙◌, ◌⊎◌, inl, inr}
use Rattle.std.specs.List.{range_with_len}
use Rattle.std.proofs.lemmas.List.{map-append}
use Rattle.byte_fields.specs.Number.{nth_u32}
use Rattle.byte_fields.specs.Check.{first_failing, checks_below, Refuses}
use Rattle.byte_fields.proofs.CheckLaws.{first_failing-append_none, first_failing-append_some}
use Rattle.msf_superblock.specs.Superblock.{Fields, fields_of, superblock_checks}
use Rattle.msf_blocks.specs.Directory.{directory_checks, directory_contents, directory_block_checks, length_checks, stream_checks, stream_blocks, list_start, listed_at, listed_below}
use Rattle.msf_blocks.specs.Layout.{layout_checks}
use Rattle.msf_blocks.specs.Stream.{listed_of}
use Rattle.msf_blocks.specs.declared.layout.Stream.{Stream}
use Rattle.msf_superblock.specs.declared.fault.MsfFault.{MsfFault}
use Rattle.msf_superblock.specs.declared.fault.MsfFault.TheVariants.{Memory}
use Rattle.msf_blocks.proofs.DirectoryLaws.{map_range_more}

-- this is the first fault of the directory of a file that begins with this superblock: a fault of a number of the block map, else of what the directory lists, else out of memory
abbrev pub IsDirectoryFault : List ℕ → Fields → MsfFault → Type 0
IsDirectoryFault file fields fault =
    (first_failing (directory_block_checks file fields) ≡ Some fault)
    ⊎ ((first_failing (directory_block_checks file fields) ≡ None) × Refuses Memory (first_failing (directory_checks fields (directory_contents file fields))) fault)

-- ---- the first fault

checks_are : (file : List ℕ) (fields : Fields) → fields ≡ fields_of file
    → layout_checks file ≡ superblock_checks file ++ (directory_block_checks file fields ++ (length_checks fields.block_size (directory_contents file fields) ++ checks_below (nth_u32 (directory_contents file fields) 0) (stream_checks fields (directory_contents file fields))))
unfolding layout_checks
checks_are file fields e = rw e refl

-- a fault of the superblock is the fault of the layout
pub superblock_fault : (file : List ℕ) (fault : MsfFault) → first_failing (superblock_checks file) ≡ Some fault → first_failing (layout_checks file) ≡ Some fault
superblock_fault file fault e =
    let fields = fields_of file in
    ap first_failing (checks_are file fields refl) ∙ first_failing-append_some (superblock_checks file) _ fault e

-- after a superblock without a fault, a fault of the block map is the fault of the layout
pub block_fault : (file : List ℕ) (fields : Fields) (fault : MsfFault) → fields ≡ fields_of file → first_failing (superblock_checks file) ≡ None → first_failing (directory_block_checks file fields) ≡ Some fault → first_failing (layout_checks file) ≡ Some fault
block_fault file fields fault is a e =
    ap first_failing (checks_are file fields is) ∙ first_failing-append_none (superblock_checks file) _ a ∙ first_failing-append_some (directory_block_checks file fields) _ fault e

pub after_blocks : (file : List ℕ) (fields : Fields) → fields ≡ fields_of file → first_failing (superblock_checks file) ≡ None → first_failing (directory_block_checks file fields) ≡ None
    → first_failing (layout_checks file) ≡ first_failing (length_checks fields.block_size (directory_contents file fields) ++ checks_below (nth_u32 (directory_contents file fields) 0) (stream_checks fields (directory_contents file fields)))
after_blocks file fields is a b =
    ap first_failing (checks_are file fields is) ∙ first_failing-append_none (superblock_checks file) _ a ∙ first_failing-append_none (directory_block_checks file fields) _ b

-- after these, the first fault of the layout is the first fault of its streams
pub stream_answer : (file : List ℕ) (fields : Fields) (contents : List ℕ) (n : ℕ) → fields ≡ fields_of file → contents ≡ directory_contents file fields → first_failing (superblock_checks file) ≡ None → first_failing (directory_block_checks file fields) ≡ None
    → first_failing (length_checks fields.block_size contents) ≡ None → n ≡ nth_u32 contents 0
    → first_failing (layout_checks file) ≡ first_failing (checks_below n (stream_checks fields contents))
stream_answer file fields contents n is contents_is a b l e =
    let here : first_failing (length_checks fields.block_size (directory_contents file fields)) ≡ None = rw (← contents_is) l in
    after_blocks file fields is a b ∙ first_failing-append_none (length_checks fields.block_size (directory_contents file fields)) _ here ∙ rw (e, contents_is) refl

-- after the checks of its length, the first fault of a directory is the first fault of its streams
pub directory_answer : (fields : Fields) (contents : List ℕ) (n : ℕ) → first_failing (length_checks fields.block_size contents) ≡ None → n ≡ nth_u32 contents 0
    → first_failing (directory_checks fields contents) ≡ first_failing (checks_below n (stream_checks fields contents))
directory_answer fields contents n long e = first_failing-append_none (length_checks fields.block_size contents) _ long ∙ rw e refl

-- after a superblock without a fault, the first fault of the directory is that of the layout, and so is out of memory where there is none
pub contents_fault : (file : List ℕ) (fields : Fields) (fault : MsfFault) → fields ≡ fields_of file → first_failing (superblock_checks file) ≡ None
    → (first_failing (directory_block_checks file fields) ≡ Some fault) ⊎ ((first_failing (directory_block_checks file fields) ≡ None) × Refuses Memory (first_failing (directory_checks fields (directory_contents file fields))) fault)
    → Refuses Memory (first_failing (layout_checks file)) fault
contents_fault file fields fault is a answer = elim answer [
  | inl e ↦ inl (block_fault file fields fault is a e)
  | inr held ↦ rw (after_blocks file fields is a held.0) held.1
]

-- ---- the streams that are listed

-- a stream that was read is the stream that is listed
pub stream_is : {A : Type 0} (b : ℕ) (contents : List ℕ) (t start count : ℕ) (s : Stream A) → s.size ≡ nth_u32 contents (1 + t) → start ≡ list_start b contents t → count ≡ stream_blocks b contents t
    → s.blocks.items ≡ map (λ k. nth_u32 contents (start + k)) (range_with_len 0 count) → listed_of s ≡ listed_at b contents t
unfolding listed_at
stream_is b contents t start count s size at long items = rw (size, items, at, long) refl

-- one more stream
pub listed_more : {A : Type 0} (b : ℕ) (contents : List ℕ) (t : ℕ) (xs : List (Stream A)) (s : Stream A) → map listed_of xs ≡ listed_below b contents t → listed_of s ≡ listed_at b contents t
    → map listed_of (xs ++ s ∷ []) ≡ listed_below b contents (t + 1)
listed_more b contents t xs s before here =
    map-append listed_of xs (s ∷ []) ∙ rw (before, here) (sym (map_range_more (listed_at b contents) t))
