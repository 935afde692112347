-- The file of types is made of bytes.
use Rattle.std.proofs.Common.{ℕ, suc, ◌<◌, List, [], ◌∷◌, ◌++◌, length, map, take, drop, get_or, arith}
use Rattle.std.specs.List.{AllByRecursion, concat}
use Rattle.std.proofs.lemmas.List.Elements.{Contains-get_or}
use Rattle.byte_fields.specs.Bytes.{AreBytes}
use Rattle.byte_fields.specs.Number.{u32s}
use Rattle.byte_fields.proofs.BytesLaws.{bytes_append, bytes_first, bytes_drop, bytes_take, bytes_reverse, bytes_concat, bytes_each, u32s_are_bytes}
use Rattle.cv_leaves.proofs.FilledLaws.{filled_bytes, blanked_bytes}
use Rattle.msf_streams.proofs.BytesLaws.{image_is_bytes, stream_is_bytes}
use Rattle.pdb_info.specs.Guid.{stored_guid}
use Rattle.pdb_info.specs.Settings.{SettingsView, AreSettings}
use Rattle.pdb_info.specs.Written.{info_contents}
use Rattle.tpi_records.specs.Records.{HasRecords}
use Rattle.tpi_records.specs.Written.{header_numbers, header_bytes}
use Rattle.type_trees.specs.Tree.{Tree, tree, nothing, IsTreeAt, blank_of, branches_of}
use Rattle.type_trees.specs.Canon.{numbers, text}
use Rattle.canonical_list.specs.Finish.{IsCanonOf}
use Rattle.type_trees.proofs.TreeLaws.{at_position}
use Rattle.file_types.specs.Read.{IsAccepted}
use Rattle.pdb_merge.specs.Union.{HasType}
use Rattle.pdb_merge.specs.Merged.{type_stream, merged_contents, merged_file}

-- ---- the types of files

-- the records of a stream of bytes are made of bytes
records_bytes : (stream : List ℕ) (records : List (List ℕ)) → AreBytes stream → HasRecords stream records → AllByRecursion AreBytes records
records_bytes stream records bytes has = bytes_each records (bytes_first (concat records) has.rest (rw (← has.parts) (bytes_drop 56 stream bytes)))

-- the records of an accepted file are made of bytes
accepted_bytes : (file : List ℕ) (records : List (List ℕ)) → IsAccepted file records → AllByRecursion AreBytes records
accepted_bytes file records is = records_bytes is.has.lists.stream records (stream_is_bytes file is.has.layout 2 is.has.lists.stream is.bytes is.has.lists.is_stream) is.has.lists.has_records

-- the blank of a tree in records of bytes is made of bytes
standing_bytes : (records : List (List ℕ)) (i : ℕ) (t : Tree) → AllByRecursion AreBytes records → IsTreeAt records i t → AreBytes (blank_of t)
standing_bytes records i (tree b bs) bytes (inside, blank, branches) = rw (← blank) (blanked_bytes (get_or records i []) (at_position AreBytes records i bytes inside))

-- the record of a tree is made of bytes if its blank is
text_bytes : (l : List Tree) (t : Tree) → AreBytes (blank_of t) → AreBytes (text l t)
unfolding text
text_bytes l t bytes = filled_bytes (blank_of t) (numbers l (branches_of t)) bytes

has_bytes : (files : List (List ℕ)) (t : Tree) → HasType files t → AreBytes (blank_of t)
has_bytes files t (i, inside, (records, accepted, (p, stands))) = standing_bytes records p t (accepted_bytes (get_or files i []) records accepted) stands

each_text : (l others : List Tree) → ((i : ℕ) → i < length others → AreBytes (blank_of (get_or others i nothing))) → AllByRecursion AreBytes (map (text l) others)
each_text l [] each = tt
each_text l (t ∷ others) each = (text_bytes l t (each 0 (omega arith)), each_text l others (λ i inside. each (suc i) (omega (arith, inside))))

-- a canonical list of the types of files is made of bytes
pub canon_bytes : (files records : List (List ℕ)) → IsCanonOf records (HasType files) → AllByRecursion AreBytes records
canon_bytes files records (l, canonical, are, members) =
    rw are (each_text l l (λ i inside. has_bytes files (get_or l i nothing) ((members (get_or l i nothing)).0 (Contains-get_or l i nothing inside))))

-- ---- the file

info_bytes : (settings : SettingsView) → AreSettings settings → AreBytes (info_contents settings.age settings.guid)
unfolding info_contents
info_bytes settings are =
    let guid = settings.guid in
    let first = bytes_reverse (take 4 guid) (bytes_take 4 guid are.guid_bytes) in
    let second = bytes_reverse (take 2 (drop 4 guid)) (bytes_take 2 (drop 4 guid) (bytes_drop 4 guid are.guid_bytes)) in
    let third = bytes_reverse (take 2 (drop 6 guid)) (bytes_take 2 (drop 6 guid) (bytes_drop 6 guid are.guid_bytes)) in
    let stored : AreBytes (stored_guid guid) = bytes_append _ (drop 8 guid) (bytes_append _ _ (bytes_append _ _ first second) third) (bytes_drop 8 guid are.guid_bytes) in
    bytes_append (u32s (20000404 ∷ 0 ∷ settings.age ∷ [])) (stored_guid guid ++ u32s (0 ∷ 0 ∷ 8 ∷ 0 ∷ 0 ∷ 0 ∷ [])) (u32s_are_bytes (20000404 ∷ 0 ∷ settings.age ∷ []))
    (bytes_append (stored_guid guid) (u32s (0 ∷ 0 ∷ 8 ∷ 0 ∷ 0 ∷ 0 ∷ [])) stored (u32s_are_bytes (0 ∷ 0 ∷ 8 ∷ 0 ∷ 0 ∷ 0 ∷ [])))

types_bytes : (records : List (List ℕ)) → AllByRecursion AreBytes records → AreBytes (type_stream records)
unfolding type_stream header_bytes
types_bytes records each =
    let header = header_numbers (length records) (length (concat records)) in
    bytes_append (u32s header) (concat records) (u32s_are_bytes header) (bytes_concat records each)

no_bytes : AreBytes []
no_bytes i = omega arith

-- the file of records of bytes is made of bytes
pub merged_bytes : (settings : SettingsView) (records : List (List ℕ)) → AreSettings settings → AllByRecursion AreBytes records → AreBytes (merged_file settings records)
unfolding merged_file
merged_bytes settings records are each =
    image_is_bytes settings.block_size (merged_contents settings records) (no_bytes, (info_bytes settings are, (types_bytes records each, (no_bytes, (no_bytes, tt)))))
