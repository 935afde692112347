-- The streams of the file of types, and that they fit in a file.
use Rattle.std.proofs.Common.{◌≡◌, ℕ, ◌+◌, ◌<◌, ◌≤◌, ◌^◌, List, [], ◌∷◌, ◌++◌, length, map, refl, ap, ◌∙◌, arith}
use Rattle.std.specs.Prelude.{All}
use Rattle.std.specs.List.{concat}
use Rattle.pdb_info.proofs.SettingsLaws.{records_fit}
use Rattle.std.proofs.lemmas.List.{length-append}
use Rattle.std.proofs.lemmas.List.Elements.{All-nil, All-cons}
use Rattle.msf_streams.specs.Image.{Fits, Writable}
use Rattle.pdb_info.specs.Settings.{SettingsView, AreSettings, record_limit}
use Rattle.pdb_info.specs.Written.{info_contents}
use Rattle.pdb_info.specs.Guid.{stored_guid}
use Rattle.tpi_records.specs.Written.{header_bytes, header_numbers}
use Rattle.byte_fields.proofs.NumberLaws.{length-u32s}
use Rattle.pdb_info.proofs.GuidLaws.{stored_is}
use Rattle.byte_fields.specs.Number.{u32s}
use Rattle.pdb_merge.specs.Merged.{type_stream, merged_contents}

-- the info stream has 52 bytes
pub length-info : (age : ℕ) (guid : List ℕ) → length guid ≡ 16 → length (info_contents age guid) ≡ 52
unfolding info_contents
length-info age guid long =
    let front : List ℕ = u32s (20000404 ∷ 0 ∷ age ∷ []) in
    let back : List ℕ = u32s (0 ∷ 0 ∷ 8 ∷ 0 ∷ 0 ∷ 0 ∷ []) in
    let stored : length (stored_guid guid) ≡ 16 = ap length (stored_is guid long) in
    omega (arith, length-append front (stored_guid guid ++ back), length-append (stored_guid guid) back, stored, length-u32s (20000404 ∷ 0 ∷ age ∷ []), length-u32s (0 ∷ 0 ∷ 8 ∷ 0 ∷ 0 ∷ 0 ∷ []))

length-header : (count bytes : ℕ) → length (header_bytes count bytes) ≡ 56
unfolding header_bytes
length-header count bytes = length-u32s (header_numbers count bytes)

pub length-stream : (records : List (List ℕ)) → length (type_stream records) ≡ 56 + length (concat records)
unfolding type_stream
length-stream records = length-append (header_bytes (length records) (length (concat records))) (concat records) ∙ ap (λ n. n + length (concat records)) (length-header (length records) (length (concat records)))

-- the sizes of the streams
sizes_are : (settings : SettingsView) (records : List (List ℕ)) → AreSettings settings
    → map length (merged_contents settings records) ≡ 0 ∷ 52 ∷ (56 + length (concat records)) ∷ 0 ∷ 0 ∷ []
sizes_are settings records are = rw (length-info settings.age settings.guid are.guid_long, length-stream records) refl

pub merged_fits : (settings : SettingsView) (records : List (List ℕ)) → AreSettings settings → length (concat records) ≤ record_limit settings
    → Fits settings.block_size (map length (merged_contents settings records))
merged_fits settings records are few = rw (sizes_are settings records are) (records_fit settings are (length (concat records)) few)

short_writable : (settings : SettingsView) (records : List (List ℕ)) → AreSettings settings → 56 + length (concat records) < 2 ^ 32 → All (λ text. length text < 2 ^ 32) (merged_contents settings records)
short_writable settings records are few =
    let P : List ℕ → Type 0 = λ text. length text < 2 ^ 32 in
    let none : All P ([] ∷ [] ∷ []) = All-cons P [] ([] ∷ []) (omega arith) (All-cons P [] [] (omega arith) (All-nil P)) in
    let short : length (type_stream records) < 2 ^ 32 = omega (arith, length-stream records, few) in
    All-cons P [] (info_contents settings.age settings.guid ∷ type_stream records ∷ [] ∷ [] ∷ []) (omega arith)
    (All-cons P (info_contents settings.age settings.guid) (type_stream records ∷ [] ∷ [] ∷ []) (omega (arith, length-info settings.age settings.guid are.guid_long)) (All-cons P (type_stream records) ([] ∷ [] ∷ []) short none))

pub merged_writable : (settings : SettingsView) (records : List (List ℕ)) → AreSettings settings → length (concat records) ≤ record_limit settings
    → Writable settings.block_size (merged_contents settings records)
merged_writable settings records are few =
    record { short = short_writable settings records are (omega (arith, few, are.limit_fits)); fits = merged_fits settings records are few }
