-- An accepted file has one list of records and no fault.
use Rattle.std.proofs.Common.{◌≡◌, ◌⊎◌, ℕ, List, None, length, ap, arith, inl, inr}
use Rattle.std.specs.Prelude.{Result, Ok, Err, IfOk, IfErr}
use Rattle.byte_io.specs.At.{Bytes, IfKnown, IfOf}
use Rattle.byte_io.specs.declared.at.AtFault.{AtFault}
use Rattle.byte_io.specs.declared.at.AtFault.TheVariants as at
use Rattle.byte_fields.specs.Bytes.{AreBytes}
use Rattle.byte_fields.specs.Check.{first_failing}
use Rattle.msf_blocks.specs.Layout.{LayoutView, HasLayout, layout_checks}
use Rattle.msf_blocks.proofs.FoundLaws.{layout_holds}
use Rattle.tpi_records.proofs.StreamLaws.{one_records, no_fault}
use Rattle.checked_types.proofs.CycleLaws.{types_sound}
use Rattle.file_types.specs.Read.{IsAccepted, HasTypeRecords, ListsRecords, HasLongInfo, HasInfoFault, HasStreamFault, HasPdbFault}
use Rattle.file_types.specs.declared.fault.PdbFault.{PdbFault}
use Rattle.file_types.specs.declared.fault.PdbFault.TheVariants as fault
use Rattle.msf_blocks.proofs.OneLayoutLaws.{one_layout}
use Rattle.file_types.proofs.StreamLaws.{is_listed}

-- ---- refusals

-- a fault of stream 1 is a fault of the file
pub info_refused : {A : Type 0} (file : List ℕ) (layout : LayoutView) (inner : PdbFault A) → HasLayout file layout → HasInfoFault file layout inner → HasPdbFault file inner
info_refused file layout (fault.Msf inner) has refused = absurd refused
info_refused file layout (fault.Stream inner) has refused = (layout, has, inl refused)
info_refused file layout (fault.Info inner) has refused = (layout, has, inl refused)
info_refused file layout (fault.Tpi inner) has refused = absurd refused
info_refused file layout (fault.Type inner) has refused = absurd refused
info_refused file layout fault.Memory has refused = absurd refused

-- ---- accepted files

-- a layout has one list of type records
one_listed : (file : List ℕ) (layout : LayoutView) (some others : List (List ℕ)) → ListsRecords file layout some → ListsRecords file layout others → some ≡ others
one_listed file layout some others s o =
    let same : s.stream ≡ o.stream = let there = s.is_stream in let here = o.is_stream in cc in
    one_records s.stream some others s.has_records (rw same o.has_records)

-- a file of bytes has one list of type records
pub one_list_read : (file : List ℕ) (some others : List (List ℕ)) → AreBytes file → HasTypeRecords file some → HasTypeRecords file others → some ≡ others
one_list_read file some others bytes s o =
    let same = one_layout file s.layout o.layout bytes s.has_layout o.has_layout in
    one_listed file o.layout some others (rw same at s.lists) o.lists

-- a file is accepted with only one list of records
pub one_list : (file : List ℕ) (some others : List (List ℕ)) → IsAccepted file some → IsAccepted file others → some ≡ others
one_list file some others is_s is_o = one_list_read file some others is_s.bytes is_s.has is_o.has

-- a stream 1 of enough bytes has no fault
info_unrefused : {A : Type 0} (file : List ℕ) (layout : LayoutView) (inner : PdbFault A) → HasLongInfo file layout → HasInfoFault file layout inner → ⊥
info_unrefused file layout (fault.Stream inner) (info, there, long) (few, is) = omega (arith, is_listed file layout 1 info there, few)
info_unrefused file layout (fault.Info inner) (info, there, long) ((text, here, short), is) = let same : info ≡ text = cc in omega (arith, long, short, ap length same)
info_unrefused file layout inner info refused = absurd refused

-- a stream 2 that has records has no fault
stream_unrefused : {A : Type 0} (file : List ℕ) (layout : LayoutView) (records : List (List ℕ)) (inner : PdbFault A) → ListsRecords file layout records → HasStreamFault file layout inner → ⊥
stream_unrefused file layout records (fault.Stream inner) lists (few, is) = omega (arith, is_listed file layout 2 lists.stream lists.is_stream, few)
stream_unrefused file layout records (fault.Tpi inner) lists (stream, there, first) =
    let here = lists.is_stream in
    let same : lists.stream ≡ stream = cc in
    no_fault stream records inner (rw same at lists.has_records) first
stream_unrefused file layout records inner lists refused = absurd refused

-- no stream of an accepted file has a fault
streams_unrefused : {A : Type 0} (file : List ℕ) (records : List (List ℕ)) (inner : PdbFault A) → IsAccepted file records
    → (layout : LayoutView) × HasLayout file layout × (HasInfoFault file layout inner ⊎ (HasLongInfo file layout × HasStreamFault file layout inner)) → ⊥
streams_unrefused file records inner is (layout, has, inl refused) =
    info_unrefused file layout inner (rw (one_layout file is.has.layout layout is.bytes is.has.has_layout has) at is.info) refused
streams_unrefused file records inner is (layout, has, inr (info, refused)) =
    stream_unrefused file layout records inner (rw (one_layout file is.has.layout layout is.bytes is.has.has_layout has) at is.has.lists) refused

-- an accepted file has no fault
pub accepted_unrefused : {A : Type 0} (file : List ℕ) (records : List (List ℕ)) (inner : PdbFault A) → IsAccepted file records → HasPdbFault file inner → ⊥
accepted_unrefused file records (fault.Msf inner) is refused = let none = layout_holds file is.has.layout is.bytes is.has.has_layout in absurd cc
accepted_unrefused file records (fault.Type inner) is (found, has, info, first) =
    let list = one_list_read file records found is.bytes is.has has in
    types_sound found inner (rw list at is.types) first
accepted_unrefused {A = A} file records (fault.Stream inner) is refused = streams_unrefused {A = A} file records (fault.Stream inner) is refused
accepted_unrefused {A = A} file records (fault.Info inner) is refused = streams_unrefused {A = A} file records (fault.Info inner) is refused
accepted_unrefused {A = A} file records (fault.Tpi inner) is refused = streams_unrefused {A = A} file records (fault.Tpi inner) is refused
accepted_unrefused {A = A} file records fault.Memory is refused = streams_unrefused {A = A} file records fault.Memory is refused

-- ---- files that are read by position

-- what follows of each value
pub ok_more : {T E : Type 0} (P Q : T → Type 0) (answer : Result T E) → ((value : T) → P value → Q value) → IfOk answer P → IfOk answer Q
ok_more P Q (Ok value) each is = each value is
ok_more P Q (Err fault) each is = tt

-- after a layout that was read, out of memory comes where the container has no fault
pub sound_at : {T A : Type 0} (bytes : Bytes) (result : Result T (AtFault (PdbFault A))) → IfKnown bytes (λ file. first_failing (layout_checks file) ≡ None)
    → IfErr result (IfOf (λ e. e ≡ fault.Memory → IfKnown bytes (λ file. first_failing (layout_checks file) ≡ None)))
sound_at bytes (Ok value) none = tt
sound_at bytes (Err at.Read) none = tt
sound_at bytes (Err (at.Of e)) none = λ is. none

-- what follows of each fault of what was read
pub err_more : {T F : Type 0} (P Q : F → Type 0) (answer : Result T (AtFault F)) → ((inner : F) → P inner → Q inner) → IfErr answer (IfOf P) → IfErr answer (IfOf Q)
err_more P Q (Ok value) each is = tt
err_more P Q (Err at.Read) each is = tt
err_more P Q (Err (at.Of inner)) each is = each inner is

-- an accepted file is refused only when out of memory
pub wants_memory : {A : Type 0} (bytes : Bytes) (inner : PdbFault A) → IfKnown bytes (λ file. HasPdbFault file inner ⊎ (inner ≡ fault.Memory)) → IfKnown bytes (λ file. (records : List (List ℕ)) → IsAccepted file records → inner ≡ fault.Memory)
wants_memory bytes inner first file known records is = elim (first file known) [
  | inl refused ↦ absurd (accepted_unrefused file records inner is refused)
  | inr want ↦ want
]
