-- The file of the types of files: all lists of files with the same types have the same file.
use Rattle.std.proofs.Common.{◌≡◌, ◌↔◌, ℕ, subst, List, [], ◌∷◌, length, refl, sym, ap, ◌∙◌, arith, inl, inr}
use Rattle.std.specs.Prelude.{Option, Result, Ok, Err, IfErr}
use Rattle.std.specs.List.{concat}
use Rattle.pdb_info.specs.Settings.{SettingsView, AreSettings, record_limit}
use Rattle.type_trees.specs.Tree.{Tree, IsType}
use Rattle.type_trees.specs.Canon.{texts}
use Rattle.canonical_list.specs.Finish.{IsCanonOf}
use Rattle.file_types.specs.Read.{IsAccepted}
use Rattle.type_trees.proofs.WeightLaws.{weight_of_texts}
use Rattle.type_trees.proofs.CanonLaws.{one_canonical_list}
use Rattle.pdb_merge.specs.Union.{HasType, FileHas, SameTypes, Weighs, Within}
use Rattle.pdb_merge.specs.Laws.{MergedReadsBack, OneMergedFile, MergedHas, MergedFilesDiffer, MergedAgain, EarlierMerge}
use Rattle.pdb_merge.proofs.UnionLaws.{types_of_first, types_of_both, within_same, one_accepted}
use Rattle.pdb_merge.proofs.ReadBackLaws.{IsBack, is_back}
use Rattle.type_table.proofs.CanonTableLaws.{canon_same}
use Rattle.msf_streams.specs.Put.{AppendsPart}
use Rattle.file_types.proofs.ReadLaws.{one_list}
use Rattle.pdb_merge.specs.Merged.{merged_file, IsFileOf, Merged, WroteFile, WroteAs, WrotePartAs}
use Rattle.pdb_merge.specs.declared.summary.Summary.{Summary}

pub same_records : (P Q : Tree → Type 0) (records found : List (List ℕ)) → ((t : Tree) → P t ↔ Q t) → IsCanonOf records P → IsCanonOf found Q → records ≡ found
same_records P Q records found same (l, canonical_l, are_l, members_l) (m, canonical_m, are_m, members_m) =
    let one : l ≡ m = one_canonical_list l m canonical_l canonical_m (λ t. (λ c. (members_m t).1 ((same t).0 ((members_l t).0 c)), λ c. (members_l t).1 ((same t).1 ((members_m t).0 c)))) in
    are_l ∙ ap texts one ∙ sym are_m

same_settings : (settings others : SettingsView) (records : List (List ℕ)) → settings.age ≡ others.age → settings.guid ≡ others.guid → settings.block_size ≡ others.block_size → merged_file settings records ≡ merged_file others records
unfolding merged_file
same_settings settings others records age guid size = rw (age, guid, size) refl

pub one_merged_file : OneMergedFile
one_merged_file files others settings same x y age guid size types (records, canon, is_x) (found, canon_y, is_y) =
    let one = same_records (HasType files) (HasType others) records found types canon canon_y in
    is_x ∙ ap (merged_file settings) one ∙ same_settings settings same found age guid size ∙ sym is_y

-- the file is accepted only with its own records
own_records : (P : Tree → Type 0) (file : List ℕ) (records others : List (List ℕ)) → IsBack P file records → IsAccepted file others → records ≡ others
own_records P file records others back accepted = one_list file records others back.accepted accepted

-- so its types are just those
file_has : (P : Tree → Type 0) (file : List ℕ) (records : List (List ℕ)) → IsBack P file records → (t : Tree) → FileHas file t ↔ P t
file_has P file records back t = (
  λ h.
      let own : records ≡ h.0 = own_records P file records h.0 back h.1 in
      (back.just t).0 (subst (λ (r : List (List ℕ)). IsType r t) (sym own) h.2),
  λ p. (records, back.accepted, (back.just t).1 p),
)

-- the types of a list of one file are those of the file
types_of_one : (x : List ℕ) (t : Tree) → HasType (x ∷ []) t ↔ FileHas x t
types_of_one x t =
    let first = types_of_first x [] t in
    (λ h. elim (first.0 h) [ inl here ↦ here | inr none ↦ absurd (omega (arith, none.1)) ], λ here. first.1 (inl here))

-- the file of a canonical list of the types of files has all that `IsFileOf` says
pub is_file : (files : List (List ℕ)) (settings : SettingsView) (records : List (List ℕ)) → AreSettings settings → Within (HasType files) (record_limit settings)
    → IsCanonOf records (HasType files) → IsFileOf files settings (merged_file settings records) records
is_file files settings records are within canon =
    let file = merged_file settings records in
    let back = is_back files settings records are within canon in
    let alone : SameTypes files (file ∷ []) = λ t. (
      λ h. (types_of_one file t).1 ((file_has (HasType files) file records back t).1 h),
      λ h. (file_has (HasType files) file records back t).0 ((types_of_one file t).0 h),
    ) in
    record {
      made = refl;
      holds = record { accepted = back.accepted; canon = canon; types = back.just; once = back.once };
      same = λ others its other age guid size types merged. sym (one_merged_file files others settings its file other (sym age) (sym guid) (sym size) types (records, canon, refl) merged);
      can = record {
        accepted = one_accepted file records back.accepted;
        within = within_same (HasType files) (HasType (file ∷ [])) (record_limit settings) alone within;
      };
      again = (records, canon_same records (HasType files) (HasType (file ∷ [])) canon alone, refl);
    }

-- ---- the laws

of_merged : (files : List (List ℕ)) (settings : SettingsView) (x : List ℕ) → AreSettings settings → Within (HasType files) (record_limit settings)
    → (merged : Merged (HasType files) settings x) → IsFileOf files settings x merged.0
of_merged files settings x are within (records, canon, is_x) = rw is_x (is_file files settings records are within canon)

pub merged_reads_back : MergedReadsBack
merged_reads_back settings are files x within merged = (merged.0, (of_merged files settings x are within merged).holds)

pub merged_again : MergedAgain
merged_again settings are files x within merged = let is = of_merged files settings x are within merged in (is.can, is.again)

pub merged_has : MergedHas
merged_has settings are files x within (records, canon, is_x) t =
    rw is_x (file_has (HasType files) (merged_file settings records) records (is_back files settings records are within canon) t)

pub merged_files_differ : MergedFilesDiffer
merged_files_differ settings other are are_o files others x within within_o merged merged_o t =
    let s = merged_has settings are files x within merged t in
    let o = merged_has other are_o others x within_o merged_o t in
    (λ h. o.0 (s.1 h), λ h. s.0 (o.1 h))

pub earlier_merge : EarlierMerge
earlier_merge settings are files others x within merged t =
    let all = types_of_first x others t in
    let both = types_of_both files others t in
    let here = merged_has settings are files x within merged t in (
      λ h. elim (all.0 h) [ inl first ↦ both.1 (inl (here.0 first)) | inr other ↦ both.1 (inr other) ],
      λ h. elim (both.0 h) [ inl first ↦ all.1 (inl (here.1 first)) | inr other ↦ all.1 (inr other) ],
    )

-- ---- what a sink took

-- the records of a canonical list have as many bytes as its types
pub canon_weighs : (P : Tree → Type 0) (records : List (List ℕ)) (bytes : ℕ) → IsCanonOf records P → bytes ≡ length (concat records) → Weighs P bytes
canon_weighs P records bytes (l, canonical, are, members) is =
    (l, record { distinct = canonical.distinct; members = members }, sym (is ∙ ap (λ (x : List (List ℕ)). length (concat x)) are ∙ weight_of_texts l canonical))

-- the file of a list, as that of the types of some files
unfoldable pub wrote_as : (IsFile : List ℕ → List (List ℕ) → Type 0) (files : List (List ℕ)) (settings : SettingsView) (records : List (List ℕ)) (old new : Option (List ℕ)) (summary : Summary)
    → IsFile (merged_file settings records) records → IsCanonOf records (HasType files) → WroteFile records settings old new summary → WroteAs IsFile files old new summary
wrote_as IsFile files settings records old new summary is canon did = record {
  file = merged_file settings records;
  records = records;
  taken = did.taken;
  is_file = is;
  types = did.types;
  bytes = canon_weighs (HasType files) records summary.bytes canon did.bytes;
  long = did.long;
}

pub wrote_part : {A E : Type 0} (IsFile : List ℕ → List (List ℕ) → Type 0) (settings : SettingsView) (records : List (List ℕ)) (old new : Option (List ℕ)) (e : E) (answer : Result A E)
    → IsFile (merged_file settings records) records
    → IfErr answer (λ fault. fault ≡ e → AppendsPart old new (merged_file settings records)) → IfErr answer (λ fault. fault ≡ e → WrotePartAs IsFile old new)
wrote_part IsFile settings records old new e (Ok done) is part = tt
wrote_part IsFile settings records old new e (Err fault) is part = λ same.
    record { file = merged_file settings records; records = records; taken = part same; is_file = is }
