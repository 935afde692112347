-- The file of types reads back.
use Rattle.std.proofs.Common.{◌≡◌, ◌↔◌, ℕ, suc, subst, ◌*◌, ◌<◌, ◌≤◌, List, [], ◌∷◌, length, map, get_or, refl, sym, ap, ◌∙◌, arith, inl, inr}
use Rattle.std.specs.List.{AllByRecursion, Contains, concat}
use Rattle.std.proofs.lemmas.Bool.{cases_order}
use Rattle.std.proofs.lemmas.List.{get_or_default, append-nil, length-map}
use Rattle.std.proofs.lemmas.List.Elements.{Contains-get_or}
use Rattle.msf_streams.specs.Image.{ReadsBack, image_layout}
use Rattle.msf_streams.proofs.BackLaws.{reads_back}
use Rattle.pdb_info.specs.Settings.{SettingsView, AreSettings, record_limit}
use Rattle.pdb_info.specs.Written.{info_contents}
use Rattle.tpi_records.specs.Records.{IsRecord, HasRecords}
use Rattle.tpi_records.specs.Written.{header_bytes}
use Rattle.tpi_records.proofs.WrittenLaws.{heads_records}
use Rattle.tpi_records.proofs.CutLaws.{many_bytes}
use Rattle.type_trees.specs.Tree.{Tree, IsType, nothing, IsTreeAt, tree}
use Rattle.type_trees.specs.Canon.{text, texts, weight, Canonical}
use Rattle.canonical_list.specs.Finish.{IsCanonOf}
use Rattle.file_types.specs.Read.{IsAccepted}
use Rattle.type_trees.specs.Types.{AreTypes}
use Rattle.type_trees.proofs.ReadLaws.{canonical_reads_back}
use Rattle.type_trees.proofs.WeightLaws.{weight_of_texts, weight_grows}
use Rattle.cv_leaves.specs.Place.{IsChecked}
use Rattle.pdb_merge.specs.Union.{HasType, Within}
use Rattle.pdb_merge.specs.Merged.{StandOnce, type_stream, merged_contents, merged_file}
use Rattle.byte_fields.specs.Bytes.{AreBytes}
use Rattle.pdb_merge.proofs.BytesLaws.{canon_bytes, merged_bytes}
use Rattle.pdb_merge.proofs.FitLaws.{length-info, merged_fits}

pub merged_back : (settings : SettingsView) (records : List (List ℕ)) → AreSettings settings → length (concat records) ≤ record_limit settings
    → ReadsBack settings.block_size (merged_contents settings records)
merged_back settings records are few = reads_back settings.block_size (merged_contents settings records) are.size_fits (merged_fits settings records are few)

-- the TPI stream of records that have at most 1,073,741,824 bytes together has these records
pub stream_holds : (records : List (List ℕ)) → AllByRecursion IsRecord records → length (concat records) ≤ 1073741824 → HasRecords (type_stream records) records
unfolding type_stream
stream_holds records each few =
    let count : 4 * length records ≤ length (concat records) = many_bytes records each in
    let has = heads_records (length records) (length (concat records)) (header_bytes (length records) (length (concat records))) refl (omega (arith, count, few)) (omega (arith, few)) records [] each refl refl in
    let same = rw (append-nil (concat records)) at has in same

-- the file is accepted with these records
accepted_back : (settings : SettingsView) (records : List (List ℕ)) → AreSettings settings → length (concat records) ≤ record_limit settings
    → AllByRecursion IsRecord records → AllByRecursion AreBytes records → AreTypes records → IsAccepted (merged_file settings records) records
unfolding merged_file
accepted_back settings records are few each bytes types =
    let back = merged_back settings records are few in
    let info = info_contents settings.age settings.guid in
    record {
      bytes = merged_bytes settings records are bytes;
      has = record {
        layout = image_layout settings.block_size (map length (merged_contents settings records));
        has_layout = back.layout;
        lists = record { stream = type_stream records; is_stream = back.streams 2; has_records = stream_holds records each (omega (arith, few, are.limit_fits)) };
      };
      info = (info, back.streams 1, omega (arith, length-info settings.age settings.guid are.guid_long));
      types = types;
    }

-- ---- the types of the file

-- what holds at each position holds of each record
all_positions : (P : List ℕ → Type 0) (records : List (List ℕ)) → ((i : ℕ) → i < length records → P (get_or records i [])) → AllByRecursion P records
all_positions P [] each = tt
all_positions P (r ∷ records) each = (each 0 (omega arith), all_positions P records (λ i inside. each (suc i) (omega (arith, inside))))

in_range : (r : List (List ℕ)) (i : ℕ) (t : Tree) → IsTreeAt r i t → i < length r
in_range r i (tree b bs) h = h.0

-- the records of a canonical list of trees are records, are types, and have just these trees as types
pub record AreCanon (P : Tree → Type 0) (records : List (List ℕ)) : Type 0 where
  pub types : AreTypes records
  pub just : (t : Tree) → IsType records t ↔ P t
  pub once : StandOnce records

canon_back : (P : Tree → Type 0) (l : List Tree) → Canonical l → ((t : Tree) → Contains l t ↔ P t) → AreCanon P (texts l)
canon_back P l canonical members =
    let back = canonical_reads_back l canonical in
    let many = length-map l (text l) in
    record {
      types = record { framed = all_positions IsRecord (texts l) back.good.framed; checked = all_positions IsChecked (texts l) back.good.checked; ranked = (λ i. i, back.lower) };
      just = λ t. (
        λ h.
            let here : get_or l h.0 nothing ≡ t = sym (back.alone h.0 t h.1) in
            (members t).0 (subst (Contains l) here (Contains-get_or l h.0 nothing (omega (arith, in_range (texts l) h.0 t h.1, many)))),
        λ p.
            let c = (members t).1 p in
            let here : get_or l c.0 nothing ≡ t = get_or_default l c.0 nothing t c.1 ∙ c.2 in
            (c.0, subst (IsTreeAt (texts l) c.0) here (back.stand c.0 c.1)),
      );
      once = λ i j t at_i at_j.
          let same : get_or l i nothing ≡ get_or l j nothing = sym (back.alone i t at_i) ∙ back.alone j t at_j in
          let in_i : i < length l = omega (arith, in_range (texts l) i t at_i, many) in
          let in_j : j < length l = omega (arith, in_range (texts l) j t at_j, many) in
          elim (cases_order i j) [
            | inl equal ↦ equal
            | inr (inl less) ↦ absurd (canonical.distinct i j nothing less in_j same)
            | inr (inr more) ↦ absurd (canonical.distinct j i nothing more in_i (sym same))
          ];
    }

pub canon_types : (P : Tree → Type 0) (records : List (List ℕ)) → IsCanonOf records P → AreCanon P records
canon_types P records (l, canonical, are, members) = rw are (canon_back P l canonical members)

-- a canonical list of types is within a limit if the types are
pub canon_within : (P : Tree → Type 0) (records : List (List ℕ)) (limit : ℕ) → IsCanonOf records P → Within P limit → length (concat records) ≤ limit
canon_within P records limit (l, canonical, are, members) (bytes, (m, lists, heavy), few) =
    let less = weight_grows l m canonical.distinct (λ t c. (lists.members t).1 ((members t).0 c)) in
    let same : length (concat records) ≡ weight l = ap (λ (x : List (List ℕ)). length (concat x)) are ∙ weight_of_texts l canonical in
    omega (arith, less, same, heavy, few)

-- the file of a canonical list of the types of files: what holds when it is read back
pub record IsBack (P : Tree → Type 0) (file : List ℕ) (records : List (List ℕ)) : Type 0 where
  pub accepted : IsAccepted file records
  pub just : (t : Tree) → IsType records t ↔ P t
  pub once : StandOnce records

pub is_back : (files : List (List ℕ)) (settings : SettingsView) (records : List (List ℕ)) → AreSettings settings → Within (HasType files) (record_limit settings) → IsCanonOf records (HasType files)
    → IsBack (HasType files) (merged_file settings records) records
is_back files settings records are within canon =
    let back = canon_types (HasType files) records canon in
    let few = canon_within (HasType files) records (record_limit settings) canon within in
    record { accepted = accepted_back settings records are few back.types.framed (canon_bytes files records canon) back.types; just = back.just; once = back.once }
