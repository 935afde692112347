-- Merges that leave out the files that are refused.
use Rattle.std.proofs.Common.{◌≡◌, ◌≢◌, ◌⊎◌, ◌↔◌, ◌+◌, ◌<◌, ◌≤◌, ℕ, List, [], ◌∷◌, ◌++◌, Option, Some, None, length, take, drop, get_or, refl, sym, ap, ◌∙◌, arith, inl, inr, length-append}
use Rattle.std.specs.Prelude.{Result, IfSome}
use Rattle.std.specs.List.{All, AllPairs}
use Rattle.std.proofs.lemmas.Bool.{cases_lt}
use Rattle.std.proofs.lemmas.List.{get_or_append_left, get_or-map, get_or-take, length-map, length-take-le, take-append-drop, take_more}
use Rattle.std.proofs.lemmas.List.Elements.{All-contains, All-push, Contains-append_left, Contains-push}
use Rattle.std.proofs.Math.Seq.{get_or-append_seam}
use Rattle.byte_io.specs.Inputs.{Give, CanRead}
use Rattle.byte_io.specs.declared.inputs.InputFault.{InputFault}
use Rattle.byte_io.specs.declared.inputs.InputFault.TheVariants as inputs
use Rattle.byte_io.specs.declared.input.ReadFault.TheVariants as reads
use Rattle.canonical_list.specs.Finish.{IsCanonOf}
use Rattle.type_trees.specs.Tree.{Tree, IsType}
use Rattle.type_trees.proofs.WeightLaws.{weight_grows}
use Rattle.file_types.specs.Read.{IsAccepted, HasPdbFault}
use Rattle.file_types.specs.declared.fault.PdbFault.TheVariants as pdb
use Rattle.file_types.proofs.ReadLaws.{accepted_unrefused}
use Rattle.type_table.proofs.CanonTableLaws.{canon_same}
use Rattle.type_table.proofs.MapLaws.{numbers_still, numbers_follow}
use Rattle.type_table.specs.Maps.{IsMapped, AreFollowed, followed_by, with_map}
use Rattle.type_table.specs.Merge.{StartsWith}
use Rattle.pdb_merge.specs.Merging.{MergeView, AddsFile}
use Rattle.pdb_merge.specs.Own.{IsNotRefused, IsOfReading, IsOwnFault, merge_from_own}
use Rattle.pdb_merge.specs.Fault.{NamesFault}
use Rattle.pdb_merge.specs.Sift.{AcceptsNeeded, AreListed, AreMapsBut, AreSpared, CanSift, HasSifted, IsLeftOut, IsOfSift, IsRefused, IsSiftFault, LeavesOut, RefusesSift, SiftsUpTo}
use Rattle.pdb_merge.specs.Union.{FileHas, HasType, HasTypeBelow, ReadsFirst, Unites, Within}
use Rattle.pdb_merge.specs.declared.fault.AddFault.TheVariants as add
use Rattle.pdb_merge.specs.declared.fault.MergeFault.{MergeFault}
use Rattle.pdb_merge.specs.declared.fault.MergeFault.TheVariants as merge
use Rattle.pdb_merge.specs.declared.input.OwnFault.{OwnFault}
use Rattle.pdb_merge.specs.declared.input.OwnFault.TheVariants as own
use Rattle.pdb_merge.specs.declared.sift.LeftOut.{LeftOut}
use Rattle.pdb_merge.proofs.InputLaws.{given_inside}
use Rattle.pdb_merge.proofs.UnionLaws.{joined, none_united, none_within, united_more, weighs_same, within_same}

-- ---- files with more files after them

-- more files change no file before them
same_file : (files more : List (List ℕ)) (i : ℕ) → i < length files → get_or (files ++ more) i [] ≡ get_or files i []
same_file files more i inside = get_or_append_left files more [] i inside

-- more files do not change the types of those before them
same_below : (files more : List (List ℕ)) (end : ℕ) → end ≤ length files → (t : Tree) → HasTypeBelow files end t ↔ HasTypeBelow (files ++ more) end t
same_below files more end inside t = (
  λ h. let same = same_file files more h.0 (omega (arith, h.1, inside)) in (h.0, h.1, rw same h.2),
  λ h. let same = same_file files more h.0 (omega (arith, h.1, inside)) in (h.0, h.1, rw same at h.2),
)

unites_still : (records files more : List (List ℕ)) (end : ℕ) → end ≤ length files → Unites records files end → Unites records (files ++ more) end
unites_still records files more end inside unites t =
    let same = same_below files more end inside t in
    (λ h. same.0 ((unites t).0 h), λ h. (unites t).1 (same.1 h))

last_file : (files : List (List ℕ)) (file : List ℕ) → get_or (files ++ file ∷ []) (length files) [] ≡ file
last_file files file = get_or-append_seam files file [] []

-- ---- what is left out

-- one more, behind all others
pairs_push : {A : Type 0} (end : ℕ) (left : List (LeftOut A)) (one : LeftOut A) → AllPairs (λ a b. a.file < b.file) left → All (λ a. a.file < end) left → one.file ≡ end
    → AllPairs (λ a b. a.file < b.file) (left ++ one ∷ [])
pairs_push end left one pairs below at i j d less inside = elim (cases_lt j (length left)) [
  | inl there ↦
      rw (get_or_append_left left (one ∷ []) d i (omega (arith, less, there)), get_or_append_left left (one ∷ []) d j there) (pairs i j d less there)
  | inr past ↦
      let last : j ≡ length left = omega (arith, inside, past, length-append left (one ∷ [])) in
      let here : get_or (left ++ one ∷ []) j d ≡ one = ap (λ k. get_or (left ++ one ∷ []) k d) last ∙ get_or-append_seam left one [] d in
      let before = below i d (omega (arith, less, last)) in
      rw (get_or_append_left left (one ∷ []) d i (omega (arith, less, last)), here, at) before
]

none_listed : {A : Type 0} (end : ℕ) → AreListed {A = A} end []
none_listed end = record {
  in_order = λ i j d less inside. absurd (omega (arith, inside));
  below = λ k d inside. absurd (omega (arith, inside));
  named = λ k d inside. absurd (omega (arith, inside));
}

listed_still : {A : Type 0} (end more : ℕ) (left : List (LeftOut A)) → end ≤ more → AreListed end left → AreListed more left
listed_still end more left less listed = record {
  in_order = listed.in_order;
  below = λ k d inside. omega (arith, listed.below k d inside, less);
  named = listed.named;
}

listed_more : {A : Type 0} (end : ℕ) (left : List (LeftOut A)) (one : LeftOut A) → AreListed end left → one.file ≡ end → one.fault ≢ pdb.Memory → AreListed (end + 1) (left ++ one ∷ [])
listed_more end left one listed at named = record {
  in_order = pairs_push end left one listed.in_order listed.below at;
  below = All-push (λ a. a.file < end + 1) left one (λ k d inside. omega (arith, listed.below k d inside)) (omega (arith, at));
  named = All-push (λ a. a.fault ≢ pdb.Memory) left one listed.named named;
}

-- more files change no file that is refused
refused_still : {A : Type 0} (files more : List (List ℕ)) (left : List (LeftOut A)) → All (IsRefused files) left → All (IsRefused (files ++ more)) left
refused_still files more left refused k d inside =
    let was = refused k d inside in
    record { inside = omega (arith, was.inside, length-append files more); refused = rw (same_file files more (get_or left k d).file was.inside) was.refused }

left_still : {A : Type 0} (left : List (LeftOut A)) (one : LeftOut A) (i : ℕ) → IsLeftOut left i → IsLeftOut (left ++ one ∷ []) i
left_still left one i (it, holds, at) = (it, Contains-append_left left (one ∷ []) it holds, at)

length_more : (files : List (List ℕ)) (file : List ℕ) → length files + 1 ≡ length (files ++ file ∷ [])
length_more files file = omega (arith, length-append files (file ∷ []))

-- one more file that is accepted
leaves_more : {A : Type 0} (files records : List (List ℕ)) (file : List ℕ) (left : List (LeftOut A)) → IsAccepted file records → LeavesOut files left → LeavesOut (files ++ file ∷ []) left
leaves_more files records file left accepted leaves =
    let many = length_more files file in
    record {
      listed = listed_still (length files) (length (files ++ file ∷ [])) left (omega (arith, many)) leaves.listed;
      refused = refused_still files (file ∷ []) left leaves.refused;
      others = λ i inside. elim (cases_lt i (length files)) [
        | inl less ↦ elim (leaves.others i less) [
          | inl out ↦ inl out
          | inr has ↦ inr (has.0, rw (same_file files (file ∷ []) i less) has.1)
        ]
        | inr le ↦
            let at : i ≡ length files = omega (arith, le, inside, many) in
            inr (records, rw (at, last_file files file) accepted)
      ];
    }

-- one more file that is left out
leaves_one : {A : Type 0} (files : List (List ℕ)) (file : List ℕ) (left : List (LeftOut A)) (one : LeftOut A) → one.file ≡ length files → one.fault ≢ pdb.Memory → HasPdbFault file one.fault
    → LeavesOut files left → LeavesOut (files ++ file ∷ []) (left ++ one ∷ [])
leaves_one files file left one at named refused leaves =
    let many = length_more files file in
    record {
      listed = rw (← many) (listed_more (length files) left one leaves.listed at named);
      refused = All-push (IsRefused (files ++ file ∷ [])) left one (refused_still files (file ∷ []) left leaves.refused)
          (record { inside = omega (arith, at, many); refused = rw (at, last_file files file) refused });
      others = λ i inside. elim (cases_lt i (length files)) [
        | inl less ↦ elim (leaves.others i less) [
          | inl out ↦ inl (left_still left one i out)
          | inr has ↦ inr (has.0, rw (same_file files (file ∷ []) i less) has.1)
        ]
        | inr le ↦ inl (one, Contains-push left one, omega (arith, at, le, inside, many))
      ];
    }

-- ---- the types

-- a file that is refused has no types
refused_has : {A : Type 0} (file : List ℕ) (one : LeftOut A) → HasPdbFault file one.fault → (t : Tree) → FileHas file t → ⊥
refused_has file one refused t (records, accepted, is) = accepted_unrefused file records one.fault accepted refused

unites_one : {A : Type 0} (types files : List (List ℕ)) (file : List ℕ) (one : LeftOut A) → HasPdbFault file one.fault → Unites types files (length files) → Unites types (files ++ file ∷ []) (length files + 1)
unites_one types files file one refused unites t =
    let still = unites_still types files (file ∷ []) (length files) (omega arith) unites t in (
      λ h. let there = still.0 h in (there.0, omega (arith, there.1), there.2),
      λ h. elim (cases_lt h.0 (length files)) [
        | inl less ↦ still.1 (h.0, less, h.2)
        | inr le ↦
            let at : h.0 ≡ length files = omega (arith, h.1, le) in
            absurd (refused_has file one refused t (rw (at, last_file files file) at h.2))
      ],
    )

-- ---- the maps

maps_still : {A : Type 0} (files : List (List ℕ)) (file : List ℕ) (before after records : List (List ℕ)) (left : List (LeftOut A)) (old new : Option (List (List ℕ))) → IsAccepted file records → StartsWith after before
    → IsMapped records after old new → IfSome old (AreMapsBut files left before) → IfSome new (AreMapsBut (files ++ file ∷ []) left after)
maps_still files file before after records left None new accepted front mapped are = rw mapped.kept tt
maps_still files file before after records left (Some maps) new accepted front mapped are = rw mapped.kept (record {
  many = omega (arith, are.many, length-append maps (mapped.numbers ∷ []), length-append files (file ∷ []));
  each = λ i inside. elim (cases_lt i (length files)) [
    | inl less ↦
        rw (same_file files (file ∷ []) i less, get_or_append_left maps (mapped.numbers ∷ []) [] i (omega (arith, less, are.many)))
        (elim (are.each i less) [
          | inl was ↦ inl (was.0, was.1, numbers_still was.0 before after (get_or maps i []) was.2 front)
          | inr out ↦ inr out
        ])
    | inr le ↦
        let at : i ≡ length files = omega (arith, le, inside, length-append files (file ∷ [])) in
        let here : get_or (files ++ file ∷ []) i [] ≡ file = ap (λ k. get_or (files ++ file ∷ []) k []) at ∙ last_file files file in
        let map : get_or (maps ++ mapped.numbers ∷ []) i [] ≡ mapped.numbers = ap (λ k. get_or (maps ++ mapped.numbers ∷ []) k []) (at ∙ sym are.many) ∙ get_or-append_seam maps mapped.numbers [] [] in
        rw (here, map) (inl (records, accepted, mapped.are))
  ];
})

maps_one : {A : Type 0} (files : List (List ℕ)) (file : List ℕ) (types : List (List ℕ)) (left : List (LeftOut A)) (one : LeftOut A) (old new : Option (List (List ℕ))) → one.file ≡ length files → new ≡ with_map old []
    → IfSome old (AreMapsBut files left types) → IfSome new (AreMapsBut (files ++ file ∷ []) (left ++ one ∷ []) types)
maps_one files file types left one None new at kept are = rw kept tt
maps_one files file types left one (Some maps) new at kept are = rw kept (record {
  many = omega (arith, are.many, length-append maps ([] ∷ []), length-append files (file ∷ []));
  each = λ i inside. elim (cases_lt i (length files)) [
    | inl less ↦
        rw (same_file files (file ∷ []) i less, get_or_append_left maps ([] ∷ []) [] i (omega (arith, less, are.many)))
        (elim (are.each i less) [ inl was ↦ inl was | inr out ↦ inr (left_still left one i out.0, out.1) ])
    | inr le ↦
        let here : i ≡ length files = omega (arith, le, inside, length-append files (file ∷ [])) in
        let none : get_or (maps ++ [] ∷ []) i [] ≡ [] = ap (λ k. get_or (maps ++ [] ∷ []) k []) (here ∙ sym are.many) ∙ get_or-append_seam maps [] [] [] in
        inr ((one, Contains-push left one, at ∙ sym here), none)
  ];
})

-- ---- one more file

no_maps : (A : Type 0) (list : List (List ℕ)) (maps : Option (List (List ℕ))) → IfSome maps (λ none. none ≡ []) → IfSome maps (AreMapsBut {A = A} [] [] list)
no_maps A list None none = tt
no_maps A list (Some maps) none = record { many = ap length none; each = λ i inside. absurd (omega (arith, inside)) }

-- no files so far
none_sifted : (A : Type 0) (m : MergeView) → m.types ≡ [] → IfSome m.maps (λ none. none ≡ []) → HasSifted {A = A} m [] []
none_sifted A m types none = record {
  leaves = record {
    listed = none_listed 0;
    refused = λ k d inside. absurd (omega (arith, inside));
    others = λ i inside. absurd (omega (arith, inside));
  };
  unites = rw types (none_united []);
  within = rw types (none_within m.limit);
  maps = no_maps A m.types m.maps none;
}

sifted_more : {A : Type 0} (before after : MergeView) (files : List (List ℕ)) (file : List ℕ) (left : List (LeftOut A)) → AddsFile before after file → Within (IsType after.types) after.limit
    → HasSifted before files left → HasSifted after (files ++ file ∷ []) left
sifted_more before after files file left takes within sifted =
    let all = files ++ file ∷ [] in
    let many = length_more files file in
    let unites = unites_still before.types files (file ∷ []) (length files) (omega arith) sifted.unites in
    let here : IsAccepted (get_or all (length files) []) takes.records = rw (last_file files file) takes.accepted in
    record {
      leaves = leaves_more files takes.records file left takes.accepted sifted.leaves;
      unites = rw (← many) (united_more before.types after.types all takes.records (length files) unites here takes.added.types);
      within = within;
      maps = maps_still files file before.types after.types takes.records left before.maps after.maps takes.accepted takes.added.front takes.added.mapped sifted.maps;
    }

sifted_one : {A : Type 0} (before after : MergeView) (files : List (List ℕ)) (file : List ℕ) (left : List (LeftOut A)) (one : LeftOut A) → one.file ≡ length files → one.fault ≢ pdb.Memory → HasPdbFault file one.fault
    → after.types ≡ before.types → after.limit ≡ before.limit → after.maps ≡ with_map before.maps [] → HasSifted before files left → HasSifted after (files ++ file ∷ []) (left ++ one ∷ [])
sifted_one before after files file left one at named refused types limit maps sifted =
    let many = length_more files file in
    record {
      leaves = leaves_one files file left one at named refused sifted.leaves;
      unites = rw (types, ← many) (unites_one before.types files file one refused sifted.unites);
      within = rw (types, limit) sifted.within;
      maps = rw types (maps_one files file before.types left one before.maps after.maps at maps sifted.maps);
    }

-- ---- why nothing is merged

unites_whole : (types files : List (List ℕ)) (k : ℕ) → k < length files → Unites types (take k files) (length (take k files)) → Unites types files k
unites_whole types files k inside unites =
    let many : length (take k files) ≡ k = length-take-le k files (omega (arith, inside)) in
    rw (take-append-drop k files, many) at (unites_still types (take k files) (drop k files) (length (take k files)) (omega arith) unites)

-- each file that must stay is accepted
leaves_needed : {A : Type 0} (must : ℕ → Type 0) (files : List (List ℕ)) (left : List (LeftOut A)) → LeavesOut files left → AreSpared must left → AcceptsNeeded must files (length files)
leaves_needed must files left leaves spared i less stays = elim (leaves.others i less) [
  | inl (one, holds, at) ↦ absurd (All-contains (λ a. must a.file → ⊥) left one spared holds (rw at stays))
  | inr has ↦ has
]

-- so are the first of them
needed_below : {A : Type 0} (must : ℕ → Type 0) (files : List (List ℕ)) (k : ℕ) (left : List (LeftOut A)) → k < length files → LeavesOut (take k files) left → AreSpared must left → AcceptsNeeded must files k
needed_below must files k left inside leaves spared i less stays =
    let many : length (take k files) ≡ k = length-take-le k files (omega (arith, inside)) in
    let has = leaves_needed must (take k files) left leaves spared i (omega (arith, less, many)) stays in
    (has.0, rw (get_or-take k files i [] less) at has.1)

can_below : {A : Type 0} (must : ℕ → Type 0) (m : MergeView) (files : List (List ℕ)) (k : ℕ) (left : List (LeftOut A)) → k < length files → HasSifted m (take k files) left → AreSpared must left → CanSift must files k m.limit
can_below must m files k left inside sifted spared = record {
  accepted = needed_below must files k left inside sifted.leaves spared;
  within = within_same (IsType m.types) (HasTypeBelow files k) m.limit (unites_whole m.types files k inside sifted.unites) sifted.within;
}

sift_stops : {A : Type 0} (must : ℕ → Type 0) (m : MergeView) (files : List (List ℕ)) (k : ℕ) (left : List (LeftOut A)) (fault : OwnFault A) (outer : MergeFault A) → k < length files
    → HasSifted m (take k files) left → AreSpared must left → (outer ≡ merge_from_own k fault) ⊎ (outer ≡ merge.Memory) → must k ⊎ IsNotRefused fault → IsOwnFault m.types m.limit (get_or files k []) fault → IsSiftFault must files m.limit outer
sift_stops must m files k left fault outer inside sifted spared (inr memory) kind is = rw memory tt
sift_stops must m files k left (own.Unread inner) outer inside sifted spared (inl made) kind is = rw (made, is) tt
sift_stops must m files k left (own.Of (add.Refused inner)) outer inside sifted spared (inl made) (inl stays) is = rw made (inside, stays, can_below must m files k left inside sifted spared, is)
sift_stops must m files k left (own.Of (add.Refused inner)) outer inside sifted spared (inl made) (inr kind) is = absurd kind
sift_stops must m files k left (own.Of add.Memory) outer inside sifted spared (inl made) kind is = rw made tt
sift_stops must m files k left (own.Of (add.TooLarge bytes)) outer inside sifted spared (inl made) kind (records, accepted, weighs, more) =
    let unites = unites_whole m.types files k inside sifted.unites in
    rw made (
      inside,
      can_below must m files k left inside sifted spared,
      (records, accepted),
      weighs_same (λ t. IsType m.types t ⊎ IsType records t) (HasTypeBelow files (k + 1)) bytes (joined m.types records files k unites accepted) weighs,
      more,
    )

-- such a fault is no fault of a file alone, but of one that is needed
sift_kind : {A : Type 0} (must : ℕ → Type 0) (k : ℕ) (fault : OwnFault A) (outer : MergeFault A) → (outer ≡ merge_from_own k fault) ⊎ IsOfReading outer → must k ⊎ IsNotRefused fault → NamesFault outer → IsOfSift must outer
sift_kind must k fault (merge.Input file inner) is kind named = named
sift_kind must k fault (merge.TooLarge file bytes) is kind named = named
sift_kind must k fault merge.Memory is kind named = named
sift_kind must k (own.Of (add.Refused f)) (merge.Refused file inner) (inl made) (inl stays) named =
    let at : file ≡ k = cc in
    (rw at stays, named)
sift_kind must k (own.Of (add.Refused f)) (merge.Refused file inner) is (inr kind) named = absurd kind
sift_kind must k (own.Unread inputs.Open) (merge.Refused file inner) (inl made) kind named = absurd cc
sift_kind must k (own.Unread (inputs.Read reads.Read)) (merge.Refused file inner) (inl made) kind named = absurd cc
sift_kind must k (own.Unread (inputs.Read reads.TooLong)) (merge.Refused file inner) (inl made) kind named = absurd cc
sift_kind must k (own.Unread (inputs.Read reads.Memory)) (merge.Refused file inner) (inl made) kind named = absurd cc
sift_kind must k (own.Of (add.TooLarge bytes)) (merge.Refused file inner) (inl made) kind named = absurd cc
sift_kind must k (own.Of add.Memory) (merge.Refused file inner) (inl made) kind named = absurd cc
sift_kind must k fault (merge.Refused file inner) (inr reading) kind named = absurd reading

-- files that can be merged have no fault
sift_alone : {A : Type 0} (must : ℕ → Type 0) (files : List (List ℕ)) (limit : ℕ) (fault : MergeFault A) → IsSiftFault must files limit fault → CanSift must files (length files) limit → fault ≡ merge.Memory
sift_alone must files limit (merge.Input file inner) is can = absurd is
sift_alone must files limit (merge.Refused file inner) (inside, stays, below, refused) can =
    let (records, accepted) = can.accepted file inside stays in
    absurd (accepted_unrefused (get_or files file []) records inner accepted refused)
sift_alone must files limit (merge.TooLarge file bytes) (inside, below, accepted, (l, lists, heavy), more) can =
    let (all, (m, lists_m, heavy_m), few) = can.within in
    let less = weight_grows l m lists.distinct (λ t c. let there = (lists.members t).0 c in (lists_m.members t).1 (there.0, omega (arith, there.1, inside), there.2)) in
    absurd (omega (arith, less, heavy, heavy_m, few, more))
sift_alone must files limit merge.Memory is can = refl

pub sift_refuses : {A : Type 0} (known : Option (List (Result (List ℕ) InputFault))) (must : ℕ → Type 0) (k : ℕ) (m : MergeView) (left : List (LeftOut A)) (fault : OwnFault A) (outer : MergeFault A)
    → IfSome known (λ each. k < length each) → SiftsUpTo known must k m left
    → ((given : List (List ℕ)) → Give known given → IsOwnFault m.types m.limit (get_or given k []) fault)
    → ((given : List (List ℕ)) → Give known given → (outer ≡ merge_from_own k fault) ⊎ (outer ≡ merge.Memory))
    → (outer ≡ merge_from_own k fault) ⊎ IsOfReading outer → must k ⊎ IsNotRefused fault → IfSome known (λ each. ReadsFirst each outer) → NamesFault outer → RefusesSift known must m.limit outer
sift_refuses known must k m left fault outer inside so_far is made kind refused first named =
    let stops : (given : List (List ℕ)) → Give known given → IsSiftFault must given m.limit outer =
    λ given gives. sift_stops must m given k left fault outer (given_inside known given k gives inside) (so_far.sifted given gives) so_far.spared (made given gives) refused (is given gives) in
    record {
      first = stops;
      reads = first;
      own = sift_kind must k fault outer kind refused named;
      found = λ given gives can. sift_alone must given m.limit outer (stops given gives) can;
    }

-- out of memory refuses any files
pub memory_refuses : (A : Type 0) (known : Option (List (Result (List ℕ) InputFault))) (must : ℕ → Type 0) (limit : ℕ) → RefusesSift {A = A} known must limit merge.Memory
memory_refuses A None must limit = record { first = λ given gives. tt; reads = tt; own = tt; found = λ given gives can. refl }
memory_refuses A (Some each) must limit = record { first = λ given gives. tt; reads = tt; own = tt; found = λ given gives can. refl }

-- ---- the next file

none_read : (known : Option (List (Result (List ℕ) InputFault))) → IfSome known (λ each. CanRead each 0)
none_read None = tt
none_read (Some each) = λ k below. absurd (omega (arith, below))

-- there is none so far
pub sifts_none : (A : Type 0) (known : Option (List (Result (List ℕ) InputFault))) (must : ℕ → Type 0) (m : MergeView) → m.types ≡ [] → IfSome m.maps (λ none. none ≡ []) → SiftsUpTo {A = A} known must 0 m []
sifts_none A known must m types none = record {
  sifted = λ files given. none_sifted A m types none;
  listed = none_listed 0;
  spared = λ k d inside. absurd (omega (arith, inside));
  read = none_read known;
  within = rw types (none_within m.limit);
}

-- it was added
pub sifts_added : {A : Type 0} (known : Option (List (Result (List ℕ) InputFault))) (must : ℕ → Type 0) (k : ℕ) (before after : MergeView) (left : List (LeftOut A))
    → IfSome known (λ each. k < length each) → SiftsUpTo known must k before left
    → ((files : List (List ℕ)) → Give known files → AddsFile before after (get_or files k []))
    → Within (IsType after.types) after.limit → IfSome known (λ each. CanRead each (k + 1)) → SiftsUpTo known must (k + 1) after left
sifts_added known must k before after left inside so_far adds within read = record {
  sifted = λ files given. rw (take_more files k [] (given_inside known files k given inside)) (sifted_more before after (take k files) (get_or files k []) left (adds files given) within (so_far.sifted files given));
  listed = listed_still k (k + 1) left (omega arith) so_far.listed;
  spared = so_far.spared;
  read = read;
  within = within;
}

-- it is left out
pub sifts_left : {A : Type 0} (known : Option (List (Result (List ℕ) InputFault))) (must : ℕ → Type 0) (k : ℕ) (before after : MergeView) (left : List (LeftOut A)) (one : LeftOut A)
    → IfSome known (λ each. k < length each) → SiftsUpTo known must k before left → one.file ≡ k → one.fault ≢ pdb.Memory → (must k → ⊥)
    → ((files : List (List ℕ)) → Give known files → HasPdbFault (get_or files k []) one.fault)
    → after.types ≡ before.types → after.limit ≡ before.limit → after.maps ≡ with_map before.maps [] → IfSome known (λ each. CanRead each (k + 1)) → SiftsUpTo known must (k + 1) after (left ++ one ∷ [])
sifts_left known must k before after left one inside so_far at named spared refused types limit maps read = record {
  sifted = λ files given.
      let below = given_inside known files k given inside in
      let many : k ≡ length (take k files) = sym (length-take-le k files (omega (arith, below))) in
      rw (take_more files k [] below) (sifted_one before after (take k files) (get_or files k []) left one (at ∙ many) named (refused files given) types limit maps (so_far.sifted files given));
  listed = listed_more k left one so_far.listed at named;
  spared = All-push (λ a. must a.file → ⊥) left one so_far.spared (rw at spared);
  read = read;
  within = rw (types, limit) so_far.within;
}

-- ---- the inputs

pub known_inside : (known : Option (List (Result (List ℕ) InputFault))) (i end : ℕ) → IfSome known (λ each. end ≡ length each) → i < end → IfSome known (λ each. i < length each)
known_inside None i end count inside = tt
known_inside (Some each) i end count inside = omega (arith, count, inside)

-- ---- at the end

maps_finished : {A : Type 0} (files table list : List (List ℕ)) (left : List (LeftOut A)) (old new : Option (List (List ℕ))) → AreFollowed table list old new
    → IfSome old (AreMapsBut files left table) → IfSome new (AreMapsBut files left list)
maps_finished files table list left None new all are = rw all.followed tt
maps_finished files table list left (Some maps) new all are = rw all.followed (record {
  many = length-map maps (λ numbers. followed_by numbers all.numbers) ∙ are.many;
  each = λ i inside.
      rw (get_or-map (λ numbers. followed_by numbers all.numbers) maps i [] [] (omega (arith, inside, are.many)))
      (elim (are.each i inside) [
        | inl was ↦ inl (was.0, was.1, numbers_follow was.0 table list (get_or maps i []) all.numbers was.2 all.are)
        | inr out ↦ inr (out.0, ap (λ numbers. followed_by numbers all.numbers) out.1)
      ]);
})

pub sifted_maps : {A : Type 0} (m : MergeView) (list files : List (List ℕ)) (left : List (LeftOut A)) (new : Option (List (List ℕ))) → AreFollowed m.types list m.maps new → HasSifted m files left
    → IfSome new (AreMapsBut files left list)
sifted_maps m list files left new all sifted = maps_finished files m.types list left m.maps new all sifted.maps

pub sifted_canon : {A : Type 0} (m : MergeView) (list files : List (List ℕ)) (left : List (LeftOut A)) → IsCanonOf list (IsType m.types) → HasSifted m files left → IsCanonOf list (HasType files)
sifted_canon m list files left is sifted = canon_same list (IsType m.types) (HasType files) is sifted.unites

-- the files can be merged, but for those that are left out
pub sifted_can : {A : Type 0} (must : ℕ → Type 0) (m : MergeView) (files : List (List ℕ)) (left : List (LeftOut A)) → AreSpared must left → HasSifted m files left → CanSift must files (length files) m.limit
sifted_can must m files left spared sifted = record {
  accepted = leaves_needed must files left sifted.leaves spared;
  within = within_same (IsType m.types) (HasType files) m.limit sifted.unites sifted.within;
}
