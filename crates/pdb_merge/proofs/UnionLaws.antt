-- The types of several files, and how many bytes they have.
use Rattle.std.proofs.Common.{◌≡◌, ◌⊎◌, ◌↔◌, ℕ, ◌+◌, ◌<◌, ◌≤◌, Bool, false, List, [], ◌∷◌, ◌++◌, Option, zero, suc, subst, length, get_or, refl, sym, ◌∙◌, arith, inl, inr}
use Rattle.std.specs.Prelude.{IsTrue, Result, IfSome}
use Rattle.std.specs.List.{Contains}
use Rattle.std.proofs.lemmas.Bool.{cases_lt}
use Rattle.std.proofs.lemmas.List.{get_or_default}
use Rattle.std.proofs.lemmas.List.Elements.{Contains-get_or}
use Rattle.type_trees.specs.Tree.{Tree, tree, IsType}
use Rattle.type_trees.specs.Canon.{weight}
use Rattle.type_trees.specs.Table.{IsUnion}
use Rattle.type_trees.proofs.WeightLaws.{weight-none, weight_grows}
use Rattle.file_types.specs.Read.{IsAccepted}
use Rattle.byte_io.specs.Inputs.{Give}
use Rattle.byte_io.specs.declared.inputs.InputFault.{InputFault}
use Rattle.pdb_merge.specs.Answer.{RefusesFiles}
use Rattle.pdb_merge.specs.Fault.{NamesFault}
use Rattle.pdb_merge.specs.Laws.{TypesOfFirst, TypesOfBoth, AnyOrder, RefusedInAnyOrder, RefusedAddNothing, OneWeight}
use Rattle.pdb_merge.specs.Union.{FileHas, HasTypeBelow, HasType, AcceptedBelow, Weighs, Within, CanMerge, IsMergeFault, ReadsFirst, Unites}
use Rattle.pdb_merge.specs.declared.fault.MergeFault.{MergeFault}
use Rattle.pdb_merge.specs.declared.fault.MergeFault.TheVariants as merge
use Rattle.file_types.proofs.ReadLaws.{one_list, accepted_unrefused}

-- ---- weights

-- no records have no types
pub no_types : (t : Tree) → IsType [] t → ⊥
no_types (tree b bs) (i, stands) = omega (arith, stands.0)

pub none_within : (limit : ℕ) → Within (IsType []) limit
none_within limit =
    (0, ([], record { distinct = λ i j d less inside. absurd (omega (arith, inside)); members = λ t. (λ c. absurd (omega (arith, c.1)), λ h. absurd (no_types t h)) }, weight-none), omega arith)

pub weighs_same : (P Q : Tree → Type 0) (bytes : ℕ) → ((t : Tree) → P t ↔ Q t) → Weighs P bytes → Weighs Q bytes
weighs_same P Q bytes same (l, lists, heavy) =
    (l, record { distinct = lists.distinct; members = λ t. (λ c. (same t).0 ((lists.members t).0 c), λ q. (lists.members t).1 ((same t).1 q)) }, heavy)

pub within_same : (P Q : Tree → Type 0) (limit : ℕ) → ((t : Tree) → P t ↔ Q t) → Within P limit → Within Q limit
within_same P Q limit same (bytes, weighs, few) = (bytes, weighs_same P Q bytes same weighs, few)

-- the weight of types is unique
pub one_weight : (P : Tree → Type 0) (some other : ℕ) → Weighs P some → Weighs P other → some ≡ other
one_weight P some other (l, lists_l, is_l) (m, lists_m, is_m) =
    let up = weight_grows l m lists_l.distinct (λ t c. (lists_m.members t).1 ((lists_l.members t).0 c)) in
    let down = weight_grows m l lists_m.distinct (λ t c. (lists_l.members t).1 ((lists_m.members t).0 c)) in
    omega (arith, up, down, is_l, is_m)

-- the weight of a union that a table has
pub union_weighs : (before types : List (List ℕ)) (l : List Tree) (bytes : ℕ) → IsUnion l before types → weight l ≡ bytes → Weighs (λ t. IsType before t ⊎ IsType types t) bytes
union_weighs before types l bytes union heavy = (l, record { distinct = union.distinct; members = union.members }, heavy)

pub union_within : (before types after : List (List ℕ)) (limit : ℕ) → (l : List Tree) × IsUnion l before types × (weight l ≤ limit) → ((t : Tree) → IsType after t ↔ (IsType before t ⊎ IsType types t)) → Within (IsType after) limit
union_within before types after limit u same =
    within_same (λ t. IsType before t ⊎ IsType types t) (IsType after) limit (λ t. ((same t).1, (same t).0)) (weight u.0, union_weighs before types u.0 (weight u.0) u.1 refl, u.2)

-- what holds where nothing was added
pub not_added : {P : Type 0} (added : Bool) → IsTrue added ⊎ P → added ≡ false → P
not_added added (inl is) none = absurd cc
not_added added (inr same) none = same

-- ---- one more file

pub none_united : (files : List (List ℕ)) → Unites [] files 0
none_united files t = (λ h. absurd (no_types t h), λ h. absurd (omega (arith, h.1)))

pub joined : (before types files : List (List ℕ)) (k : ℕ) → Unites before files k → IsAccepted (get_or files k []) types
    → (t : Tree) → (IsType before t ⊎ IsType types t) ↔ HasTypeBelow files (k + 1) t
joined before types files k unites accepted t = (
  λ h. elim h [
    | inl old ↦ let there = (unites t).0 old in (there.0, omega (arith, there.1), there.2)
    | inr new ↦ (k, omega arith, (types, accepted, new))
  ],
  λ h. elim (cases_lt h.0 k) [
    | inl less ↦ inl ((unites t).1 (h.0, less, h.2))
    | inr le ↦
        let same : h.0 ≡ k = omega (arith, h.1, le) in
        let has : IsAccepted (get_or files k []) h.2.0 = rw (← same) h.2.1 in
        let list : h.2.0 ≡ types = one_list (get_or files k []) h.2.0 types has accepted in
        inr (rw (← list) h.2.2)
  ],
)

pub united_more : (before after files records : List (List ℕ)) (k : ℕ) → Unites before files k → IsAccepted (get_or files k []) records → ((t : Tree) → IsType after t ↔ (IsType before t ⊎ IsType records t)) → Unites after files (k + 1)
united_more before after files records k unites accepted types t =
    let both = joined before records files k unites accepted t in
    (λ h. both.0 ((types t).0 h), λ h. (types t).1 (both.1 h))

pub accepted_more : (files : List (List ℕ)) (k : ℕ) (types : List (List ℕ)) → IsAccepted (get_or files k []) types → AcceptedBelow files k → AcceptedBelow files (k + 1)
accepted_more files k types accepted below i inside = elim (cases_lt i k) [
  | inl less ↦ below i less
  | inr le ↦ let same : i ≡ k = omega (arith, inside, le) in rw same (types, accepted)
]

pub none_accepted : (files : List (List ℕ)) → AcceptedBelow files 0
none_accepted files i inside = absurd (omega (arith, inside))

pub one_accepted : (file : List ℕ) (types : List (List ℕ)) → IsAccepted file types → AcceptedBelow (file ∷ []) 1
one_accepted file types accepted = accepted_more (file ∷ []) 0 types accepted (none_accepted (file ∷ []))

-- ---- a list of files

-- files that can be merged are not too large
can_large : (A : Type 0) (files : List (List ℕ)) (limit file heavy : ℕ) → IsMergeFault {A = A} files limit (merge.TooLarge file heavy) → CanMerge files limit → ⊥
can_large A files limit file heavy (inside, below, accepted, (l, lists, is), more) can =
    let all = can.within.1 in
    let less = weight_grows l all.0 lists.distinct (λ t c. let there = (lists.members t).0 c in (all.1.members t).1 (there.0, omega (arith, there.1, inside), there.2)) in
    omega (arith, less, is, all.2, can.within.2, more)

-- files that can be merged are refused only when out of memory
pub stopped_alone : {A : Type 0} (files : List (List ℕ)) (limit : ℕ) (fault : MergeFault A) → IsMergeFault files limit fault → CanMerge files limit → fault ≡ merge.Memory
stopped_alone {A = A} files limit (merge.Input file fault) stops can = absurd stops
stopped_alone {A = A} files limit (merge.Refused file fault) (inside, below, refused) can =
    let has = can.accepted file inside in
    absurd (accepted_unrefused (get_or files file []) has.0 fault has.1 refused)
stopped_alone {A = A} files limit (merge.TooLarge file heavy) stops can = absurd (can_large A files limit file heavy stops can)
stopped_alone {A = A} files limit merge.Memory stops can = refl

-- ---- lists of the same files

first_or_other : (x : List ℕ) (files : List (List ℕ)) (t : Tree) (i : ℕ) → i < length (x ∷ files) → FileHas (get_or (x ∷ files) i []) t → FileHas x t ⊎ HasType files t
first_or_other x files t zero inside has = inl has
first_or_other x files t (suc i) inside has = inr (i, omega (arith, inside), has)

pub types_of_first : TypesOfFirst
types_of_first x files t = (
  λ h. first_or_other x files t h.0 h.1 h.2,
  λ h. elim h [
    | inl here ↦ (0, omega arith, here)
    | inr other ↦ (suc other.0, omega (arith, other.1), other.2)
  ],
)

pub types_of_both : TypesOfBoth
types_of_both [] others t = (λ h. inr h, λ h. elim h [ inl none ↦ absurd (omega (arith, none.1)) | inr other ↦ other ])
types_of_both (x ∷ files) others t =
    let all = types_of_first x (files ++ others) t in
    let some = types_of_first x files t in
    let both = types_of_both files others t in (
      λ h. elim (all.0 h) [
        | inl here ↦ inl (some.1 (inl here))
        | inr later ↦ elim (both.0 later) [ inl first ↦ inl (some.1 (inr first)) | inr other ↦ inr other ]
      ],
      λ h. elim h [
        | inl first ↦ elim (some.0 first) [ inl here ↦ all.1 (inl here) | inr later ↦ all.1 (inr (both.1 (inl later))) ]
        | inr other ↦ all.1 (inr (both.1 (inr other)))
      ],
    )

-- a file of one list is in the other
stands_in : (files others : List (List ℕ)) (i : ℕ) → ((x : List ℕ) → Contains files x → Contains others x) → i < length files → (j : ℕ) × (j < length others) × (get_or files i [] ≡ get_or others j [])
stands_in files others i within inside =
    let c = within (get_or files i []) (Contains-get_or files i [] inside) in
    (c.0, c.1, sym (get_or_default others c.0 [] (get_or files i []) c.1 ∙ c.2))

types_move : (files others : List (List ℕ)) → ((x : List ℕ) → Contains files x → Contains others x) → (t : Tree) → HasType files t → HasType others t
types_move files others within t has =
    let there = stands_in files others has.0 within has.1 in
    (there.0, there.1, subst (λ (x : List ℕ). FileHas x t) there.2 has.2)

accepted_move : (files others : List (List ℕ)) → ((x : List ℕ) → Contains others x → Contains files x) → AcceptedBelow files (length files) → AcceptedBelow others (length others)
accepted_move files others within accepted i inside =
    let there = stands_in others files i within inside in
    rw there.2 (accepted there.0 there.1)

can_move : (files others : List (List ℕ)) (limit : ℕ) → ((x : List ℕ) → Contains files x → Contains others x) → ((x : List ℕ) → Contains others x → Contains files x) → CanMerge files limit → CanMerge others limit
can_move files others limit there back can = record {
  accepted = accepted_move files others back can.accepted;
  within = within_same (HasType files) (HasType others) limit (λ t. (types_move files others there t, types_move others files back t)) can.within;
}

pub any_order : AnyOrder
any_order files others limit same =
    let there : (x : List ℕ) → Contains files x → Contains others x = λ x. (same x).0 in
    let back : (x : List ℕ) → Contains others x → Contains files x = λ x. (same x).1 in (
      (can_move files others limit there back, can_move others files limit back there),
      λ t. (types_move files others there t, types_move others files back t),
    )

-- only accepted files have types
accepted_types_move : (files others : List (List ℕ)) → ((file : List ℕ) (records : List (List ℕ)) → IsAccepted file records → Contains files file → Contains others file)
    → (t : Tree) → HasType files t → HasType others t
accepted_types_move files others within t has =
    let file = get_or files has.0 [] in
    let c = within file has.2.0 has.2.1 (Contains-get_or files has.0 [] has.1) in
    let same : file ≡ get_or others c.0 [] = sym (get_or_default others c.0 [] file c.1 ∙ c.2) in
    (c.0, c.1, subst (λ (x : List ℕ). FileHas x t) same has.2)

pub refused_add_nothing : RefusedAddNothing
refused_add_nothing files others same t = (
  accepted_types_move files others (λ file records accepted. (same file records accepted).0) t,
  accepted_types_move others files (λ file records accepted. (same file records accepted).1) t,
)

pub weight_of_files : OneWeight
weight_of_files files end some other weighs_s weighs_o = one_weight (HasTypeBelow files end) some other weighs_s weighs_o

pub refused_in_any_order : {A : Type 0} → RefusedInAnyOrder A
refused_in_any_order files others limit fault same stops other can =
    other (stopped_alone files limit fault stops ((any_order files others limit same).0.1 can))

-- files that can be merged only where it is out of memory are refused with such a fault: in one order as in any order
pub refuses_files : {A : Type 0} (known : Option (List (Result (List ℕ) InputFault))) (limit : ℕ) (fault : MergeFault A) → ((given : List (List ℕ)) → Give known given → IsMergeFault given limit fault)
    → IfSome known (λ each. ReadsFirst each fault) → NamesFault fault → ((given : List (List ℕ)) → Give known given → CanMerge given limit → fault ≡ merge.Memory) → RefusesFiles known limit fault
refuses_files known limit fault first reads named found = record {
  first = first;
  reads = reads;
  named = named;
  found = found;
  any_order = λ given gives other others same can. other (found given gives ((any_order given others limit same).0.1 can));
}
