-- What is told of a record, by its kind, and its places.
use Rattle.std.proofs.Common.{◌≡◌, ℕ, arith, nat_le, length, List, [], ◌∷◌, ◌++◌, true, false, refl, ap, inl, inr, codes, map}
use Rattle.std.specs.Fmt.{decimal}
use Rattle.cv_leaves.specs.Attributes.{points_to_member}
use Rattle.cv_leaves.specs.Checks.{kind_of, body_of, places_of, rest_places, places_from}
use Rattle.cv_leaves.specs.Leaf.{leaf_of}
use Rattle.type_expressions.specs.Field.{number_in, numeric_text}
use Rattle.type_expressions.specs.Told.{plain_words, told, strung, modifier_words, pointer_words, bit_words}
use Rattle.cv_leaves.specs.Part.{part_places, part_end}
use Rattle.cv_leaves.specs.declared.leaf.Rest.TheVariants.{Containing}
use Rattle.cv_leaves.proofs.PartLaws.{places_here}
use Rattle.byte_fields.specs.Number.{number_at}
use Rattle.std.proofs.lemmas.Bool.{cases_Bool, ne_eqb}
use Rattle.type_expressions.proofs.BranchLaws.{Has}

pub told-modifier : (r : List ℕ) (at : ℕ → List ℕ) → kind_of r ≡ 0x1001 → told r at ≡ modifier_words (body_of r) ++ at 0
unfolding told
told-modifier r at kind = rw kind refl

pub has-modifier : (r : List ℕ) → kind_of r ≡ 0x1001 → Has 0 (places_of r)
unfolding places_of leaf_of
has-modifier r kind = rw kind (inl refl)

pub told-procedure : (r : List ℕ) (at : ℕ → List ℕ) → kind_of r ≡ 0x1008 → told r at ≡ codes "function " ++ at 8 ++ codes " giving " ++ at 0
unfolding told
told-procedure r at kind = rw kind refl

pub has-procedure : (r : List ℕ) → kind_of r ≡ 0x1008 → Has 0 (places_of r) × Has 8 (places_of r)
unfolding places_of leaf_of
has-procedure r kind = rw kind (inl refl, inr (inl refl))

pub told-method : (r : List ℕ) (at : ℕ → List ℕ) → kind_of r ≡ 0x1009 → told r at ≡ codes "method " ++ at 16 ++ codes " of " ++ at 4 ++ codes " giving " ++ at 0
unfolding told
told-method r at kind = rw kind refl

pub has-method : (r : List ℕ) → kind_of r ≡ 0x1009 → Has 0 (places_of r) × Has 4 (places_of r) × Has 16 (places_of r)
unfolding places_of leaf_of
has-method r kind = rw kind (inl refl, inr (inl refl), inr (inr (inr (inl refl))))

pub told-bits : (r : List ℕ) (at : ℕ → List ℕ) → kind_of r ≡ 0x1205 → told r at ≡ at 0 ++ bit_words (body_of r)
unfolding told
told-bits r at kind = rw kind refl

pub has-bits : (r : List ℕ) → kind_of r ≡ 0x1205 → Has 0 (places_of r)
unfolding places_of leaf_of
has-bits r kind = rw kind (inl refl)

pub told-array : (r : List ℕ) (at : ℕ → List ℕ) → kind_of r ≡ 0x1503 → told r at ≡ codes "array of " ++ numeric_text (body_of r) 8 ++ codes " bytes of " ++ at 0
unfolding told
told-array r at kind = rw kind refl

pub has-array : (r : List ℕ) → kind_of r ≡ 0x1503 → Has 0 (places_of r)
unfolding places_of leaf_of
has-array r kind = rw kind (inl refl)

pub told-list : (r : List ℕ) (at : ℕ → List ℕ) → kind_of r ≡ 0x1201 → told r at ≡ codes "(" ++ strung [] (codes ", ") (map at (places_of r)) ++ codes ")"
unfolding told
told-list r at kind = rw kind refl

pub told-methods : (r : List ℕ) (at : ℕ → List ℕ) → kind_of r ≡ 0x1206 → told r at ≡ strung [] (codes " or ") (map at (places_of r))
unfolding told
told-methods r at kind = rw kind refl

pub told-member_pointer : (r : List ℕ) (at : ℕ → List ℕ) → kind_of r ≡ 0x1002 → points_to_member (number_in 4 (body_of r) 4) ≡ true → told r at ≡ pointer_words (body_of r) ++ at 8 ++ codes ", " ++ at 0
unfolding told
told-member_pointer r at kind mode = rw (kind, mode) refl

pub told-pointer : (r : List ℕ) (at : ℕ → List ℕ) → kind_of r ≡ 0x1002 → points_to_member (number_in 4 (body_of r) 4) ≡ false → told r at ≡ pointer_words (body_of r) ++ at 0
unfolding told
told-pointer r at kind mode = rw (kind, mode) refl

pub has-pointer : (r : List ℕ) → kind_of r ≡ 0x1002 → Has 0 (places_of r)
unfolding places_of leaf_of
has-pointer r kind = rw kind (inl refl)

pointer_places : (r : List ℕ) → kind_of r ≡ 0x1002 → places_of r ≡ 0 ∷ (part_places Containing (body_of r) 4 ++ places_from Containing (body_of r) 8 (part_end Containing (body_of r) 4))
unfolding places_of leaf_of rest_places
pointer_places r kind = rw kind (ap (λ (ps : List ℕ). 0 ∷ ps) (places_here Containing (body_of r) 8 4 (omega arith)))

-- a pointer to a member has its attributes
there : (body : List ℕ) → points_to_member (number_in 4 body 4) ≡ true → points_to_member (number_at 4 body 4) ≡ true
unfolding number_in
there body mode = elim (cases_Bool (nat_le 8 (length body))) [
  | inl fits ↦ rw fits at mode
  | inr none ↦ absurd (let no : points_to_member 0 ≡ true = rw none at mode in cc)
]

second_place : (body : List ℕ) → points_to_member (number_at 4 body 4) ≡ true → part_places Containing body 4 ≡ 8 ∷ []
unfolding part_places
second_place body mode = rw mode refl

pub has-member : (r : List ℕ) → kind_of r ≡ 0x1002 → points_to_member (number_in 4 (body_of r) 4) ≡ true → Has 0 (places_of r) × Has 8 (places_of r)
has-member r kind mode = rw (pointer_places r kind, second_place (body_of r) (there (body_of r) mode)) (inl refl, inr (inl refl))

-- any other record has plain words
pub told-plain : (r : List ℕ) (at : ℕ → List ℕ) → (kind_of r ≡ 0x1001 → ⊥) → (kind_of r ≡ 0x1002 → ⊥) → (kind_of r ≡ 0x1008 → ⊥) → (kind_of r ≡ 0x1009 → ⊥) → (kind_of r ≡ 0x1201 → ⊥) → (kind_of r ≡ 0x1206 → ⊥)
    → (kind_of r ≡ 0x1205 → ⊥) → (kind_of r ≡ 0x1503 → ⊥) → told r at ≡ plain_words r
unfolding told
told-plain r at a b c d e f g h =
    rw (
      ne_eqb (kind_of r) 0x1001 a,
      ne_eqb (kind_of r) 0x1002 b,
      ne_eqb (kind_of r) 0x1008 c,
      ne_eqb (kind_of r) 0x1009 d,
      ne_eqb (kind_of r) 0x1201 e,
      ne_eqb (kind_of r) 0x1206 f,
      ne_eqb (kind_of r) 0x1205 g,
      ne_eqb (kind_of r) 0x1503 h,
    ) refl

-- the plain words by kind
pub plain-shape : (r : List ℕ) → kind_of r ≡ 0x000A → plain_words r ≡ codes "virtual table of " ++ decimal (number_in 2 (body_of r) 0)
unfolding plain_words
plain-shape r kind = rw kind refl

pub plain-label : (r : List ℕ) → kind_of r ≡ 0x000E → plain_words r ≡ codes "label"
unfolding plain_words
plain-label r kind = rw kind refl

pub plain-table : (r : List ℕ) → kind_of r ≡ 0x151D → plain_words r ≡ codes "virtual table"
unfolding plain_words
plain-table r kind = rw kind refl
