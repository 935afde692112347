-- The lines of types, one after the other, and the first record whose leaf is at fault.
use Rattle.std.proofs.Common.{◌≡◌, ℕ, ◌+◌, List, [], ◌∷◌, ◌++◌, length, refl, sym, ap, ◌∙◌, arith, append_assoc}
use Rattle.std.proofs.lemmas.List.{append-nil, length-append}
use Rattle.std.specs.List.{AllByRecursion}
use Rattle.cv_leaves.specs.Place.{HasPlaces, IsChecked}
use Rattle.show_commands.specs.Types.{AreTypeLines}
use Rattle.output_lines.specs.Types.{type_line}
use Rattle.tpi_records.specs.Header.{first_index}

-- ---- lines

-- with the lines of these records after it, the text is the lines of all
abbrev pub Begins : List (List ℕ) → List ℕ → ℕ → List (List ℕ) → Type 0
Begins all text index left = (back : List ℕ) → AreTypeLines index left back → AreTypeLines first_index all (text ++ back)

-- one line more
pub types_more : (all : List (List ℕ)) (text new : List ℕ) (index : ℕ) (bytes : List ℕ) (left others : List (List ℕ)) → Begins all text index left → left ≡ bytes ∷ others
    → (at : List ℕ) × HasPlaces bytes at × (new ≡ text ++ type_line index bytes at) → Begins all new (index + 1) others
types_more all text new index bytes left others so_far split (at, has, added) back lines =
    rw (added, append_assoc text (type_line index bytes at) back) (so_far (type_line index bytes at ++ back) (rw split (at, back, has, lines, refl)))

-- where no records are left, the text is complete
pub types_whole : (all : List (List ℕ)) (text : List ℕ) (index : ℕ) (left : List (List ℕ)) → Begins all text index left → left ≡ [] → AreTypeLines first_index all text
types_whole all text index left so_far none = rw (append-nil text) at (so_far [] (rw none refl))

-- ---- records that were checked

-- these records were checked, and the next one has this type index
abbrev pub Checked : List (List ℕ) → List (List ℕ) → ℕ → Type 0
Checked all left index = (before : List (List ℕ)) × (all ≡ before ++ left) × AllByRecursion IsChecked before × (index ≡ first_index + length before)

-- what holds of each of these records and of one more holds of each of them together
each_and : (before : List (List ℕ)) (bytes : List ℕ) → AllByRecursion IsChecked before → IsChecked bytes → AllByRecursion IsChecked (before ++ bytes ∷ [])
each_and [] bytes each one = (one, tt)
each_and (first ∷ others) bytes each one = (each.0, each_and others bytes each.1 one)

-- one record more
pub checked_more : (all : List (List ℕ)) (index : ℕ) (bytes : List ℕ) (left others : List (List ℕ)) → Checked all left index → left ≡ bytes ∷ others → IsChecked bytes → Checked all others (index + 1)
checked_more all index bytes left others (before, parts, each, count) split one = (
  before ++ bytes ∷ [],
  parts ∙ ap (λ x. before ++ x) split ∙ sym (append_assoc before (bytes ∷ []) others),
  each_and before bytes each one,
  omega (arith, count, length-append before (bytes ∷ [])),
)
