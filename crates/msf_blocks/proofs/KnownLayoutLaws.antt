-- The layout, and the fault, of what reads gave of a file that is known are those of the file.
use Rattle.std.proofs.Common.{◌≡◌, ℕ, ◌+◌, ◌*◌, ◌/◌, ◌%◌, ◌<◌, ◌≤◌, Bool, true, false, List, [], ◌∷◌, Option, Some, None, length, take, get_or, refl, sym, ap, ◌∙◌, arith, inl, inr}
use Rattle.std.specs.Prelude.{nat_eq, Result, Ok, Err, IfOk, IfErr}
use Rattle.std.specs.List.{starts_with}
use Rattle.std.proofs.lemmas.Bool.{cases_lt}
use Rattle.std.proofs.lemmas.Bool.Decides.{nat_tests}
use Rattle.std.proofs.lemmas.List.{length-take}
use Rattle.std.proofs.lemmas.List.FromFn.{get_or-map-range_with_len, length-map-range_with_len}
use Rattle.std.proofs.lemmas.Nat.{mod_below, mul-le}
use Rattle.byte_fields.specs.Check.{Check, Refuses, first_failing}
use Rattle.byte_io.specs.At.{AreGiven, Bytes, IfKnown, IfOf, StandsAt, stable}
use Rattle.byte_io.specs.declared.at.AtFault.{AtFault}
use Rattle.byte_io.specs.declared.at.AtFault.TheVariants as at
use Rattle.msf_blocks.specs.Directory.{AreMapNumbers, HasContents, IsBlockMap, IsReadable, directory_block_checks, directory_blocks, directory_contents, map_number, map_start, number_checks}
use Rattle.msf_blocks.proofs.DirectoryLaws.{map_numbers}
use Rattle.msf_blocks.specs.Layout.{LayoutView, HasLayout, HasTexts, TextsRefuse, layout_checks}
use Rattle.msf_superblock.specs.Superblock.{Fields, FrontRefuses, HasFront, HoldsBlocks, IsFit, IsSuperblock, fields_of, front_checks, magic}
use Rattle.msf_superblock.specs.declared.fault.MsfFault.{MsfFault}
use Rattle.msf_superblock.specs.declared.fault.MsfFault.TheVariants.{Memory, Short}
use Rattle.msf_superblock.proofs.FrontLaws.{byte_read, checks_read, fields_read, front_stands, short_file, superblock_read}
use Rattle.msf_blocks.proofs.AtLaws.{number_checks_are}
use Rattle.msf_blocks.proofs.DirectoryLaws.{contents_length, map_is_ordinary}
use Rattle.msf_superblock.proofs.FrontLaws.{fields_are, superblock_holds}
use Rattle.msf_blocks.proofs.FoundLaws.{blocks_hold}
use Rattle.msf_blocks.proofs.GivenLaws.{directory_refuses, map_given_refuses, number_given}
use Rattle.msf_blocks.proofs.KnownLaws.{block_map_known, contents_known, directory_fault_known, given_stands, gives_own, map_inside}
use Rattle.msf_blocks.proofs.LayoutLaws.{after_blocks, block_fault, contents_fault, superblock_fault}
use Rattle.msf_superblock.proofs.SizeLaws.{place_below, size_decides, size_facts, some_bytes}
use Rattle.msf_superblock.proofs.SuperblockLaws.{magic_from_starts_with}

-- each of these checks holds
abbrev AllHold : {F : Type 0} → List (Check F) → Type 0
AllHold [] = Unit {0}
AllHold (check ∷ checks) = (check.holds ≡ true) × AllHold checks

held : {F : Type 0} (b : Bool) (f : F) (rest : List (Check F)) → first_failing (record { holds = b; fault = f } ∷ rest) ≡ None → (b ≡ true) × (first_failing rest ≡ None)
held true f rest e = (refl, e)
held false f rest e = absurd cc

all_hold : {F : Type 0} (checks : List (Check F)) → first_failing checks ≡ None → AllHold checks
all_hold [] sound = tt
all_hold (check ∷ checks) sound = let first = held check.holds check.fault checks sound in (first.0, all_hold checks first.1)

-- what the checks of a front say of its fields
record FrontFacts (front : List ℕ) (told : ℕ) (fields : Fields) : Type 0 where
  magical : starts_with nat_eq front magic ≡ true
  whole : fields.num_blocks * fields.block_size ≤ told
  fit : IsFit fields

front_facts : (front : List ℕ) (told : ℕ) → first_failing (front_checks front told) ≡ None → FrontFacts front told (fields_of front)
unfolding front_checks
front_facts front told sound =
    let fields = fields_of front in
    let all = all_hold (front_checks front told) sound in
    record {
      magical = all.0;
      whole = grind (arith, nat_tests, all.1.1.1.0);
      fit = record {
        block_size_fits = (size_decides fields.block_size).0 all.1.0;
        free_map_block_fits = grind (arith, nat_tests, all.1.1.0);
        directory_multiple = grind (arith, nat_tests, all.1.1.1.1.0);
        directory_fits = grind (arith, nat_tests, all.1.1.1.1.0);
        block_map_fits = (grind (arith, nat_tests, all.1.1.1.1.1.0), grind (arith, nat_tests, all.1.1.1.1.1.0));
      };
    }

-- a front that reads gave is that of the file
record IsFrontOf (file : List ℕ) (fields : Fields) : Type 0 where
  superblock : IsSuperblock file fields
  fields_are : fields ≡ fields_of file

front_known : (file : List ℕ) (fields : Fields) → HasFront (stable file) fields → IsFrontOf file fields
front_known file fields (front, given, is) =
    let facts : FrontFacts front (length file) fields = rw is.fields_are (front_facts front (length file) is.sound) in
    let some = mul-le 1 512 fields.num_blocks fields.block_size (omega (arith, facts.fit.block_map_fits.1)) (size_facts fields.block_size facts.fit.block_size_fits).least in
    let long : 56 ≤ length file = omega (arith, some, facts.whole) in
    let stands = given_stands file 0 front (omega (arith, long, is.count)) given in
    record {
      superblock = superblock_read file front fields (length file) stands is.count refl (magic_from_starts_with front facts.magical) is.fields_are facts.whole facts.fit;
      fields_are = is.fields_are ∙ fields_read file front stands is.count;
    }

-- the layout of what reads gave is that of the file
pub layout_known : (file : List ℕ) (layout : LayoutView) → HasTexts (stable file) layout → HasLayout file layout
layout_known file layout has =
    let fields = layout.superblock in
    let front = front_known file fields has.front in
    let whole = front.superblock.whole in
    let fit = front.superblock.fit in
    let readable = block_map_known file fields whole fit (has.directory.numbers, has.directory.block_map) in
    record {
      superblock = front.superblock;
      contents = has.contents;
      directory = record { ordinary = λ k lt. map_is_ordinary file fields k readable lt; contents_is = contents_known file fields has.contents whole fit has.directory };
      lists = has.lists;
    }

front_fault_known : (file : List ℕ) (fault : MsfFault) → FrontRefuses (stable file) fault → first_failing (layout_checks file) ≡ Some fault
front_fault_known file fault refuses = elim refuses [
  | inl (short, is) ↦ rw is (superblock_fault file Short (short_file file short))
  | inr bad ↦
      let stands = given_stands file 0 bad.front (omega (arith, bad.long, bad.count)) bad.given in
      superblock_fault file fault (checks_read file bad.front stands bad.count ∙ bad.refused)
]

-- the fault of what reads gave is the first of the file
pub fault_known : (file : List ℕ) (fault : MsfFault) → TextsRefuse (stable file) fault → Refuses Memory (first_failing (layout_checks file)) fault
fault_known file fault refuses = elim refuses [
  | inl front ↦ inl (front_fault_known file fault front)
  | inr (fields, has, directory) ↦
      let front = front_known file fields has in
      contents_fault file fields fault front.fields_are (superblock_holds file fields front.superblock) (directory_fault_known file fields fault front.superblock.whole front.superblock.fit directory)
]

-- ---- the other way

-- a file gives the bytes that stand in it
gives_standing : (file : List ℕ) (offset : ℕ) (text : List ℕ) → StandsAt file offset text → AreGiven (stable file) offset text
gives_standing file offset text stands = λ i lt.
    rw (byte_read file text offset i stands lt) (gives_own file (offset + i) (omega (arith, lt, stands.inside)))

-- the front of a file is given
front_given : (file : List ℕ) (fields : Fields) → IsSuperblock file fields → HasFront (stable file) fields
front_given file fields superblock =
    let front = take 56 file in
    let stands = front_stands file front superblock.long refl in
    let count : length front ≡ 56 = omega (arith, superblock.long, length-take 56 file) in (
      front,
      gives_standing file 0 front stands,
      record {
        count = count;
        fields_are = fields_are file fields superblock ∙ sym (fields_read file front stands count);
        sound = sym (checks_read file front stands count) ∙ superblock_holds file fields superblock;
      },
    )

-- so are the numbers of its block map
map_numbers_given : (file : List ℕ) (fields : Fields) → HoldsBlocks file fields → IsFit fields → AreMapNumbers (stable file) fields (map_numbers file fields)
unfolding map_number
map_numbers_given file fields whole fit = λ k lt.
    let count = length-map-range_with_len (map_number file fields) 0 (directory_blocks fields) in
    let below : k < directory_blocks fields = omega (arith, lt, count) in
    let at : get_or (map_numbers file fields) k 0 ≡ map_number file fields k = get_or-map-range_with_len (map_number file fields) 0 (directory_blocks fields) k k 0 below (omega arith) in
    let own : AreGiven (stable file) 0 file = λ i inside. let here : 0 + i ≡ i = omega arith in rw here (gives_own file i inside) in
    let here : 0 + (map_start fields + 4 * k) ≡ map_start fields + 4 * k = omega arith in
    rw at (rw here at (number_given (stable file) 0 (map_start fields + 4 * k) file own (map_inside file fields k whole fit below)))

map_given_known : (file : List ℕ) (fields : Fields) → IsReadable file fields → IsFit fields → IsBlockMap (stable file) fields (map_numbers file fields)
map_given_known file fields readable fit = record {
  count = length-map-range_with_len (map_number file fields) 0 (directory_blocks fields);
  given = map_numbers_given file fields readable.whole fit;
  sound = ap first_failing (number_checks_are file (map_numbers file fields) fields refl) ∙ readable.blocks;
}

-- and so are the contents of its directory
contents_given : (file : List ℕ) (fields : Fields) → IsReadable file fields → IsFit fields → HasContents (stable file) fields (directory_contents file fields)
unfolding directory_contents
contents_given file fields readable fit = record {
  numbers = map_numbers file fields;
  block_map = map_given_known file fields readable fit;
  given = λ i lt.
      let b = fields.block_size in
      let some = some_bytes b fit.block_size_fits in
      let inside : i < fields.directory_bytes = omega (arith, lt, contents_length file fields) in
      let below = place_below b fields.directory_bytes i some inside in
      let number = map_number file fields (i / b) in
      let at : get_or (map_numbers file fields) (i / b) 0 ≡ number = get_or-map-range_with_len (map_number file fields) 0 (directory_blocks fields) (i / b) (i / b) 0 below (omega arith) in
      let rows : (number + 1) * b ≤ fields.num_blocks * b = mul-le _ _ _ _ (omega (arith, (map_is_ordinary file fields (i / b) readable below).1)) (omega arith) in
      let byte : get_or (directory_contents file fields) i 0 ≡ get_or file (number * b + i % b) 0 = get_or-map-range_with_len _ 0 fields.directory_bytes i i 0 inside (omega arith) in
      rw (at, byte) (gives_own file (number * b + i % b) (omega (arith, rows, readable.whole, mod_below i b some)));
  count = contents_length file fields;
}

-- reads of a file with a layout give this layout
pub layout_given : (file : List ℕ) (layout : LayoutView) → HasLayout file layout → HasTexts (stable file) layout
layout_given file layout has =
    let fields = layout.superblock in
    let readable : IsReadable file fields = record { whole = has.superblock.whole; blocks = blocks_hold file fields has.contents has.directory } in
    record {
      front = front_given file fields has.superblock;
      contents = has.contents;
      directory = rw has.directory.contents_is (contents_given file fields readable has.superblock.fit);
      lists = has.lists;
    }

-- ---- the first fault of a file is given

-- what refuses a file whose first fault is this one
same_fault : (first : Option MsfFault) (f fault : MsfFault) → first ≡ Some f → Refuses Memory first fault → fault ≡ f
same_fault first f fault is refuses = elim refuses [
  | inl other ↦ let both : Some fault ≡ Some f = sym other ∙ is in cc
  | inr none ↦ let never : Some f ≡ None = sym is ∙ none.1 in absurd cc
]

-- the front of a file that is long enough
record IsRead (file front : List ℕ) : Type 0 where
  stands : StandsAt file 0 front
  count : length front ≡ 56
  given : AreGiven (stable file) 0 front

contents_fault_given : (file : List ℕ) (fields : Fields) (fault : MsfFault) (found : Option MsfFault) → IsFrontOf file fields → HasFront (stable file) fields → first_failing (directory_block_checks file fields) ≡ found
    → Refuses Memory (first_failing (layout_checks file)) fault → TextsRefuse (stable file) fault
contents_fault_given file fields fault (Some f) is front blocks refuses =
    let sound = superblock_holds file fields is.superblock in
    let same = same_fault _ f fault (block_fault file fields f is.fields_are sound blocks) refuses in
    let all = map_numbers file fields in
    let first : first_failing (number_checks all fields) ≡ Some fault = ap first_failing (number_checks_are file all fields refl) ∙ blocks ∙ ap (λ (f : MsfFault). Some f) (sym same) in
    inr (
      fields,
      front,
      inl (map_given_refuses (stable file) fields all fault (map_numbers_given file fields is.superblock.whole is.superblock.fit) (length-map-range_with_len (map_number file fields) 0 (directory_blocks fields)) first),
    )
contents_fault_given file fields fault None is front blocks refuses =
    let sound = superblock_holds file fields is.superblock in
    let fit = is.superblock.fit in
    let contents = directory_contents file fields in
    let readable : IsReadable file fields = record { whole = is.superblock.whole; blocks = blocks } in
    let after = after_blocks file fields is.fields_are sound blocks in
    inr (fields, front, directory_refuses (stable file) fields contents fault fit.block_size_fits (contents_given file fields readable fit) (rw after at refuses))

front_fault_given : (file front : List ℕ) (fault : MsfFault) (found : Option MsfFault) → 56 ≤ length file → IsRead file front → first_failing (front_checks front (length file)) ≡ found
    → Refuses Memory (first_failing (layout_checks file)) fault → TextsRefuse (stable file) fault
front_fault_given file front fault (Some f) long read first refuses =
    let same = same_fault _ f fault (superblock_fault file f (checks_read file front read.stands read.count ∙ first)) refuses in
    inl (inr (record { long = long; front = front; given = read.given; count = read.count; refused = first ∙ ap (λ (f : MsfFault). Some f) (sym same) }))
front_fault_given file front fault None long read first refuses =
    let fields = fields_of front in
    let has : HasFront (stable file) fields = (front, read.given, record { count = read.count; fields_are = refl; sound = first }) in
    contents_fault_given file fields fault (first_failing (directory_block_checks file fields)) (front_known file fields has) has refl refuses

-- the first fault of a file is one of what reads give
pub fault_given : (file : List ℕ) (fault : MsfFault) → Refuses Memory (first_failing (layout_checks file)) fault → TextsRefuse (stable file) fault
fault_given file fault refuses = elim (cases_lt (length file) 56) [
  | inl short ↦ inl (inl (short, same_fault _ Short fault (superblock_fault file Short (short_file file short)) refuses))
  | inr long ↦
      let front = take 56 file in
      let stands = front_stands file front long refl in
      let read : IsRead file front = record { stands = stands; count = omega (arith, long, length-take 56 file); given = gives_standing file 0 front stands } in
      front_fault_given file front fault (first_failing (front_checks front (length file))) long read refl refuses
]

-- ---- of results

-- the layout of a result
pub result_known : (bytes : Bytes) (result : Result LayoutView (AtFault MsfFault)) → IfOk result (HasTexts bytes) → IfOk result (λ layout. IfKnown bytes (λ file. HasLayout file layout))
result_known bytes (Ok layout) has = λ file known. layout_known file layout (rw known at has)
result_known bytes (Err fault) has = tt

-- its fault
pub result_fault_known : {T : Type 0} (bytes : Bytes) (result : Result T (AtFault MsfFault)) → IfErr result (IfOf (TextsRefuse bytes)) → IfErr result (IfOf (λ fault. IfKnown bytes (λ file. Refuses Memory (first_failing (layout_checks file)) fault)))
result_fault_known bytes (Ok value) refused = tt
result_fault_known bytes (Err at.Read) refused = tt
result_fault_known bytes (Err (at.Of fault)) refused = λ file known. fault_known file fault (rw known at refused)
