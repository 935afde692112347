-- A written info stream reads back.
use Rattle.std.proofs.Common.{◌≡◌, ℕ, ◌*◌, ◌<◌, ◌^◌, List, [], ◌∷◌, ◌++◌, length, drop, get_or, refl, sym, ap, ◌∙◌, arith, append_assoc, inl}
use Rattle.std.specs.Prelude.{All}
use Rattle.std.proofs.lemmas.List.{append-nil, length-append, drop_at, take_at}
use Rattle.std.proofs.lemmas.List.Elements.{All-nil, All-cons}
use Rattle.byte_fields.specs.Number.{number_at, nth_u32, u32s}
use Rattle.byte_fields.proofs.NumberLaws.{nth_u32-u32s, length-u32s}
use Rattle.pdb_info.specs.Guid.{stored_guid}
use Rattle.pdb_info.specs.Header.{HasInfoHeader}
use Rattle.pdb_info.specs.Names.{HasNames, HasName, present_buckets}
use Rattle.pdb_info.specs.Info.{HasInfo}
use Rattle.pdb_info.specs.Written.{info_contents, info_view}

-- the numbers before the GUID, and the numbers after it
front : ℕ → List ℕ
front age = 20000404 ∷ 0 ∷ age ∷ []

back : List ℕ
back = 0 ∷ 0 ∷ 8 ∷ 0 ∷ 0 ∷ 0 ∷ []

number_back : (age : ℕ) (rest : List ℕ) (k : ℕ) → k < 3 → get_or (front age) k 0 < 2 ^ 32 → number_at 4 (u32s (front age) ++ rest) (4 * k) ≡ get_or (front age) k 0
unfolding front nth_u32
number_back age rest k lt small = nth_u32-u32s (front age) rest k lt small

length-front : (age : ℕ) → length (u32s (front age)) ≡ 12
unfolding front
length-front age = length-u32s (front age)

header_back : (age : ℕ) (guid : List ℕ) → length (stored_guid guid) ≡ 16 → stored_guid (stored_guid guid) ≡ guid → age < 2 ^ 32 → HasInfoHeader (u32s (front age) ++ (stored_guid guid ++ u32s back)) ((info_view age guid).header)
unfolding front back
header_back age guid long undone short =
    let stored = stored_guid guid in
    let rest = stored ++ u32s back in
    record {
      long = omega (arith, length-append (u32s (front age)) rest, length-front age, length-append stored (u32s back), long);
      version_is = number_back age rest 0 (omega arith) (omega arith);
      signature_is = number_back age rest 1 (omega arith) (omega arith);
      age_is = number_back age rest 2 (omega arith) short;
      guid_is = rw (drop_at (u32s (front age)) rest 12 (length-front age), take_at stored (u32s back) 16 long) undone;
    }

number_small : (n : ℕ) (numbers : List ℕ) → n < 2 ^ 32 → All (λ number. number < 2 ^ 32) numbers → All (λ number. number < 2 ^ 32) (n ∷ numbers)
number_small n numbers small others = All-cons (λ number. number < 2 ^ 32) n numbers small others

names_back : (age : ℕ) (stored : List ℕ) → length stored ≡ 16 → HasNames (u32s (front age) ++ (stored ++ u32s back)) [] []
unfolding back present_buckets
names_back age stored long =
    let behind : drop 28 (u32s (front age) ++ (stored ++ u32s back)) ≡ u32s back =
    ap (drop 28) (sym (append_assoc (u32s (front age)) stored (u32s back)))
    ∙ drop_at (u32s (front age) ++ stored) (u32s back) 28 (omega (arith, length-append (u32s (front age)) stored, length-front age, long)) in
    record {
      buffer = [];
      size = 0;
      capacity = 8;
      present = [];
      deleted = [];
      pairs = [];
      closing = 0 ∷ [];
      rest = [];
      parts = behind ∙ simp append-nil;
      short = omega arith;
      small = number_small 0 (8 ∷ 0 ∷ 0 ∷ 0 ∷ []) (omega arith) (number_small 8 (0 ∷ 0 ∷ 0 ∷ []) (omega arith) (number_small 0 (0 ∷ 0 ∷ []) (omega arith)
          (number_small 0 (0 ∷ []) (omega arith) (number_small 0 [] (omega arith) (All-nil (λ number. number < 2 ^ 32))))));
      few = omega arith;
      counted = refl;
      paired = refl;
      closed = inl refl;
      each = All-nil (HasName []);
      named = refl;
    }

-- the written stream has the values that were written
pub has_info : (age : ℕ) (guid : List ℕ) → length (stored_guid guid) ≡ 16 → stored_guid (stored_guid guid) ≡ guid → age < 2 ^ 32 → HasInfo (info_contents age guid) (info_view age guid)
unfolding info_contents front back
has_info age guid long undone short = record { header = header_back age guid long undone short; names = names_back age (stored_guid guid) long }

-- the stream that is made field by field is the written stream
pub info_is : (age found : ℕ) (guid given stored bytes : List ℕ) → bytes ≡ u32s (20000404 ∷ 0 ∷ found ∷ []) ++ (stored ++ u32s (0 ∷ 0 ∷ 8 ∷ 0 ∷ 0 ∷ 0 ∷ [])) → stored ≡ stored_guid given → given ≡ guid → found ≡ age
    → bytes ≡ info_contents age guid
unfolding info_contents
info_is age found guid given stored bytes e is same years = e ∙ rw (is, same, years) refl

-- the stream that is made field by field has the values that were written
pub info_back : (age found : ℕ) (guid given stored bytes : List ℕ) → bytes ≡ u32s (20000404 ∷ 0 ∷ found ∷ []) ++ (stored ++ u32s (0 ∷ 0 ∷ 8 ∷ 0 ∷ 0 ∷ 0 ∷ [])) → stored ≡ stored_guid given → given ≡ guid → found ≡ age
    → length stored ≡ 16 → stored_guid stored ≡ given → found < 2 ^ 32 → HasInfo bytes (info_view age guid)
info_back age found guid given stored bytes e is same years long undone short =
    let spelled : stored ≡ stored_guid guid = is ∙ ap stored_guid same in
    rw (info_is age found guid given stored bytes e is same years) (has_info age guid (rw (← spelled) long) (rw (← spelled) (undone ∙ same)) (omega (arith, years, short)))
