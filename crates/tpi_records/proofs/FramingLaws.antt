-- Records, one after the other.
use Rattle.std.proofs.Common.{◌≡◌, ℕ, ◌+◌, ◌%◌, ◌<◌, ◌≤◌, List, [], ◌∷◌, ◌++◌, length, take, drop, refl, sym, ap, ◌∙◌, arith, append_assoc, inl, inr}
use Rattle.std.specs.List.{concat, AllByRecursion}
use Rattle.std.proofs.lemmas.List.{append-nil, drop-drop, take-append-drop, take_at, drop_at, length-append, length-take, length-drop}
use Rattle.std.proofs.lemmas.List.Folds.{concat-append}
use Rattle.byte_fields.specs.Number.{number_at}
use Rattle.byte_fields.proofs.NumberLaws.{number_at-take, number_at-append}
use Rattle.tpi_records.specs.Records.{IsRecord, BeginsWith, IsFlaw, HasFlaw, Begins}
use Rattle.tpi_records.specs.declared.fault.TpiFault.{TpiFault}
use Rattle.tpi_records.specs.declared.fault.TpiFault.TheVariants.{Short, Version, HeaderSize, Begin, End, Bytes, RecordShort, RecordLen, RecordCount, Memory}
use Rattle.tpi_records.specs.Header.{first_index}

-- ---- the records so far, and the bytes after them

AllByRecursion-push : {X : Type 0} (P : X → Type 0) (xs : List X) (y : X) → AllByRecursion P xs → P y → AllByRecursion P (xs ++ y ∷ [])
AllByRecursion-push P [] y each this = (this, tt)
AllByRecursion-push P (x ∷ xs) y each this = (each.0, AllByRecursion-push P xs y each.1 this)

-- bytes whose length is the one in their length field are a record
pub is_record : (bytes : List ℕ) (start whole : ℕ) → whole ≡ number_at 2 bytes start + 2 → 4 ≤ whole → whole ≤ 65536 → whole % 4 ≡ 0 → start + whole ≤ length bytes → IsRecord (take whole (drop start bytes))
is_record bytes start whole field long short padded inside =
    let all : length (take whole (drop start bytes)) ≡ whole = omega (arith, length-take whole (drop start bytes), length-drop start bytes) in
    record {
      long = omega (arith, all);
      short = omega (arith, all, short);
      padded = rw all padded;
      len = omega (arith, all, number_at-take 2 bytes start whole (omega arith));
    }

-- one more record: the records so far, and the one at the front of what is left
pub begins_next : (bytes : List ℕ) (records : List (List ℕ)) (left r rest : List ℕ) → Begins bytes records left → left ≡ r ++ rest → IsRecord r → Begins bytes (records ++ r ∷ []) rest
begins_next bytes records left r rest so_far split this =
    let ends : concat (r ∷ []) ≡ r = append-nil r in
    record {
      parts = so_far.parts ∙ ap (λ (s : List ℕ). concat records ++ s) split ∙ sym (append_assoc (concat records) r rest)
          ∙ rw (concat-append records (r ∷ []), ends) refl;
      each = AllByRecursion-push IsRecord records r so_far.each this;
    }

-- so where what is left begins at an offset
pub Begins-more : (bytes : List ℕ) (records : List (List ℕ)) (start whole : ℕ) → Begins bytes records (drop start bytes) → IsRecord (take whole (drop start bytes))
    → Begins bytes (records ++ take whole (drop start bytes) ∷ []) (drop (start + whole) bytes)
Begins-more bytes records start whole so_far this =
    let next = take whole (drop start bytes) in
    let left : drop whole (drop start bytes) ≡ drop (start + whole) bytes = drop-drop whole start bytes in
    let split : next ++ drop whole (drop start bytes) ≡ drop start bytes = take-append-drop whole (drop start bytes) in
    rw left at (begins_next bytes records (drop start bytes) next (drop whole (drop start bytes)) so_far (sym split) this)

-- ---- bytes are at most one list of records

same_front : (r s x y : List ℕ) → IsRecord r → IsRecord s → r ++ x ≡ s ++ y → (r ≡ s) × (x ≡ y)
same_front r s x y is_r is_s e =
    let first : number_at 2 (r ++ x) 0 ≡ number_at 2 (s ++ y) 0 = ap (λ (t : List ℕ). number_at 2 t 0) e in
    let long : length s ≡ length r =
    omega (arith, first, number_at-append 2 r x (omega (arith, is_r.long)), number_at-append 2 s y (omega (arith, is_s.long)), is_r.len, is_s.len) in (
      sym (take_at r x (length r) refl) ∙ ap (take (length r)) e ∙ take_at s y (length r) long,
      sym (drop_at r x (length r) refl) ∙ ap (drop (length r)) e ∙ drop_at s y (length r) long,
    )

pub one_framing : (rs ss : List (List ℕ)) → AllByRecursion IsRecord rs → AllByRecursion IsRecord ss → concat rs ≡ concat ss → rs ≡ ss
one_framing [] [] each_r each_s e = refl
one_framing [] (s ∷ ss) each_r each_s e = absurd (omega (arith, ap length e, length-append s (concat ss), each_s.0.long))
one_framing (r ∷ rs) [] each_r each_s e = absurd (omega (arith, ap length e, length-append r (concat rs), each_r.0.long))
one_framing (r ∷ rs) (s ∷ ss) each_r each_s e =
    let same = same_front r s (concat rs) (concat ss) each_r.0 each_s.0 e in
    rw (same.0, one_framing rs ss each_r.1 each_s.1 same.1) refl

-- a record at the front of some bytes has no fault
no_flaw : (r rest : List ℕ) (index : ℕ) (fault : TpiFault) → IsRecord r → IsFlaw (r ++ rest) index fault → ⊥
no_flaw r rest index (RecordShort at) is (same, inl short) = omega (arith, length-append r rest, is.long)
no_flaw r rest index (RecordShort at) is (same, inr (len, short)) = omega (arith, length-append r rest, number_at-append 2 r rest (omega (arith, is.long)), is.len, short)
no_flaw r rest index (RecordLen at len) is (same, long, field, bad) =
    let whole : len + 2 ≡ length r = omega (arith, field, number_at-append 2 r rest (omega (arith, is.long)), is.len) in
    bad (omega (arith, whole, is.long), rw whole is.padded)
no_flaw r rest index Short is flaw = flaw
no_flaw r rest index (Version _) is flaw = flaw
no_flaw r rest index (HeaderSize _) is flaw = flaw
no_flaw r rest index (Begin _) is flaw = flaw
no_flaw r rest index (End _) is flaw = flaw
no_flaw r rest index (Bytes _ _) is flaw = flaw
no_flaw r rest index (RecordCount _ _) is flaw = flaw
no_flaw r rest index Memory is flaw = flaw

pub front_unflawed : (bytes r : List ℕ) (index : ℕ) (fault : TpiFault) → BeginsWith bytes r → IsFlaw bytes index fault → ⊥
front_unflawed bytes r index fault begins flaw = no_flaw r begins.rest index fault begins.is_record (rw begins.parts at flaw)

-- bytes that are records do not also begin with other records and a fault after them
unflawed : (records front : List (List ℕ)) (rest : List ℕ) (index : ℕ) (fault : TpiFault) → AllByRecursion IsRecord records → AllByRecursion IsRecord front
    → concat records ≡ concat front ++ rest → 0 < length rest → IsFlaw rest index fault → ⊥
unflawed [] [] rest index fault each_r each_f e some flaw = omega (arith, ap length e)
unflawed [] (f ∷ fs) rest index fault each_r each_f e some flaw =
    omega (arith, ap length e, length-append (f ++ concat fs) rest, length-append f (concat fs), each_f.0.long)
unflawed (r ∷ rs) [] rest index fault each_r each_f e some flaw = no_flaw r (concat rs) index fault each_r.0 (rw (← e) at flaw)
unflawed (r ∷ rs) (f ∷ fs) rest index fault each_r each_f e some flaw =
    let same = same_front r f (concat rs) (concat fs ++ rest) each_r.0 each_f.0 (e ∙ append_assoc f (concat fs) rest) in
    unflawed rs fs rest index fault each_r.1 each_f.1 same.1 some flaw

pub framed_unflawed : (bytes : List ℕ) (records : List (List ℕ)) (fault : TpiFault) → AllByRecursion IsRecord records → bytes ≡ concat records → HasFlaw bytes fault → ⊥
framed_unflawed bytes records fault each parts (front, rest, begins, some, flaw) =
    unflawed records front rest (first_index + length front) fault each begins.each (sym parts ∙ begins.parts) some flaw
