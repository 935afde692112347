-- A text of which nothing is kept yet, and how many bytes are taken of one.
use Rattle.std.proofs.Common.{◌≡◌, ◌∙◌, ◌+◌, ◌<◌, ℕ, zero, suc, List, [], ◌∷◌, ◌++◌, ap, get_or, length, length-append, refl, arith, replicate, inl, inr}
use Rattle.std.proofs.lemmas.List.{get_or_append_left}
use Rattle.std.proofs.Math.Seq.{get_or-append_seam}
use Rattle.std.proofs.lemmas.Bool.{cases_lt}
use Rattle.pdbmerge_c.specs.Fault.{AreFirst, HasTaken, IsCounted, TextView, no_number}

all_nuls : (n i : ℕ) → get_or (replicate {A = ℕ} n 0) i 0 ≡ 0
all_nuls zero i = refl
all_nuls (suc n) zero = refl
all_nuls (suc n) (suc i) = all_nuls n i

-- 236 NULs are the text of no bytes
pub none_kept : AreFirst (replicate 236 0) 0
none_kept = record { front = λ i below small. absurd (omega (arith, below)); back = λ i past. all_nuls 236 i; last = refl }

past_more : (old more mid : ℕ) → IsCounted old more mid → no_number < old + (more + 1) → no_number < mid + 1
past_more old zero mid before past = let is = before.none refl in omega (arith, is, past)
past_more old (suc k) mid before past = elim (cases_lt no_number (old + suc k)) [
  | inl less ↦ let is = before.full (omega arith) less in omega (arith, is)
  | inr le ↦ let is = before.fits le in omega (arith, is, past)
]

-- one more byte
pub counted_more : (old more mid new : ℕ) → IsCounted old more mid → IsCounted mid 1 new → IsCounted old (more + 1) new
counted_more old more mid new before last = record {
  none = λ is. absurd (omega (arith, is));
  fits = λ less.
      let was = before.fits (omega (arith, less)) in
      let is = last.fits (omega (arith, was, less)) in
      omega (arith, was, is);
  full = λ some past. last.full (omega arith) (past_more old more mid before past);
}

-- where the bytes so far fit, the next one stands behind them
many_before : (old mid : TextView) (text : List ℕ) → HasTaken old mid text → old.many + length text < 235 → mid.many ≡ old.many + length text
many_before old mid text before less = before.counted.fits (omega (arith, less))

many_past : (old more mid : ℕ) → IsCounted old more mid → (i : ℕ) → i < old + more → i < 235 → i < mid
many_past old zero mid counted i less small = let is = counted.none refl in omega (arith, is, less)
many_past old (suc k) mid counted i less small = elim (cases_lt no_number (old + suc k)) [
  | inl far ↦ let is = counted.full (omega arith) far in omega (arith, is, small)
  | inr le ↦ let is = counted.fits le in omega (arith, is, less)
]

-- one more byte, of a text
pub taken_more : (old mid new : TextView) (text : List ℕ) (byte : ℕ) → HasTaken old mid text → HasTaken mid new (byte ∷ []) → HasTaken old new (text ++ byte ∷ [])
taken_more old mid new text byte before last = record {
  counted = rw (length-append text (byte ∷ [])) (counted_more old.many (length text) mid.many new.many before.counted last.counted);
  same = λ i less small. last.same i (many_past old.many (length text) mid.many before.counted i (omega (arith, less)) small) small ∙ before.same i less small;
  next = λ i inside fits. elim (cases_lt i (length text)) [
    | inl less ↦
        rw (get_or_append_left text (byte ∷ []) 0 i less)
        (last.same (old.many + i) (many_past old.many (length text) mid.many before.counted (old.many + i) (omega (arith, less)) fits) fits ∙ before.next i less fits)
    | inr le ↦
        let at : i ≡ length text = omega (arith, le, inside, length-append text (byte ∷ [])) in
        let many = many_before old mid text before (omega (arith, fits, at)) in
        let there : get_or (text ++ byte ∷ []) i 0 ≡ byte = ap (λ k. get_or (text ++ byte ∷ []) k 0) at ∙ get_or-append_seam text byte [] 0 in
        let here : old.many + i ≡ mid.many + 0 = omega (arith, many, at) in
        rw (there, here) (last.next 0 (omega arith) (omega (arith, many, fits, at)))
  ];
}
