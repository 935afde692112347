-- What a call gives.
use Rattle.std.specs.Prelude.{ℕ, ◌≡◌, ◌≢◌, ◌<◌, ◌≤◌, List, length, take, drop}
use Rattle.pdbmerge_c.specs.declared.fault.Fault.{Fault}
use Rattle.pdbmerge_c.specs.Fault.{IsEnded, IsSaid}

-- these items are now at the front of what was lent, and what stood behind them is as it was
pub record Fills {T : Type 0} (items old new : List T) : Type 0 where
  pub fit : length items ≤ length old
  pub front : take (length items) new ≡ items
  pub back : drop (length items) new ≡ drop (length items) old

-- how a call answers that copies the items that it finds to the front of what was lent.
-- It counts them both where they are copied and where there is too little room for them.
-- After any other fault the count is as it was. After any fault what was lent is as it was.
pub record Copies {T : Type 0} (Finds : List T → Type 0) (Refuses : Fault → Type 0)
    (old new : List T) (count_old count_new : ℕ) (fault : Fault) (result : ℕ) : Type 0 where
  pub told : IsSaid fault result
  pub ended : IsEnded fault
  pub value :
      result ≡ 0
      → (items : List T) × Finds items × (count_new ≡ length items) × Fills items old new
  pub room :
      result ≡ 100
      → (items : List T) × Finds items × (count_new ≡ length items) × (length old < length items)
  pub refuses : result ≢ 0 → result ≢ 100 → Refuses fault
  pub untouched : result ≢ 0 → new ≡ old
  pub kept : result ≢ 0 → result ≢ 100 → count_new ≡ count_old
