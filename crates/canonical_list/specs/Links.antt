-- Links between the positions of the same depth, from the last one back.
use Rattle.std.specs.Prelude.{ℕ, ◌≡◌, ◌≢◌, ◌-◌, ◌<◌, ◌≤◌, List, length, get_or}

-- no position from `from` on and below `end` has this depth
abbrev pub NoneFrom : List ℕ → ℕ → ℕ → ℕ → Type 0
NoneFrom depths d from end = (j : ℕ) → from ≤ j → j < end → get_or depths j 0 ≢ d

-- the link is one more than the last position below `end` that has this depth,
-- or 0 if there is none
pub record IsNewest (depths : List ℕ) (d end link : ℕ) : Type 0 where
  pub inside : link ≤ end
  pub here : 0 < link → get_or depths (link - 1) 0 ≡ d
  pub others : NoneFrom depths d link end

-- each level leads to the last position of this depth,
-- and each position to the last one before it of the same depth
pub record AreLinked (depths newest older : List ℕ) : Type 0 where
  pub newest_lead : (d : ℕ) → IsNewest depths d (length depths) (get_or newest d 0)
  pub older_lead :
      (k : ℕ) → k < length depths → IsNewest depths (get_or depths k 0) k (get_or older k 0)
