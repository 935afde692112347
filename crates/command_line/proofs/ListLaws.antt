-- Lists of paths, line by line.
use Rattle.std.proofs.Common.{◌++◌, [], ◌∷◌, ℕ, List, refl}
use Rattle.std.specs.Prelude.{◌≢◌}
use Rattle.command_line.specs.List.{BeginsWithLine, Leads}

-- one line more
pub leads_on : (end : ℕ) (text : List ℕ) (lines : List (List ℕ)) (left line after : List ℕ) → Leads end text lines left → left ≢ [] → BeginsWithLine end left line after
    → Leads end text (lines ++ line ∷ []) after
leads_on end text [] left line after is some begins = rw is (after, some, begins, refl)
leads_on end text (l ∷ lines) left line after (rest, t, b, leads) some begins = (rest, t, b, leads_on end rest lines left line after leads some begins)
