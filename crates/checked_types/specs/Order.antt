-- The positions of records in an order.
use Rattle.std.specs.Prelude.{ℕ, ◌≡◌, ◌-◌, List, Option, Some, None, length, drop}
use Rattle.std.specs.Borrow.{Bor}
use Rattle.std.specs.List.{range_with_len}
use Rattle.checked_types.specs.declared.order.Order.{Order}
use Rattle.checked_types.specs.declared.order.Order.TheVariants as order

-- the positions of this number of records, in this order
abbrev pub order_list : {A : Type 0} → ℕ → Order A → List ℕ
order_list many order.InFileOrder = range_with_len 0 many
order_list many (order.Listed list) = list.items

-- the positions from an index of the list on;
-- if there is no list, all numbers from this one up to the end
abbrev pub positions_left : Option (Bor (List ℕ)) → ℕ → ℕ → List ℕ
positions_left None next end = range_with_len next (end - next)
positions_left (Some list) next end = drop next list.now

-- the end is that of the list, if there is one
abbrev pub EndsAt : Option (Bor (List ℕ)) → ℕ → Type 0
EndsAt None end = Unit {0}
EndsAt (Some list) end = length list.now ≡ end
