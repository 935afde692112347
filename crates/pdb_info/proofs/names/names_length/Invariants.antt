use Rattle.std.proofs.Common.{◌≡◌, ◌-◌, ◌^◌, length, take, min, sum_by}
use Rattle.pdb_info.proofs.names.names_length.Given as goal

abbrev pub invariant-loop-name : goal.invariant-loop-name
invariant-loop-name l = l.length ≡ min (2 ^ 64 - 1) (sum_by (λ name. length name.text.now) (take l.name-index l.names))
