use Rattle.std.proofs.Common.{◌≡◌, ◌++◌, ◌∷◌, [], take}
use Rattle.std.specs.List.{flat_map}
use Rattle.pdbmerge_c.proofs.info.push_names.Given as goal

abbrev pub invariant-loop-name : goal.invariant-loop-name
invariant-loop-name l = l.bytes.items ≡ l.fn.bytes.items ++ flat_map (λ name. name.text.now ++ 0 ∷ []) (take l.name-index l.names)
