-- Streams with their names, as contracts see them.
use Rattle.std.proofs.Common.{◌≡◌, ◌++◌, ◌∷◌, [], List, map}
use Rattle.std.specs.List.{flat_map}
use Rattle.std.proofs.lemmas.Simd.{map-map}
use Rattle.std.proofs.lemmas.List.Folds.{flat_map-map}
use Rattle.pdb_info.specs.Name.{named}
use Rattle.pdb_info.specs.declared.names.Name.{Name}

-- the numbers of the streams
pub named_numbers : (names : List Name) → map (λ name. name.stream) (map named names) ≡ map (λ (name : Name). name.stream) names
named_numbers names = map-map (λ name. name.stream) named names

-- their names, each with a NUL behind it
pub named_texts : (names : List Name) → flat_map (λ name. name.text ++ 0 ∷ []) (map named names) ≡ flat_map (λ (name : Name). name.text.now ++ 0 ∷ []) names
named_texts names = flat_map-map (λ name. name.text ++ 0 ∷ []) named names
