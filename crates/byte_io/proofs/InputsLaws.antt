-- A slice of slices as several inputs.
use Rattle.std.proofs.Common.{◌≡◌, ◌∙◌, ℕ, ◌<◌, List, Some, Bor, get_or, length, map, ap, arith}
use Rattle.std.specs.Prelude.{Result, Ok, slice_get, option_map}
use Rattle.std.proofs.lemmas.Option.{slice_get-map, slice_get-get_or}
use Rattle.std.proofs.lemmas.List.{length-map}
use Rattle.byte_io.specs.declared.inputs.InputFault.{InputFault}

-- reading one of the slices gives its bytes
pub slice_read : (files : List (Bor (List ℕ))) (i : ℕ) (d : Bor (List ℕ)) → i < length (map {B = Result (List ℕ) InputFault} (λ x. Ok x) (map (λ file. file.now) files))
    → slice_get (map {B = Result (List ℕ) InputFault} (λ x. Ok x) (map (λ file. file.now) files)) i ≡ Some (Ok (get_or files i d).now)
slice_read files i d inside =
    let now : Bor (List ℕ) → List ℕ = λ file. file.now in
    let ok : List ℕ → Result (List ℕ) InputFault = λ x. Ok x in
    slice_get-map ok (map now files) i ∙ ap (option_map ok) (slice_get-map now files i ∙ ap (option_map now) (slice_get-get_or files i d (omega (arith, inside, length-map (map now files) ok, length-map files now))))
