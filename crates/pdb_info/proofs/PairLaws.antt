-- The pairs of the map, one after the other, and the numbers after them.
use Rattle.std.proofs.Common.{◌≡◌, ℕ, ◌+◌, ◌*◌, ◌<◌, true, None, List, [], ◌∷◌, ◌++◌, map, get_or, sym, ◌∙◌, ap, arith}
use Rattle.std.proofs.lemmas.List.{map_push}
use Rattle.std.proofs.lemmas.List.FromFn.{map-range_with_len_more}
use Rattle.byte_fields.specs.Number.{number_at}
use Rattle.byte_fields.specs.Check.{Check, first_failing, checks_below}
use Rattle.byte_fields.proofs.CheckLaws.{checks_below-each, check_held, first_failing-parts}
use Rattle.pdb_info.specs.Names.{field_check, is_named, numbers_at, pair_at, pair_checks, pair_offset, pairs_below, names_below, named_in, buffer_of, present_of, present_buckets}
use Rattle.pdb_info.specs.Name.{named}
use Rattle.pdb_info.specs.declared.names.Name.{Name}
use Rattle.pdb_info.specs.declared.fault.InfoFault.{InfoFault}
use Rattle.pdb_info.specs.declared.fault.InfoFault.TheVariants.{NameOffset}

-- one more number
pub numbers_more : (stream : List ℕ) (offset k : ℕ) → numbers_at stream offset (k + 1) ≡ numbers_at stream offset k ++ number_at 4 stream (offset + 4 * k) ∷ []
numbers_more stream offset k = map-range_with_len_more (λ (j : ℕ). number_at 4 stream (offset + 4 * j)) 0 k k (omega arith)

-- one more pair
pairs_more : (stream : List ℕ) (k : ℕ) → pairs_below stream (k + 1) ≡ pairs_below stream k ++ pair_at stream k ∷ []
pairs_more stream k = map-range_with_len_more (pair_at stream) 0 k k (omega arith)

-- one more name
pub names_more : (stream : List ℕ) (k : ℕ) (names : List Name) (name : Name) → map named names ≡ names_below stream k → named name ≡ named_in (buffer_of stream) (pair_at stream k)
    → map named (names ++ name ∷ []) ≡ names_below stream (k + 1)
names_more stream k names name before here =
    map_push named names name ∙ rw (before, here) (sym (ap (map (named_in (buffer_of stream))) (pairs_more stream k) ∙ map_push (named_in (buffer_of stream)) (pairs_below stream k) (pair_at stream k)))

-- if all pairs passed their checks, the name of each pair has an end
pub pair_named : (stream : List ℕ) (count k : ℕ) → first_failing (checks_below count (pair_checks stream)) ≡ None → k < count → is_named (buffer_of stream) (number_at 4 stream (pair_offset stream k)) ≡ true
unfolding pair_checks
pair_named stream count k held lt =
    let offset = pair_offset stream k in
    let named = is_named (buffer_of stream) (number_at 4 stream offset) in
    let fault = NameOffset (get_or (present_buckets (present_of stream)) k 0) in
    let back : List (Check InfoFault) = record { holds = named; fault = fault } ∷ [] in
    let parts = first_failing-parts (field_check stream offset 8 ∷ []) back (checks_below-each (pair_checks stream) count k held lt) in
    check_held named fault parts.1
