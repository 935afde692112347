-- What a sink took of the lines of maps.
use Rattle.std.proofs.Common.{◌≡◌, ◌<◌, ◌≤◌, ℕ, ◌+◌, List, [], ◌++◌, Option, length, take, drop, get_or, sym, ap, ◌∙◌, arith, append_assoc}
use Rattle.std.proofs.lemmas.List.{append-nil, drop_more, drop_all, take-append-le, take_all}
use Rattle.std.proofs.KnownBytes.{Appends-trans}
use Rattle.std.specs.Io.KnownBytes.{Appends}
use Rattle.tpi_records.specs.Header.{first_index}
use Rattle.msf_streams.specs.Put.{AppendsPart}
use Rattle.msf_streams.proofs.PutLaws.{part_first, part_second}
use Rattle.output_lines.specs.Maps.{map_lines, lines_of_maps}

-- a sink took the lines of the maps before this position
pub record TookMaps (old now : Option (List ℕ)) (maps : List (List ℕ)) (file : ℕ) : Type 0 where
  pub taken : List ℕ
  pub appends : Appends old now taken
  pub split : taken ++ lines_of_maps file (drop file maps) ≡ lines_of_maps 0 maps

-- the lines that are left begin with those of the next map
next_map : (maps : List (List ℕ)) (file : ℕ) → file < length maps → lines_of_maps file (drop file maps) ≡ map_lines file first_index (get_or maps file []) ++ lines_of_maps (file + 1) (drop (file + 1) maps)
unfolding lines_of_maps
next_map maps file inside = ap (lines_of_maps file) (drop_more maps file [] inside)

pub took_more : (old now new : Option (List ℕ)) (maps : List (List ℕ)) (file : ℕ) → file < length maps → TookMaps old now maps file → Appends now new (map_lines file first_index (get_or maps file [])) → TookMaps old new maps (file + 1)
took_more old now new maps file inside took more =
    let lines = map_lines file first_index (get_or maps file []) in
    record {
      taken = took.taken ++ lines;
      appends = Appends-trans old now new took.taken lines took.appends more;
      split = append_assoc took.taken lines (lines_of_maps (file + 1) (drop (file + 1) maps)) ∙ ap (λ l. took.taken ++ l) (sym (next_map maps file inside)) ∙ took.split;
    }

pub took_all : (old now : Option (List ℕ)) (maps : List (List ℕ)) (file : ℕ) → length maps ≤ file → TookMaps old now maps file → Appends old now (lines_of_maps 0 maps)
unfolding lines_of_maps
took_all old now maps file past took =
    let whole : took.taken ≡ lines_of_maps 0 maps = sym (append-nil took.taken) ∙ ap (λ l. took.taken ++ lines_of_maps file l) (sym (drop_all file maps past)) ∙ took.split in
    rw (← whole) took.appends

-- a write failed within the lines of the next map
pub took_part : (old now new : Option (List ℕ)) (maps : List (List ℕ)) (file : ℕ) → file < length maps → TookMaps old now maps file → AppendsPart now new (map_lines file first_index (get_or maps file [])) → AppendsPart old new (lines_of_maps 0 maps)
took_part old now new maps file inside took part =
    let lines = map_lines file first_index (get_or maps file []) in
    let rest : AppendsPart now new (lines_of_maps file (drop file maps)) = rw (next_map maps file inside) (part_first now new lines (lines_of_maps (file + 1) (drop (file + 1) maps)) part) in
    rw (← took.split) (part_second old now new took.taken (lines_of_maps file (drop file maps)) took.appends rest)

-- nothing more was written
pub took_first : (old now : Option (List ℕ)) (maps : List (List ℕ)) (file : ℕ) → TookMaps old now maps file → (n : ℕ) × Appends old now (take n (lines_of_maps 0 maps))
took_first old now maps file took =
    let front : take (length took.taken) (took.taken ++ lines_of_maps file (drop file maps)) ≡ took.taken =
    take-append-le (length took.taken) took.taken (lines_of_maps file (drop file maps)) (omega arith) ∙ take_all (length took.taken) took.taken (omega arith) in
    (length took.taken, rw (← took.split) (rw front took.appends))
