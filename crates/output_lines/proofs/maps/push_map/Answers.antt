use Rattle.std.proofs.Common.{◌≡◌, ◌+◌, ◌++◌, ◌<◌, ◌≤◌, get_or, length, rules, arith, string_bytes}
use Rattle.tpi_records.specs.Header.{first_index}
use Rattle.output_lines.specs.Maps.{map_line}
use Rattle.output_lines.proofs.MapsLaws.{map_line_more, map_lines_whole}
use Rattle.output_lines.proofs.maps.push_map.Goals as goal

pub loop-number-preserved : goal.loop-number-preserved
loop-number-preserved g c =
    let so_far = c.loop-number in
    let k = so_far.number-index in
    let numbers = c.args.numbers.now in
    let inside : k < length numbers = search rules in
    let line : string_bytes c.push_map_line.new.text ≡ string_bytes so_far.text ++ map_line c.args.file so_far.index (first_index + get_or numbers k 0) = search rules in
    record {
      shown = map_line_more (string_bytes so_far.text) (string_bytes c.push_map_line.new.text) c.args.file so_far.index k numbers _ inside so_far.invariant.shown line;
      at = omega (arith, so_far.invariant.at);
    }

pub returns : goal.returns
returns g c =
    let so_far = c.loop-number in
    let past : length c.args.numbers.now ≤ so_far.number-index = search rules in
    map_lines_whole (string_bytes so_far.text) c.args.file so_far.index so_far.number-index c.args.numbers.now _ past so_far.invariant.shown
