use Rattle.std.proofs.Common.{ap, arith, length, map}
use Rattle.std.proofs.lemmas.List.{length-append, length-map}
use Rattle.pdbmerge_c.specs.References.{reference_in}
use Rattle.pdbmerge_c.proofs.ReferenceLaws.{few_places}
use Rattle.pdbmerge_c.proofs.all_references.push_record.Goals as goal

pub overflow_cast-count : goal.overflow_cast-count
overflow_cast-count c =
    let bytes = c.args.bytes.now in
    let (here, has, added) = c.in_ok-push_references.ensures in
    let many = ap length added in
    let old = c.args.lists.now.references.items in
    omega (arith, c.len.ensures, c.len-before.ensures, many, length-append old (map (reference_in bytes) here), length-map here (reference_in bytes), few_places bytes here has, c.requires.long.1)
