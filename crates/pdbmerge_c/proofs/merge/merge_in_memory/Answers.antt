use Rattle.std.proofs.Common.{◌≡◌, [], rules, refl}
use Rattle.pdbmerge_c.specs.Merge.{bytes_of_files}
use Rattle.pdbmerge_c.proofs.merge.merge_in_memory.Goals as goal

pub returns-clause-value : goal.returns-clause-value
returns-clause-value g c =
    let empty : c.new-file.result.writer.items ≡ [] = search rules in
    rw empty at (c.in_ok-merged.ensures.value (bytes_of_files c.args.files.now) refl)
