use Rattle.pdb_merge.specs.Merged.{type_stream, merged_file}
use Rattle.pdb_merge.proofs.FitLaws.{merged_writable}
use Rattle.pdb_merge.proofs.write.write_merged_len.Goals as goal

pub returns-clause-image : goal.returns-clause-image
unfolding type_stream
returns-clause-image g c = rw (c.info_bytes-info.ensures.value, c.header_of-header.ensures, c.texts.ensures, c.of-block_size.ensures, c.block_size.ensures.value) at c.write_file.ensures.image

pub returns-clause-len : goal.returns-clause-len
unfolding merged_file type_stream
returns-clause-len g c = rw (c.info_bytes-info.ensures.value, c.header_of-header.ensures, c.texts.ensures, c.of-block_size.ensures, c.block_size.ensures.value) at c.write_file.ensures.len

pub returns-clause-found : goal.returns-clause-found
unfolding type_stream
returns-clause-found g c = λ few.
    let image = rw (c.info_bytes-info.ensures.value, c.header_of-header.ensures, c.texts.ensures, c.of-block_size.ensures, c.block_size.ensures.value) at c.write_file.ensures.image in
    image.found (merged_writable c.args.settings.now c.args.canon.now c.block_size.ensures.settings few)
