use Rattle.std.proofs.Common.{◌∙◌, sym}
use Rattle.msf_blocks.proofs.KnownLaws.{block_map_known}
use Rattle.msf_blocks.proofs.without_memory.fault_without_memory.Goals as goal

pub check_directory-requires : goal.check_directory-requires
check_directory-requires g c = record {
  readable = λ file known.
      let e = c.in_default.ensures in
      let old = sym e.reads.keeps ∙ known in
      block_map_known file c.args.superblock.now (c.requires.whole file old) c.requires.fit (rw old at e.map);
}
