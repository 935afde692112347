use Rattle.std.proofs.Common.{refl}
use Rattle.byte_fields.specs.Number.{four_bytes}
use Rattle.pdb_info.proofs.written.stream_of.Goals as goal

pub returns-clause-value : goal.returns-clause-value
unfolding four_bytes
returns-clause-value c = rw (c.copy_from_slice.ensures.after, c.to_le_bytes.ensures, c.copy_from_slice-2.ensures.after, c.header_bytes.ensures.value) refl
