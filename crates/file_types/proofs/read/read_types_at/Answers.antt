use Rattle.file_types.proofs.KnownLaws.{accepted_known, refused_known}
use Rattle.file_types.proofs.ReadLaws.{err_more, ok_more, wants_memory}
use Rattle.file_types.proofs.read.read_types_at.Goals as goal

pub returns-clause-value : goal.returns-clause-value
returns-clause-value g c = ok_more _ _ c.types_at.result (λ types read. λ file known. accepted_known file types (c.types_at.ensures.small file known) (rw known at read)) c.types_at.ensures.texts

pub returns-clause-first : goal.returns-clause-first
returns-clause-first g c = err_more _ _ c.types_at.result (λ inner refused. refused_known (g.R.ReadAt.bytes c.args.input.now) inner refused) c.types_at.ensures.refused

pub returns-clause-found : goal.returns-clause-found
returns-clause-found g c = err_more _ _ c.types_at.result (λ inner first. wants_memory (g.R.ReadAt.bytes c.args.input.now) inner first) (returns-clause-first g c)
