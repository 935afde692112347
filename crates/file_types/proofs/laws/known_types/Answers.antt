use Rattle.file_types.proofs.KnownLaws.{accepted_read, accepted_known}
use Rattle.file_types.proofs.laws.known_types.Goals as goal

pub returns : goal.returns
returns c = λ file types bytes. (λ read. accepted_known file types bytes read, λ accepted. accepted_read file types accepted)
