use Rattle.pdb_info.proofs.SettingsLaws.{records_fit}
use Rattle.pdb_info.proofs.settings.Settings.record_limit.Goals as goal

pub returns-clause-fits : goal.returns-clause-fits
returns-clause-fits c = rw (← c.self.view_is) (records_fit _ c.self.invariant)
