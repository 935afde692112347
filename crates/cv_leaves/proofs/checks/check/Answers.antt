use Rattle.cv_leaves.proofs.MadeLaws.{made_places, made_ok}
use Rattle.cv_leaves.proofs.checks.check.Goals as goal

pub returns-clause-value : goal.returns-clause-value
returns-clause-value c = made_places c.args.record.now c.check_record.result c.requires.0 c.check_record.ensures

pub returns-clause-found : goal.returns-clause-found
returns-clause-found c = made_ok c.args.record.now c.check_record.result c.check_record.ensures
