use Rattle.std.specs.Prelude.{◌-◌, ◌^◌}
use Rattle.show_commands.specs.Info.{RefusesInfo, RefusesInfoWithin, ShowsInfo, ShowsInfoWithin}
use Rattle.show_commands.proofs.InfoLaws.{refuses_unlimited, shows_unlimited}
use Rattle.show_commands.proofs.ShowLaws.{answers_more}
use Rattle.show_commands.proofs.info.run_info.Goals as goal

pub returns : goal.returns
returns g c =
    answers_more (ShowsInfoWithin (2 ^ 32 - 1)) ShowsInfo (RefusesInfoWithin (2 ^ 32 - 1)) RefusesInfo c.args.limit (g.R.Source.left c.args.input.now) (g.R.Source.left c.run.new.input) (g.R.Source.is_broken c.run.new.input) g.W.Sink.taken g.W.Sink.is_broken c.args.out.now c.run.new.out c.run.result
    shows_unlimited refuses_unlimited c.run.ensures
