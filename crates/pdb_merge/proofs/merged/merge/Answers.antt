use Rattle.std.proofs.Common.{◌≡◌, Err, inl, inr, refl}
use Rattle.std.proofs.lemmas.Result.{err_from_is_err_and}
use Rattle.pdb_info.specs.Settings.{record_limit}
use Rattle.pdb_merge.specs.declared.summary.Summary.{Summary}
use Rattle.pdb_merge.specs.declared.fault.OutFault.TheVariants as outs
use Rattle.pdb_merge.proofs.FileLaws.{wrote_part}
use Rattle.pdb_merge.specs.Plan.{IsFileFor}
use Rattle.pdb_merge.proofs.PlanLaws.{all_accepted, is_file_for, wrote_sifted}
use Rattle.pdb_merge.proofs.merged.merge.Goals as goal

pub returns-in-Ok : goal.returns-in-Ok
returns-in-Ok g c =
    let settings = c.args.plan.now.settings in
    let choice = c.args.plan.now.guid in
    let canon = c.in_ok-canon.field-0.canon in
    let chosen = c.settings_for-settings.ensures in
    let ok = c.in_ok-canon.ensures in
    record {
      value = λ given gives.
          wrote_sifted (IsFileFor choice given settings) given c.settings_for-settings.result canon _ _ c.in-Ok.summary c.in_ok-canon.field-0.left_out.items _
          (rw chosen (is_file_for choice given settings canon (rw chosen at c.write_canon.ensures.settings) (ok.accepts.can given gives).within (ok.value given gives)))
          (ok.value given gives) c.in-Ok.ensures.value (ok.left given gives) (ok.maps given gives);
      accepts = ok.accepts;
      all = all_accepted (g.I.Inputs.known c.args.files) _ (record_limit settings) c.in_ok-canon.field-0.left_out.items ok.accepts ok.left;
      listed = ok.listed;
      spared = ok.spared;
      refuses = tt;
      late = tt;
      broken = tt;
      write = λ given gives. tt;
      untouched = tt;
    }

pub returns : goal.returns
returns g c =
    let settings = c.args.plan.now.settings in
    let choice = c.args.plan.now.guid in
    let canon = c.in_ok-canon.field-0.canon in
    let chosen = c.settings_for-settings.ensures in
    let ok = c.in_ok-canon.ensures in
    record {
      value = λ given gives. tt;
      accepts = tt;
      all = tt;
      listed = tt;
      spared = tt;
      refuses = λ inner is. elim c.in-Err.ensures.fault [ inl memory ↦ absurd cc | inr wrote ↦ absurd cc ];
      late = λ none. ok.accepts;
      broken = c.in-Err.ensures.broken;
      write = λ given gives.
          wrote_part {A = Summary} (IsFileFor choice given settings) c.settings_for-settings.result canon _ _ outs.Write (Err c.in-Err.fault)
          (rw chosen (is_file_for choice given settings canon (rw chosen at c.write_canon.ensures.settings) (ok.accepts.can given gives).within (ok.value given gives)))
          c.in-Err.ensures.write;
      untouched = c.in-Err.ensures.untouched;
    }

pub returns-in_err-canon : goal.returns-in_err-canon
returns-in_err-canon g c =
    let p = err_from_is_err_and c.from_residual.result c.from_residual.ensures.1 in
    let why = c.in_err-canon.field-0.0 in
    rw (p.1, p.2) (record {
      value = λ given gives. tt;
      accepts = tt;
      all = tt;
      listed = tt;
      spared = tt;
      refuses = λ inner same. let one : inner ≡ why = cc in rw one c.in_err-canon.ensures.refuses;
      late = λ none. absurd (none why refl);
      broken = λ is. absurd cc;
      write = λ given gives is. absurd cc;
      untouched = λ is. refl;
    })
