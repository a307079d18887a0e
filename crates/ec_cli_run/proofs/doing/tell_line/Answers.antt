use Rattle.std.proofs.Common.{◌≡◌, sym, subst, true, None}
use Rattle.ec_cli_command.specs.Words.{JobFits, reads_cert}
use Rattle.ec_wire.specs.Stream.{stream}
use Rattle.ec_cli_command.specs.declared.job.Job.{Job}
use Rattle.ec_cli_answers.specs.Told.{HasInput}
use Rattle.ec_cli_run.proofs.LineLemmas.{needs_none, reads_its_cert, with_path, without_path}
use Rattle.ec_cli_run.proofs.RunLemmas.{none_given, told_alone, told_line}
use Rattle.ec_cli_run.proofs.doing.tell_line.Goals as goal

pub tell_from-requires-clause-fits : goal.tell_from-requires-clause-fits
tell_from-requires-clause-fits g c κs within = subst JobFits (sym c.job-job.ensures) c.requires.fits

pub tell_from-requires-clause-given : goal.tell_from-requires-clause-given
tell_from-requires-clause-given g c κs within = subst (λ (j : Job). reads_cert j ≡ true) (sym c.job-job.ensures) (reads_its_cert c.args.line.now _ (sym (with_path _ c.in-Some.is c.cert.ensures)))

pub tell-requires-clause-fits : goal.tell-requires-clause-fits
tell-requires-clause-fits g c κs within = subst JobFits (sym c.job-job.ensures) c.requires.fits

pub tell-requires-clause-given : goal.tell-requires-clause-given
tell-requires-clause-given g c κs within = none_given c.job-job.result c.read_alone-read.result (subst (λ (j : Job). HasInput j None) (sym c.job-job.ensures) (needs_none c.args.line.now (sym (without_path _ c.in-None.is c.cert.ensures)))) c.read_alone-read.ensures.none

pub returns-in-Some-clause-told : goal.returns-in-Some-clause-told
returns-in-Some-clause-told g c = λ sound. told_line (g.R.Read.remaining (stream c.args.units.now)) c.tell_from.result c.job-job.ensures (with_path _ c.in-Some.is c.cert.ensures) (c.tell_from.ensures.told sound)

pub returns-in-None-clause-told : goal.returns-in-None-clause-told
returns-in-None-clause-told g c = λ sound.
    let has = subst (λ (j : Job). HasInput j None) (sym c.job-job.ensures) (needs_none c.args.line.now (sym (without_path _ c.in-None.is c.cert.ensures))) in
    told_line (g.R.Read.remaining (stream c.args.units.now)) c.tell.result c.job-job.ensures (without_path _ c.in-None.is c.cert.ensures)
    ((told_alone c.job-job.result _ c.read_alone-read.result c.tell.result has c.read_alone-read.ensures.read c.tell.ensures.told).told sound)

pub returns-in-None-clause-read : goal.returns-in-None-clause-read
returns-in-None-clause-read g c =
    let has = subst (λ (j : Job). HasInput j None) (sym c.job-job.ensures) (needs_none c.args.line.now (sym (without_path _ c.in-None.is c.cert.ensures))) in
    (told_alone c.job-job.result _ c.read_alone-read.result c.tell.result has c.read_alone-read.ensures.read c.tell.ensures.told).read
