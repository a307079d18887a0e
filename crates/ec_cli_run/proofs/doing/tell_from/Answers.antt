use Rattle.ec_cli_run.proofs.RunLemmas.{nothing_read, told_both, unopened}
use Rattle.ec_cli_run.proofs.doing.tell_from.Goals as goal

pub returns-in_default-clause-told : goal.returns-in_default-clause-told
returns-in_default-clause-told g c = λ sound. unopened c.args.job.now c.args.from.now _

pub returns-in_default-clause-read : goal.returns-in_default-clause-read
returns-in_default-clause-read g c = nothing_read _ c.args.units.now _ c.requires.units

pub returns-clause-told : goal.returns-clause-told
returns-clause-told g c = (told_both c.args.job.now _ _ c.read_both-read.result c.tell.result c.requires.given c.read_both-read.ensures.read c.tell.ensures.told).some

pub returns-clause-read : goal.returns-clause-read
returns-clause-read g c = (told_both c.args.job.now _ _ c.read_both-read.result c.tell.result c.requires.given c.read_both-read.ensures.read c.tell.ensures.told).read.units_read
