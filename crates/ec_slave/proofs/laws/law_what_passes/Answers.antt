use Rattle.ec_slave.proofs.StepLemmas.{step_read, step_unread}
use Rattle.ec_slave.proofs.laws.law_what_passes.Goals as goal

pub returns-clause-read : goal.returns-clause-read
returns-clause-read c = step_read

pub returns-clause-unread : goal.returns-clause-unread
returns-clause-unread c = step_unread
