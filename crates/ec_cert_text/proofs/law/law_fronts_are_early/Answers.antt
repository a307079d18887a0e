use Rattle.ec_cert_text.proofs.FrontLaws.{no_version, cut_early}
use Rattle.ec_cert_text.proofs.law.law_fronts_are_early.Goals as goal

pub returns-clause-version : goal.returns-clause-version
returns-clause-version c = no_version

pub returns-clause-early : goal.returns-clause-early
returns-clause-early c = cut_early
