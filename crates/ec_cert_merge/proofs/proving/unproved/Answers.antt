use Rattle.ec_cert.specs.Shapes.{cert_view}
use Rattle.ec_cert_merge.proofs.OutcomeLemmas.{left-to-parts}
use Rattle.ec_cert_merge.proofs.proving.unproved.Goals as goal

pub returns-clause-outcome : goal.returns-clause-outcome
returns-clause-outcome c = left-to-parts c.args.units.now.units c.args.units.now.slots (cert_view c.args.cert) c.requires.proven c.requires.some
