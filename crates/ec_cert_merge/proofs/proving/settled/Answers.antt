use Rattle.std.proofs.Common.{None, nat_lt, ◌∙◌, ap}
use Rattle.ec_cert.specs.Shapes.{cert_view}
use Rattle.ec_cert_merge.proofs.CertLemmas.{settled-proven, strong-kept}
use Rattle.ec_cert_merge.proofs.proving.settled.Goals as goal

pub returns-clause-proven : goal.returns-clause-proven
returns-clause-proven c = settled-proven c.args.units.now.units c.args.units.now.slots (cert_view c.args.cert) c.version_for-version.result c.requires.proven c.requires.none c.version_for-version.ensures

pub returns-clause-rules : goal.returns-clause-rules
returns-clause-rules c = ap (nat_lt 3) c.version_for-version.ensures ∙ strong-kept c.args.cert.version None c.requires.proven.formed.least_version c.requires.proven.formed.most_version
