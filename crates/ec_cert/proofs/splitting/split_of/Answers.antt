use Rattle.std.proofs.Common.{rules}
use Rattle.ec_cert.proofs.TreeLemmas.{shape_of-Split}
use Rattle.ec_cert.proofs.splitting.split_of.Goals as goal

pub returns : goal.returns
returns c = search (rules, shape_of-Split)
