use Rattle.std.proofs.Common.{rules}
use Rattle.ec_units.proofs.name.Name.new.Goals as goal

pub returns : goal.returns
returns c = search rules
