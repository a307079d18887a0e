use Rattle.std.proofs.Common.{rules}
use Rattle.ec_wire.proofs.wire.fits.Goals as goal

pub returns : goal.returns
returns c = search rules
