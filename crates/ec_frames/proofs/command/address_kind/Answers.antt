use Rattle.std.proofs.Common.{rules}
use Rattle.ec_frames.proofs.command.address_kind.Goals as goal

pub returns-in-Brw : goal.returns-in-Brw
returns-in-Brw c = search rules
