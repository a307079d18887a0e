use Rattle.std.proofs.Common.{rules}
use Rattle.ec_fmmu.proofs.fmmu.fmmu_bytes.Goals as goal

pub returns-then-fmmu-eq0 : goal.returns-then-fmmu-eq0
returns-then-fmmu-eq0 c = search rules
