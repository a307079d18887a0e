use Rattle.std.proofs.Common.{rules}
use Rattle.ec_unit_text.proofs.judge.unit_fault.Goals as goal

pub returns-in-DuplicateName : goal.returns-in-DuplicateName
returns-in-DuplicateName c = search rules
