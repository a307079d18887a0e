use Rattle.std.proofs.Common.{rules}
use Rattle.ec_book_shared.proofs.shared.Shared.counted.Goals as goal

pub returns-clause-room : goal.returns-clause-room
returns-clause-room g c = search rules

pub returns-clause-opened : goal.returns-clause-opened
returns-clause-opened g c = search rules
