use Rattle.std.proofs.Common.{rules}
use Rattle.ec_book_shared.proofs.shared.Shared.improve.Goals as goal

pub returns-in-Ok-clause-made : goal.returns-in-Ok-clause-made
returns-in-Ok-clause-made g c = search rules
