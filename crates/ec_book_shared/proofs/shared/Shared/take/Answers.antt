use Rattle.std.proofs.Common.{rules}
use Rattle.ec_book_shared.proofs.shared.Shared.take.Goals as goal

pub returns-in-Ok-clause-took : goal.returns-in-Ok-clause-took
returns-in-Ok-clause-took g c = search rules

pub returns-in-Ok-clause-made : goal.returns-in-Ok-clause-made
returns-in-Ok-clause-made g c = search rules
