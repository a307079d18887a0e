use Rattle.std.proofs.Common.{rules}
use Rattle.ec_book_shared.proofs.shared.Shared.close.Goals as goal

pub ended-requires-clause-ours : goal.ended-requires-clause-ours
ended-requires-clause-ours g c = search rules
