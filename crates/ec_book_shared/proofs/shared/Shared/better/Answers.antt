use Rattle.std.proofs.Common.{rules, arith}
use Rattle.std.proofs.lemmas.Grind.{common_steps}
use Rattle.ec_book_shared.proofs.shared.Shared.better.Goals as goal

pub improve-requires : goal.improve-requires
improve-requires g c = search rules
