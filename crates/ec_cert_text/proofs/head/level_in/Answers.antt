use Rattle.std.proofs.Common.{arith}
use Rattle.std.proofs.lemmas.Grind.{common_steps}
use Rattle.ec_cert_text.proofs.head.level_in.Goals as goal

pub returns-then-starts_with : goal.returns-then-starts_with
unfolding Rattle.ec_cert_text.specs.Reading.level_in
returns-then-starts_with c = grind (arith, common_steps)
