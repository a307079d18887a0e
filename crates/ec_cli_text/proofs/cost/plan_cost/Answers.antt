use Rattle.std.specs.Prelude.{string_bytes}
use Rattle.std.proofs.Common.{refl}
use Rattle.ec_cli_text.proofs.PlacedLemmas.{costs_text}
use Rattle.ec_cli_text.proofs.cost.plan_cost.Goals as goal

pub returns : goal.returns
returns c = (costs_text c.args.units.now c.args.plan.now.places (string_bytes c.in_ok-text.text) c.in_ok-text.ensures, refl)
