use Rattle.std.proofs.Common.{rules}
use Rattle.ec_cli_text.proofs.outcome.outcome_answer.Goals as goal

pub returns-in_ok-unproved_text-in-Unproved : goal.returns-in_ok-unproved_text-in-Unproved
returns-in_ok-unproved_text-in-Unproved c = search rules
