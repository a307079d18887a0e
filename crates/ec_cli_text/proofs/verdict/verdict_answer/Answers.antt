use Rattle.std.proofs.Common.{rules}
use Rattle.ec_cli_text.proofs.verdict.verdict_answer.Goals as goal

pub returns-in_ok-from_str-in-NoPlan : goal.returns-in_ok-from_str-in-NoPlan
returns-in_ok-from_str-in-NoPlan c = search rules

pub returns-in_ok-format-in-AtLeast : goal.returns-in_ok-format-in-AtLeast
returns-in_ok-format-in-AtLeast c = search rules
