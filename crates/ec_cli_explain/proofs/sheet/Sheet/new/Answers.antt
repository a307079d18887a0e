use Rattle.ec_cli_explain.proofs.ShownLemmas.{shown_empty}
use Rattle.ec_cli_explain.proofs.sheet.Sheet.new.Goals as goal

pub invariant_of-result : goal.invariant_of-result
invariant_of-result c = record { shown = rw c.new.ensures.bytes shown_empty }
