use Rattle.std.proofs.Common.{rules}
use Rattle.ec_loads.specs.Cost.{tick_cost}
use Rattle.ec_loads.specs.Held.{items_of}
use Rattle.ec_cli_text.specs.Lines.{tick_line}
use Rattle.ec_cli_text.proofs.LineLemmas.{lines_more}
use Rattle.ec_cli_text.proofs.cost.push_ticks.Goals as goal

pub loop-t-preserved : goal.loop-t-preserved
loop-t-preserved c = rw (lines_more (λ t. tick_line t (tick_cost (items_of c.args.loads.now) c.args.loads.now.slots t))) (search rules)

pub returns : goal.returns
returns c = search rules
