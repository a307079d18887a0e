use Rattle.std.proofs.Common.{◌≡◌, ◌++◌, string_bytes}
use Rattle.ec_loads.specs.Cost.{tick_cost}
use Rattle.ec_loads.specs.Held.{items_of}
use Rattle.ec_cli_text.specs.Lines.{tick_lines}
use Rattle.ec_cli_text.proofs.cost.push_ticks.Given as goal

abbrev pub invariant-loop-t : goal.invariant-loop-t
invariant-loop-t l = string_bytes l.text ≡ string_bytes l.initial.text ++ tick_lines (tick_cost (items_of l.loads) l.loads.slots) l.t
