use Rattle.std.proofs.Common.{◌≡◌, ◌++◌, drop, string_bytes}
use Rattle.ec_play_text.specs.Lines.{tick_lines}
use Rattle.ec_play_text.proofs.lines.push_ticks.Given as goal

abbrev pub invariant-loop-tick : goal.invariant-loop-tick
invariant-loop-tick l = string_bytes l.text ++ tick_lines l.tick (drop l.tick l.rows) ≡ string_bytes l.initial.text ++ tick_lines 0 l.rows
