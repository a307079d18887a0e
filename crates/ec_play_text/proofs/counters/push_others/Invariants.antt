use Rattle.std.proofs.Common.{◌≡◌, ◌++◌, drop, string_bytes}
use Rattle.ec_play_text.specs.Lines.{others}
use Rattle.ec_play_text.proofs.counters.push_others.Given as goal

abbrev pub invariant-loop-counter : goal.invariant-loop-counter
invariant-loop-counter l = string_bytes l.text ++ others (drop l.counter-index l.counters) ≡ string_bytes l.initial.text ++ others l.counters
