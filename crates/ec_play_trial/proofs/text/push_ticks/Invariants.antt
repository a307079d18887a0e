use Rattle.std.proofs.Common.{◌≡◌, ◌++◌, drop, map, string_bytes}
use Rattle.ec_play_trial.specs.Trials.{tick_in}
use Rattle.ec_play_trial.specs.Texts.{ticks_text}
use Rattle.ec_play_trial.proofs.text.push_ticks.Given as goal

abbrev pub invariant-loop-number : goal.invariant-loop-number
invariant-loop-number l = string_bytes l.text ++ ticks_text l.number (map tick_in (drop l.number l.ticks)) ≡ string_bytes l.initial.text ++ ticks_text 0 (map tick_in l.ticks)
