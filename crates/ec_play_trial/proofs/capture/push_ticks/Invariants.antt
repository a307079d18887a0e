use Rattle.std.proofs.Common.{◌≡◌, ◌+◌, ◌*◌, ◌++◌, ◌≤◌, drop, map}
use Rattle.ec_play_trial.specs.Trials.{tick_in}
use Rattle.ec_play_trial.specs.Captures.{ticks_records}
use Rattle.ec_play_trial.proofs.capture.push_ticks.Given as goal

abbrev pub invariant-loop-tick : goal.invariant-loop-tick
invariant-loop-tick l =
    record {
      soon : l.ns ≤ l.first + 1000000000 * l.tick-index;
      records : l.file.items ++ ticks_records l.ns l.tick_ns (map tick_in (drop l.tick-index l.ticks)) ≡ l.initial.file.items ++ ticks_records l.first l.tick_ns (map tick_in l.ticks);
    }
