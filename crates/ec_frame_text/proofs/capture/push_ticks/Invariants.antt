use Rattle.std.proofs.Common.{◌≡◌, ◌++◌}
use Rattle.std.specs.List.{flat_map, range_with_len}
use Rattle.ec_units.specs.Views.{units_view}
use Rattle.ec_frame_text.specs.Captures.{tick_records}
use Rattle.ec_frame_text.proofs.capture.push_ticks.Given as goal

abbrev pub invariant-loop-tick : goal.invariant-loop-tick
invariant-loop-tick l = l.file.items ≡ l.initial.file.items ++ flat_map (tick_records (units_view l.units) l.mapping) (range_with_len 0 l.tick)
