use Rattle.std.proofs.Common.{◌≡◌, ◌++◌, string_bytes}
use Rattle.std.specs.List.{flat_map, range_with_len}
use Rattle.ec_frame_text.specs.Lines.{tick_lines}
use Rattle.ec_frame_text.proofs.lines.push_ticks.Given as goal

abbrev pub invariant-loop-tick : goal.invariant-loop-tick
invariant-loop-tick l = string_bytes l.text ≡ string_bytes l.initial.text ++ flat_map (tick_lines l.mapping l.units.slots) (range_with_len 0 l.tick)
