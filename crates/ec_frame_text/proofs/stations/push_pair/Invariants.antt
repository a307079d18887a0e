use Rattle.std.proofs.Common.{◌≡◌, ◌++◌, drop, string_bytes}
use Rattle.ec_frame_text.specs.Lines.{station_lines}
use Rattle.ec_frame_text.proofs.stations.push_pair.Given as goal

abbrev pub invariant-loop-k : goal.invariant-loop-k
invariant-loop-k l = string_bytes l.text ++ station_lines l.station l.k (drop l.k l.pair) ≡ string_bytes l.initial.text ++ station_lines l.station 0 l.pair
