use Rattle.std.proofs.Common.{◌≡◌, ◌++◌, map, drop}
use Rattle.ec_frame_builder.specs.Start.{namings, start_bytes}
use Rattle.ec_frame_builder.proofs.start.push_namings.Given as goal

abbrev pub invariant-loop-slave : goal.invariant-loop-slave
invariant-loop-slave l =
    map (λ frame. frame.items) l.frames.items ++ map start_bytes (namings l.slave (drop l.slave l.stations))
    ≡ map (λ frame. frame.items) l.initial.frames.items ++ map start_bytes (namings 0 l.stations)
