use Rattle.std.proofs.Common.{◌≡◌, map, take}
use Rattle.ec_fmmu.specs.Mappings.{records_of}
use Rattle.ec_fmmu.proofs.mapping.fmmus_of.Given as goal

abbrev pub invariant-loop-seat : goal.invariant-loop-seat
invariant-loop-seat l = l.fmmus.items ≡ map (records_of l.seats) (take l.seat-index l.seats)
