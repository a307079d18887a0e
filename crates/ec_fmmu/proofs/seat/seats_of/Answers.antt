use Rattle.std.proofs.Common.{subst, sym}
use Rattle.ec_fmmu.specs.Seats.{AreKept}
use Rattle.ec_fmmu.proofs.SeatLemmas.{units_kept, seats_done}
use Rattle.ec_fmmu.proofs.seat.seats_of.Goals as goal

pub returns-clause-kept : goal.returns-clause-kept
returns-clause-kept c =
    subst AreKept (sym (seats_done c.loop-i.seats.items c.args.units.now c.args.places.now c.loop-i.i c.loop-i-test.false c.loop-i.invariant))
    (units_kept c.args.units.now c.args.places.now c.requires.few)
