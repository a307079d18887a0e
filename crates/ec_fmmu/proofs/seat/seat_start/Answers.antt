use Rattle.std.proofs.Common.{arith}
use Rattle.ec_fmmu.proofs.SeatLemmas.{sum_most}
use Rattle.ec_fmmu.specs.Order.{is_before}
use Rattle.ec_fmmu.specs.Seats.{spot}
use Rattle.ec_fmmu.proofs.seat.seat_start.Goals as goal

pub overflow_add-result : goal.overflow_add-result
overflow_add-result c =
    let m = sum_most (λ s. is_before (spot s) (spot c.args.seat.now)) c.args.seats.now c.requires.few c.requires.areas in
    omega (arith, m, c.bytes_before.ensures)

pub returns-clause-most : goal.returns-clause-most
returns-clause-most c =
    let m = sum_most (λ s. is_before (spot s) (spot c.args.seat.now)) c.args.seats.now c.requires.few c.requires.areas in
    omega (arith, m, c.bytes_before.ensures)
