use Rattle.std.proofs.Common.{arith}
use Rattle.ec_fmmu.proofs.SeatLemmas.{sum_most}
use Rattle.ec_fmmu.proofs.AddressLemmas.{address-group}
use Rattle.ec_fmmu.specs.Order.{is_before}
use Rattle.ec_fmmu.specs.Seats.{key_numbers}
use Rattle.ec_fmmu.proofs.seat.key_start.Goals as goal

pub overflow_add-result : goal.overflow_add-result
overflow_add-result c =
    let m = sum_most (λ s. is_before (key_numbers s.key) (key_numbers c.args.key.now)) c.args.seats.now c.requires.few c.requires.areas in
    omega (arith, m, c.bytes_ahead.ensures)

pub returns : goal.returns
returns c =
    let k = c.args.key.now in
    let a = address-group c.args.seats.now k.slot k.period k.phase in
    omega (arith, a, c.bytes_ahead.ensures)
