use Rattle.std.proofs.Common.{All, arith, refl, subst}
use Rattle.std.proofs.lemmas.List.{take_all}
use Rattle.std.proofs.lemmas.List.Elements.{All-more}
use Rattle.ec_book_shared.specs.Seats.{SeatView, IsOf}
use Rattle.ec_book_shared.proofs.close.are_all_of.Goals as goal

pub loop-seat-preserved : goal.loop-seat-preserved
loop-seat-preserved g c =
    let P : SeatView → Type 0 = λ s. IsOf c.args.loads.now c.args.slots c.args.order.now s in
    let here : P c.seat-item.result = rw (c.units.ensures.units, c.units.ensures.slots, c.order.ensures.value) at c.are_of.ensures.0 c.if-not-are_of.false in
    All-more P c.args.seats.now c.loop-seat.seat-index c.seat-item.result (omega arith) c.loop-seat.invariant (subst P c.seat-item.is here)

pub returns : goal.returns
returns g c =
    let P : SeatView → Type 0 = λ s. IsOf c.args.loads.now c.args.slots c.args.order.now s in
    ((λ _. subst (All P) (take_all c.loop-seat.seat-index c.args.seats.now (omega arith)) c.loop-seat.invariant), λ _. refl)
