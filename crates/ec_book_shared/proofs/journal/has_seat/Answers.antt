use Rattle.std.proofs.Common.{◌∙◌, ◌==◌, sym, arith, take_all, ap}
use Rattle.std.specs.List.{list_any}
use Rattle.ec_book_shared.proofs.Journaled.{any-worker, any-at}
use Rattle.ec_book_shared.proofs.journal.has_seat.Goals as goal

pub returns-then-worker : goal.returns-then-worker
returns-then-worker g c =
    sym (any-worker c.args.worker c.args.seats.now ∙ any-at c.args.worker c.args.seats.now c.loop-seat.seat-index c.seat-item.result (omega arith) (ap (λ s. s.worker) (sym c.seat-item.is) ∙ sym c.worker.ensures ∙ c.if-worker.true))

pub returns : goal.returns
returns g c = sym (any-worker c.args.worker c.args.seats.now ∙ ap (λ w. list_any (λ s. s.worker == c.args.worker) w) (sym (take_all c.loop-seat.seat-index c.args.seats.now (omega arith))) ∙ c.loop-seat.invariant)
