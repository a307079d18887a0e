use Rattle.std.proofs.Common.{◌≡◌, ◌+◌, ◌++◌, ◌∷◌, [], ap, ◌∙◌, arith, refl, add-one}
use Rattle.ec_book_shared.specs.Seats.{first_seats, seat_view}
use Rattle.ec_book_shared.proofs.shared.Shared.new.Goals as goal

pub loop-worker-preserved : goal.loop-worker-preserved
loop-worker-preserved g c =
    let us = c.args.units.now.units in
    let n = c.args.units.now.slots in
    let order = c.args.order.now in
    let k = c.loop-worker.worker in
    let more : first_seats us n order k ++ (seat_view us n order k [] 0) ∷ [] ≡ first_seats us n order (k + 1) = rw add-one refl in
    let kept = c.loop-worker.invariant in
    let test = c.loop-worker-test.true in
    record {
      items = c.push_reserved.ensures.items ∙ (λ j. kept.items j ++ (seat_view us n order k (c.new-in-loop-worker.ensures j) (c.split_off-share.ensures.amount j)) ∷ []) ∙ more;
      count = omega (arith, c.push_reserved.ensures.len, kept.count);
      room = omega (arith, c.push_reserved.ensures.capacity, kept.room);
      parts = omega (arith, c.split_off-share.ensures.parts_left, kept.parts, test);
      amount = omega (arith, c.split_off-share.ensures.amount_left, kept.amount);
    }

pub returns-clause-seats : goal.returns-clause-seats
returns-clause-seats g c =
    let us = c.args.units.now.units in
    let n = c.args.units.now.slots in
    let all : c.loop-worker.worker ≡ c.args.seats = omega (arith, c.loop-worker-test.false, c.loop-worker.auto.worker-end) in
    c.loop-worker.invariant.items ∙ ap (first_seats us n c.args.order.now) all
