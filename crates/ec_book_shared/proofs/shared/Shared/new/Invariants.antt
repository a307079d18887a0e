use Rattle.std.proofs.Common.{◌≡◌, ◌+◌, ◌≤◌, vec_len, vec_capacity}
use Rattle.ec_book_shared.specs.Seats.{first_seats}
use Rattle.ec_book_shared.proofs.shared.Shared.new.Given as goal

abbrev pub invariant-loop-worker : goal.invariant-loop-worker
invariant-loop-worker g l = record {
  items : l.all.items ≡ first_seats l.units.units l.units.slots l.order l.worker;
  count : vec_len l.all ≡ l.worker;
  room : l.seats ≤ vec_capacity l.all;
  parts : l.spare.parts + l.worker ≡ l.seats;
  amount : l.spare.amount ≡ 0;
}
