use Rattle.std.proofs.Common.{◌≡◌, ◌≤◌, vec_len, vec_capacity, All}
use Rattle.ec_search_queues.specs.Lowest.{nothing, known, IsNewReader}
use Rattle.ec_search_queues.proofs.bound.Bound.new.Given as goal

abbrev pub invariant-loop-number : goal.invariant-loop-number
invariant-loop-number l =
    (l.seat.table_id ≡ l.table.shared.table_id) × (l.seat.me.0 ≡ known nothing nothing) × (vec_len l.all ≡ l.number)
    × (l.readers ≤ vec_capacity l.all) × All (IsNewReader l.table.shared.table_id) l.all.items
