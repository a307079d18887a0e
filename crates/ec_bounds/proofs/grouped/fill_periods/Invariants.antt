use Rattle.std.proofs.Common.{◌≡◌, ◌-◌, ◌<◌, ◌++◌, take, filter, length}
use Rattle.std.specs.List.{list_any, range_with_len}
use Rattle.ec_loads.specs.Rooms.{has_period, periods_in}
use Rattle.ec_bounds.proofs.grouped.fill_periods.Given as goal

abbrev pub invariant-loop-period : goal.invariant-loop-period
invariant-loop-period l =
    record {
      room : length l.table ≡ 60;
      count : l.count < l.period;
      found : take l.count l.table ++ filter (λ p. list_any (has_period p) l.left) (range_with_len l.period (61 - l.period)) ≡ periods_in l.left;
    }
