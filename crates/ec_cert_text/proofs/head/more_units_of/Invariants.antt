use Rattle.std.proofs.Common.{◌≡◌, ◌-◌, ◌+◌, length}
use Rattle.ec_cert_text.specs.Reading.{with_front, units_from}
use Rattle.ec_cert_text.specs.Views.{at_view}
use Rattle.ec_cert_text.proofs.head.more_units_of.Given as goal

abbrev pub invariant-units : goal.invariant-units
invariant-units l = record {
  read : with_front l.units.items (units_from (l.more - l.counter) (at_view l.rest)) ≡ with_front l.initial.units.items (units_from l.more (at_view l.place));
  count : length l.units.items ≡ 1 + l.counter;
}
