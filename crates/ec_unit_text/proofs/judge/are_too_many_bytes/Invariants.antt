use Rattle.std.proofs.Common.{◌≡◌, ◌+◌, ◌≤◌, drop}
use Rattle.toml.specs.View.{items_view}
use Rattle.ec_unit_text.specs.UnitText.{bytes_in}
use Rattle.ec_unit_text.proofs.judge.are_too_many_bytes.Given as goal

abbrev pub invariant-loop-slave : goal.invariant-loop-slave
invariant-loop-slave l = record {
  few : l.bytes ≤ 1486;
  counted : l.bytes + bytes_in (items_view (drop l.slave-index l.slaves)) ≡ bytes_in (items_view l.slaves);
}
