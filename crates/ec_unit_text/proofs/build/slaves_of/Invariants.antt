use Rattle.std.proofs.Common.{◌≡◌, ◌++◌, map, drop}
use Rattle.toml.specs.View.{items_view}
use Rattle.ec_unit_text.specs.AtKey.{tables_in}
use Rattle.ec_unit_text.specs.Fits.{SlavesFit}
use Rattle.ec_units.specs.Views.{slave_view}
use Rattle.ec_unit_text.specs.Said.{slave_of}
use Rattle.ec_unit_text.proofs.build.slaves_of.Given as goal

abbrev pub invariant-loop-value : goal.invariant-loop-value
invariant-loop-value l = record {
  fit : SlavesFit (items_view (drop l.value-index l.values));
  said : map slave_view l.slaves.items ++ map slave_of (tables_in (items_view (drop l.value-index l.values))) ≡ map slave_of (tables_in (items_view l.values));
}
