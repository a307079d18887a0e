use Rattle.std.proofs.Common.{◌≡◌, ◌++◌, map, drop}
use Rattle.toml.specs.View.{items_view, table_view}
use Rattle.ec_unit_text.specs.AtKey.{tables_in}
use Rattle.ec_unit_text.specs.Fits.{UnitsFit}
use Rattle.ec_units.specs.Views.{unit_view}
use Rattle.ec_unit_text.specs.Said.{unit_of}
use Rattle.ec_unit_text.proofs.build.units_of.Given as goal

abbrev pub invariant-loop-value : goal.invariant-loop-value
invariant-loop-value l = record {
  fit : UnitsFit (table_view l.top) (items_view (drop l.value-index l.values));
  said : map unit_view l.units.items ++ map unit_of (tables_in (items_view (drop l.value-index l.values))) ≡ map unit_of (tables_in (items_view l.values));
}
