use Rattle.std.proofs.Common.{◌++◌, map, ap}
use Rattle.toml.specs.View.{items_view, table_view}
use Rattle.ec_units.specs.Views.{unit_view}
use Rattle.ec_unit_text.specs.AtKey.{tables_in}
use Rattle.ec_unit_text.specs.Said.{unit_of}
use Rattle.ec_unit_text.proofs.Tabled.{said_all, said_more, units_fit-parts}
use Rattle.ec_unit_text.proofs.build.units_of.Goals as goal

pub loop-value-init : goal.loop-value-init
loop-value-init c = record {
  fit = c.requires;
  said = ap (λ l. map unit_view l ++ map unit_of (tables_in (items_view c.args.values.now))) c.new-units.ensures.items;
}

pub unit_of_item-requires : goal.unit_of_item-requires
unit_of_item-requires c = (units_fit-parts (table_view c.args.top.now) c.args.values.now c.loop-value.value-index c.value-item.result c.loop-value-test.true c.value-item.is c.loop-value.invariant.fit).0

pub loop-value-preserved : goal.loop-value-preserved
loop-value-preserved c = record {
  fit = (units_fit-parts (table_view c.args.top.now) c.args.values.now c.loop-value.value-index c.value-item.result c.loop-value-test.true c.value-item.is c.loop-value.invariant.fit).1;
  said = said_more unit_of unit_view c.loop-value.units.items _ c.in_ok-unit_of_item.field-0 c.args.values.now c.loop-value.value-index c.value-item.result _
      c.in_ok-push.ensures.items c.loop-value-test.true c.value-item.is c.in_ok-unit_of_item.ensures c.loop-value.invariant.said;
}

pub returns : goal.returns
returns c =
    said_all unit_of (map unit_view c.loop-value.units.items) c.args.values.now c.loop-value.value-index _ c.loop-value-test.false c.loop-value.invariant.said
