use Rattle.std.proofs.Common.{◌++◌, map, ap}
use Rattle.std.proofs.lemmas.Result.{IfOk-from_err}
use Rattle.toml.specs.View.{items_view}
use Rattle.ec_units.specs.Views.{slave_view}
use Rattle.ec_unit_text.specs.AtKey.{tables_in}
use Rattle.ec_unit_text.specs.Said.{slave_of}
use Rattle.ec_unit_text.proofs.Tabled.{said_all, said_more, slaves_fit-parts, slave_count, slave_bytes}
use Rattle.ec_unit_text.proofs.build.slaves_of.Goals as goal

pub loop-value-init : goal.loop-value-init
loop-value-init c = record {
  fit = c.requires;
  said = ap (λ l. map slave_view l ++ map slave_of (tables_in (items_view c.args.values.now))) c.new-slaves.ensures.items;
}

pub slave_of_item-requires : goal.slave_of_item-requires
slave_of_item-requires c = (slaves_fit-parts c.args.values.now c.loop-value.value-index c.value-item.result c.loop-value-test.true c.value-item.is c.loop-value.invariant.fit).0

pub loop-value-preserved : goal.loop-value-preserved
loop-value-preserved c = record {
  fit = (slaves_fit-parts c.args.values.now c.loop-value.value-index c.value-item.result c.loop-value-test.true c.value-item.is c.loop-value.invariant.fit).1;
  said = said_more slave_of slave_view c.loop-value.slaves.items _ c.slave_of_item.result c.args.values.now c.loop-value.value-index c.value-item.result _
      c.in_ok-push.ensures.items c.loop-value-test.true c.value-item.is c.slave_of_item.ensures c.loop-value.invariant.said;
}

pub returns-in_err-push-clause-slaves : goal.returns-in_err-push-clause-slaves
returns-in_err-push-clause-slaves c = IfOk-from_err c.from_residual.result _ c.from_residual.ensures.0

pub returns-in_err-push-clause-count : goal.returns-in_err-push-clause-count
returns-in_err-push-clause-count c = IfOk-from_err c.from_residual.result _ c.from_residual.ensures.0

pub returns-in_err-push-clause-bytes : goal.returns-in_err-push-clause-bytes
returns-in_err-push-clause-bytes c = IfOk-from_err c.from_residual.result _ c.from_residual.ensures.0

pub returns-clause-slaves : goal.returns-clause-slaves
returns-clause-slaves c =
    said_all slave_of (map slave_view c.loop-value.slaves.items) c.args.values.now c.loop-value.value-index _ c.loop-value-test.false c.loop-value.invariant.said

pub returns-clause-count : goal.returns-clause-count
returns-clause-count c =
    slave_count c.loop-value.slaves.items (items_view c.args.values.now) c.requires
    (said_all slave_of (map slave_view c.loop-value.slaves.items) c.args.values.now c.loop-value.value-index _ c.loop-value-test.false c.loop-value.invariant.said)

pub returns-clause-bytes : goal.returns-clause-bytes
returns-clause-bytes c =
    slave_bytes c.loop-value.slaves.items (items_view c.args.values.now)
    (said_all slave_of (map slave_view c.loop-value.slaves.items) c.args.values.now c.loop-value.value-index _ c.loop-value-test.false c.loop-value.invariant.said)
