use Rattle.std.proofs.Common.{◌∙◌, map, ap, arith, length-set}
use Rattle.toml.specs.Data.{as_table}
use Rattle.toml.specs.View.{view}
use Rattle.ec_unit_text.specs.AtKey.{table_list}
use Rattle.ec_unit_text.specs.UnitText.{period_at}
use Rattle.ec_unit_text.proofs.Beside.{periods_more, ranges_more, periods_fit-drop}
use Rattle.ec_unit_text.proofs.walk.is_too_long.Goals as goal

pub loop-index-preserved : goal.loop-index-preserved
loop-index-preserved c =
    record {
      room = simp length-set c.loop-index.invariant.room;
      fit = periods_fit-drop c.args.units.now c.loop-index.index c.index-units-index.result (omega arith) c.loop-index.invariant.fit;
      in_range = ranges_more c.loop-index.periods c.loop-index.index c.period_of.result (omega arith) c.loop-index.invariant.in_range c.period_of.ensures.range;
      copied = periods_more c.args.units.now c.loop-index.periods c.loop-index.index c.period_of.result c.index-units-index.result (omega arith) (omega arith) c.loop-index.invariant.copied
          (c.period_of.ensures.value ∙ ap (λ v. map period_at (table_list (as_table (view v)))) c.index-units-index.is);
    }
