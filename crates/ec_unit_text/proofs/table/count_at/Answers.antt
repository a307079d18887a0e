use Rattle.std.proofs.Common.{◌∙◌, sym, ap}
use Rattle.ec_unit_text.specs.AtKey.{item_count}
use Rattle.ec_unit_text.proofs.Beside.{item_count-items_view}
use Rattle.ec_unit_text.proofs.table.count_at.Goals as goal

pub returns : goal.returns
returns c = sym (item_count-items_view c.values_at.result.now) ∙ ap item_count c.values_at.ensures
