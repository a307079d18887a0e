use Rattle.std.proofs.Common.{rules, sym}
use Rattle.ec_unit_text.proofs.Beside.{has_other_key-any}
use Rattle.ec_unit_text.proofs.table.has_other_key.Goals as goal

pub loop-key-init : goal.loop-key-init
loop-key-init c = rw (c.into_iter-key-iterator.ensures.into_iter_gives, c.keys-key-items.ensures.rest) (sym (has_other_key-any c.args.keys.now c.args.table.now.entries))

pub loop-key-preserved : goal.loop-key-preserved
loop-key-preserved c = search rules
