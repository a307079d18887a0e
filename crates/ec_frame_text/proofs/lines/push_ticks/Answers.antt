use Rattle.std.proofs.Common.{◌++◌, rules, sym, ap, ◌∙◌}
use Rattle.ec_frame_text.specs.Lines.{tick_lines}
use Rattle.ec_frame_text.proofs.LineLemmas.{range_step}
use Rattle.ec_frame_text.proofs.lines.push_ticks.Goals as goal

pub loop-tick-preserved : goal.loop-tick-preserved
loop-tick-preserved c = rw (range_step (tick_lines c.args.mapping.now c.args.units.now.slots)) (search rules)
