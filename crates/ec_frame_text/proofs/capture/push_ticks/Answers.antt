use Rattle.std.proofs.Common.{rules}
use Rattle.ec_units.specs.Views.{units_view}
use Rattle.ec_frame_text.specs.Captures.{tick_records}
use Rattle.ec_frame_text.proofs.LineLemmas.{range_step}
use Rattle.ec_frame_text.proofs.capture.push_ticks.Goals as goal

pub loop-tick-preserved : goal.loop-tick-preserved
loop-tick-preserved c = rw (range_step (tick_records (units_view c.args.units.now) c.args.mapping.now)) (search rules)
