use Rattle.std.proofs.Common.{map, ap, ◌∙◌, rules}
use Rattle.ec_player.proofs.TickLemmas.{after-more}
use Rattle.ec_play_trial.specs.Members.{handed_on, left}
use Rattle.ec_play_trial.specs.Trials.{tick_in}
use Rattle.ec_play_trial.proofs.TrialLemmas.{ticks_step}
use Rattle.ec_play_trial.proofs.playing.try_ticks.Goals as goal

pub loop-tick-preserved : goal.loop-tick-preserved
loop-tick-preserved c =
    let us = c.args.units.now in
    let m = c.args.mapping.now in
    let inv = c.loop-tick.invariant in
    record {
      count = search rules;
      ticks = ap (map tick_in) c.in_ok-push.ensures.items
          ∙ ticks_step us m c.args.image.now c.args.line.now c.loop-tick.line c.loop-tick.tried.items c.in_ok-one.one c.loop-tick.tick inv.line inv.ticks c.in_ok-one.ensures.tick;
      line = after-more handed_on left us m c.args.image.now c.args.line.now c.loop-tick.line c.try_tick.new.line c.loop-tick.tick inv.line c.in_ok-one.ensures.line;
    }
