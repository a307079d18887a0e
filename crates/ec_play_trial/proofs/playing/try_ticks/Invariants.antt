use Rattle.std.proofs.Common.{◌≡◌, length, map}
use Rattle.ec_player.specs.Sent.{ticks_sents}
use Rattle.ec_player.specs.Lines.{slaves_after}
use Rattle.ec_play_trial.specs.Members.{handed_on, left}
use Rattle.ec_play_trial.specs.Trials.{tick_in, ticks_of}
use Rattle.ec_play_trial.proofs.playing.try_ticks.Given as goal

abbrev pub invariant-loop-tick : goal.invariant-loop-tick
invariant-loop-tick l =
    record {
      count : length l.tried.items ≡ l.tick;
      ticks : map tick_in l.tried.items ≡ ticks_of l.units l.mapping l.image l.fn.line l.tick;
      line : l.line ≡ slaves_after handed_on left l.fn.line (ticks_sents l.units l.mapping l.image l.tick);
    }
