use Rattle.std.proofs.Common.{◌≡◌, ◌++◌, take, string_bytes}
use Rattle.std.specs.List.{flat_map}
use Rattle.ec_play_trial.specs.Texts.{short_line}
use Rattle.ec_play_trial.proofs.text.push_shorts.Given as goal

abbrev pub invariant-loop-short : goal.invariant-loop-short
invariant-loop-short l = string_bytes l.text ≡ string_bytes l.initial.text ++ flat_map (short_line l.tick) (take l.short-index l.shorts)
