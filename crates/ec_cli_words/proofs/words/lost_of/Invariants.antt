use Rattle.std.proofs.Common.{◌≡◌, map, take}
use Rattle.ec_cli_words.specs.Trials.{number_in}
use Rattle.ec_cli_words.proofs.words.lost_of.Given as goal

abbrev pub invariant-loop-text : goal.invariant-loop-text
invariant-loop-text l = l.lost.items ≡ map number_in (map (λ s. s.now) (take l.text-index l.texts))
