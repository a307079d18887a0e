use Rattle.std.proofs.Common.{◌≡◌, replicate}
use Rattle.ec_play_text.proofs.played.new_slaves.Given as goal

abbrev pub invariant-loop : goal.invariant-loop
invariant-loop l = l.slaves.items ≡ replicate l.counter (replicate 65536 0)
