use Rattle.std.proofs.Common.{◌≡◌, take}
use Rattle.ec_cli_run.proofs.older.are_same.Given as goal

abbrev pub invariant-loop-i : goal.invariant-loop-i
invariant-loop-i l = take l.i l.these ≡ take l.i l.those
