use Rattle.std.proofs.Common.{◌≡◌, ◌≤◌, take}
use Rattle.ec_book.specs.Steps.{live_count}
use Rattle.ec_book.proofs.book.count_live.Given as goal

abbrev pub invariant-loop-i : goal.invariant-loop-i
invariant-loop-i l = record { so_far : l.count ≡ live_count (take l.i l.pieces); small : l.count ≤ l.i }
