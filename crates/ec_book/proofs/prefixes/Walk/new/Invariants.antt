use Rattle.std.proofs.Common.{◌≡◌, [], take}
use Rattle.ec_book.specs.Prefixes.{walk_view}
use Rattle.ec_book.proofs.prefixes.Walk.new.Given as goal

abbrev pub invariant-loop-place : goal.invariant-loop-place
invariant-loop-place l = l.walk ≡ walk_view (take l.place-index l.places) []
