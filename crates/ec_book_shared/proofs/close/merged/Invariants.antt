use Rattle.std.proofs.Common.{◌≡◌, sum, map, length}
use Rattle.ec_book_shared.proofs.close.merged.Given as goal

abbrev pub invariant-loop-seat : goal.invariant-loop-seat
invariant-loop-seat g l = (l.all.parts ≡ length l.yielded) × (l.all.amount ≡ sum (map (λ s. s.nodes) l.yielded))
