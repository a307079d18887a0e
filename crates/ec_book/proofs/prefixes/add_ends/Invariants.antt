use Rattle.std.proofs.Common.{◌≡◌, ◌++◌, map, take, vec_capacity}
use Rattle.ec_book.specs.Prefixes.{moved}
use Rattle.ec_book.proofs.prefixes.add_ends.Given as goal

abbrev pub invariant-loop-end : goal.invariant-loop-end
invariant-loop-end l = (l.ends.items ≡ l.initial.ends.items ++ map (moved l.base) (take l.end-index l.others)) × (vec_capacity l.ends ≡ vec_capacity l.initial.ends)
