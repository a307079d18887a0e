use Rattle.std.proofs.Common.{◌≡◌, ◌++◌, length}
use Rattle.ec_cert_text.specs.Reading.{pairs_of}
use Rattle.ec_cert_text.proofs.groups.pairs_of.Given as goal

abbrev pub invariant-loop-rest : goal.invariant-loop-rest
invariant-loop-rest l = l.pairs.items ++ pairs_of l.rest ≡ pairs_of l.numbers

abbrev pub decreases-loop-rest : goal.decreases-loop-rest
decreases-loop-rest l = length l.rest
