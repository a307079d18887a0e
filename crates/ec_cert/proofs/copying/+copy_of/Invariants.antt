use Rattle.std.proofs.Common.{◌≡◌, map, take}
use Rattle.ec_cert.specs.Shapes.{shape_of}
use Rattle.ec_cert.proofs.copying.+copy_of.Given as goal

abbrev pub invariant-loop-i : goal.invariant-loop-i
invariant-loop-i l = map shape_of l.copies.items ≡ map shape_of (take l.i l.trees.value.items)
