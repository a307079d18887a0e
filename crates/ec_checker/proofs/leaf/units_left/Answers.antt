use Rattle.ec_loads.specs.Rooms.{CountHolds}
use Rattle.ec_checker.proofs.FoundLemmas.{same_test, count_from, count_to}
use Rattle.ec_checker.proofs.leaf.units_left.Goals as goal

pub returns : goal.returns
returns c =
    let held = c.args.loads.now in
    same_test _ _ (CountHolds held.loads held.slots c.args.value held.places c.args.period c.args.bytes) (c.count_bound.ensures c.requires)
    (count_from held.loads held.slots c.args.value held.places c.args.period c.args.bytes) (count_to held.loads held.slots c.args.value held.places c.args.period c.args.bytes)
