use Rattle.ec_loads.specs.Rooms.{GroupsHold}
use Rattle.ec_checker.proofs.FoundLemmas.{same_test, groups_from, groups_to}
use Rattle.ec_checker.proofs.leaf.groups_left.Goals as goal

pub returns : goal.returns
returns c =
    let held = c.args.loads.now in
    same_test _ _ (GroupsHold held.loads held.slots c.args.value held.places c.args.pairs.now) (c.groups_bound.ensures c.requires)
    (groups_from held.loads held.slots c.args.value held.places c.args.pairs.now) (groups_to held.loads held.slots c.args.value held.places c.args.pairs.now)
