use Rattle.ec_loads.specs.Rooms.{MergeHolds}
use Rattle.ec_checker.proofs.FoundLemmas.{same_test, merge_from, merge_to}
use Rattle.ec_checker.proofs.leaf.slots_merge.Goals as goal

pub returns : goal.returns
returns c = let held = c.args.loads.now in same_test _ _ (MergeHolds c.args.value held.places) c.merge_bound.ensures (merge_from c.args.value held.places) (merge_to c.args.value held.places)
