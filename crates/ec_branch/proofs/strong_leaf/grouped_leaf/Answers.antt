use Rattle.std.proofs.Common.{◌≡◌, ◌≤◌, All, length, subst, rules}
use Rattle.ec_loads.specs.Rooms.{GroupsHold}
use Rattle.ec_loads.specs.Search.{IsShortPair}
use Rattle.ec_branch.proofs.RoomLeafLemmas.{groups_leaf}
use Rattle.ec_branch.proofs.strong_leaf.grouped_leaf.Goals as goal

pub returns-then-groups_bound_at : goal.returns-then-groups_bound_at
returns-then-groups_bound_at c =
    let h = c.args.loads.now in
    let held = c.in_ok-held.held in
    let same : c.as_slice.result.now ≡ held = search rules in
    let holds : GroupsHold h.loads h.slots c.args.value h.places held =
    subst (GroupsHold h.loads h.slots c.args.value h.places) same (c.groups_bound_at.ensures.holds c.requires.left c.if-groups_bound_at.true) in
    let some : 1 ≤ length held = search rules in
    let few : length held ≤ 48 = search rules in
    let short : All IsShortPair held = search rules in
    groups_leaf h c.args.value held holds some few short
