use Rattle.std.proofs.Common.{◌≡◌, ◌∙◌, take, length, ap, arith}
use Rattle.ec_loads.specs.Search.{children}
use Rattle.ec_loads.specs.Strong.{strong_children}
use Rattle.ec_symmetry.specs.Orders.{with_places, prefix_of}
use Rattle.ec_symmetry.proofs.PrefixLemmas.{no_places-head}
use Rattle.ec_symmetry.proofs.strong.strong_after.Goals as goal

pub returns : goal.returns
unfolding children
returns c =
    let held = c.args.loads.now in
    let order = c.args.order.now in
    let before = c.args.before.now in
    let count : length c.loads-units.result.now ≡ length held.loads = ap length c.loads-units.ensures.value in
    let table : take (length c.loads-units.result.now) c.fill_prefix.new.table ≡ prefix_of held.loads order before =
    c.fill_prefix.ensures ∙ ap (λ ps. with_places ps order before) (rw count (no_places-head held.loads 48 (omega (arith, count, c.loads-units.ensures.few)))) in
    c.strong_among.ensures
    ∙ (λ i. strong_children held.loads held.slots (table i) (c.from-unit.ensures i))
