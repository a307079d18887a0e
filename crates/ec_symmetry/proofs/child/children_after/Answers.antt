use Rattle.std.proofs.Common.{◌≡◌, ◌∙◌, ◌<◌, ◌≤◌, ◌==◌, ◌&&◌, if◌then◌else◌, length, get_or, ap, arith}
use Rattle.std.proofs.lemmas.Grind.{common_steps}
use Rattle.std.proofs.lemmas.List.Elements.{All-get_or}
use Rattle.ec_units.specs.declared.unit.Load.{Load}
use Rattle.ec_loads.specs.Line.{rules_if, line_of}
use Rattle.ec_loads.specs.Search.{nobody, places_for, different_numbers, children}
use Rattle.ec_symmetry.specs.Orders.{prefix_of}
use Rattle.ec_symmetry.proofs.PrefixLemmas.{children-after}
use Rattle.ec_symmetry.proofs.SlotLemmas.{slots_of}
use Rattle.ec_symmetry.proofs.child.children_after.Goals as goal

pub returns : goal.returns
returns c =
    let held = c.args.loads.now in
    let order = c.args.order.now in
    let before = c.args.before.now in
    let turned = c.args.turned in
    let u = c.from-unit.result in
    let k = different_numbers (slots_of before) in
    let next : u ≡ get_or order (length before) 0 = c.from-unit.ensures in
    let within : u < length held.loads = omega arith in
    let range = All-get_or (λ (x : Load). (1 ≤ x.period) × (x.period ≤ 60) × (x.bytes ≤ 1486)) held.loads u nobody within c.loads.ensures.units in
    let step : c.places_after.result ≡ places_for (if turned && (k == 0) then 1 else (get_or held.loads u nobody).period) held.slots k = grind (arith, common_steps) in
    step
    ∙ children-after turned held.loads held.slots order u before range.0 c.requires.order (omega (arith, c.requires.few))
    ∙ ap (children (line_of (rules_if turned) held) (prefix_of held.loads order before)) next
