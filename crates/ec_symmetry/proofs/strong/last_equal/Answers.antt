use Rattle.std.proofs.Common.{◌∙◌, None, length, sym, ap, get_or}
use Rattle.ec_loads.specs.Strong.{same_load}
use Rattle.ec_loads.specs.Search.{nobody}
use Rattle.ec_symmetry.proofs.LastLemmas.{last-named}
use Rattle.ec_symmetry.proofs.strong.last_equal.Goals as goal

pub returns-then-is_equal : goal.returns-then-is_equal
returns-then-is_equal c =
    let held = c.args.loads.now in
    let u = c.in_ok-unit.unit in
    last-named held.loads held.slots held.places c.args.last u c.in_ok-place.place c.args.load (ap length (sym c.places.ensures.value) ∙ c.places.ensures.each) c.in_ok-unit.was c.requires
    (ap (λ ps. get_or ps u None) (sym c.places.ensures.value) ∙ c.in_ok-place.was)
    (ap (λ ls. same_load (get_or ls u nobody) c.args.load) (sym c.loads-all.ensures.value) ∙ sym c.is_equal.ensures ∙ c.if-is_equal.true)
