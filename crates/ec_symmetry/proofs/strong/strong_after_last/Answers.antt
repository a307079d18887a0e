use Rattle.std.proofs.Common.{◌∙◌, ap}
use Rattle.ec_loads.specs.Search.{children}
use Rattle.ec_loads.specs.Strong.{strong_children}
use Rattle.ec_symmetry.proofs.strong.strong_after_last.Goals as goal

pub returns : goal.returns
unfolding children
returns c = let held = c.args.loads.now in c.strong_among.ensures ∙ ap (λ ps. strong_children held.loads held.slots ps c.args.unit) c.places.ensures.value
