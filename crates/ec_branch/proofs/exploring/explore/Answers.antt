use Rattle.std.proofs.Common.{IfOk, subst, length, drop}
use Rattle.ec_loads.specs.Held.{Held}
use Rattle.ec_loads.specs.Line.{line_of}
use Rattle.ec_loads.specs.Search.{IsPartialTree}
use Rattle.ec_cert.specs.Shapes.{shape_of}
use Rattle.ec_symmetry.specs.Orders.{prefix_of}
use Rattle.ec_symmetry.specs.Ruled.{line_rules}
use Rattle.ec_branch.specs.Frames.{IsFair}
use Rattle.ec_branch.proofs.exploring.explore.Goals as goal

pub returns-clause-least : goal.returns-clause-least
returns-clause-least g c =
    let ground = c.in_ok-ground.ensures in
    subst (λ (w : Held). IfOk c.explore_in.result (λ sub. IsFair (g.G.Guide.frame c.args.guide.now).floor w.loads w.slots sub.threshold))
    (λ j. record { loads = ground.loads j; slots = ground.slots j; places = c.in_ok-ground.ground.loads.places }) c.explore_in.ensures.least

pub returns-clause-partial : goal.returns-clause-partial
returns-clause-partial g c =
    let ground = c.in_ok-ground.ensures in
    subst (λ (w : Held). IfOk c.explore_in.result (λ sub. IsPartialTree (line_of (line_rules c.args.rules) w) sub.threshold (shape_of sub.tree) (prefix_of w.loads c.args.order.now c.args.prefix.now) (drop (length c.args.prefix.now) c.args.order.now)))
    (λ j. record { loads = ground.loads j; slots = ground.slots j; places = c.in_ok-ground.ground.loads.places }) c.explore_in.ensures.partial
