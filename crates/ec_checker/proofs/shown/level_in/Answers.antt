use Rattle.std.proofs.Common.{length, sym, subst}
use Rattle.std.proofs.lemmas.List.{length-map}
use Rattle.ec_units.specs.Load.{load_of, loads_of}
use Rattle.ec_loads.specs.Held.{Held}
use Rattle.ec_bounds.proofs.HeldLemmas.{empty_rest}
use Rattle.ec_cert.specs.IsBestPlan.{value_of}
use Rattle.ec_cert.specs.Shapes.{shape_of}
use Rattle.ec_symmetry.specs.Ruled.{line_rules}
use Rattle.ec_checker.specs.Judged.{IsReady}
use Rattle.ec_checker.specs.Levels.{AreIn}
use Rattle.ec_checker.proofs.BelowLemmas.{slots-none}
use Rattle.ec_checker.proofs.HeadLemmas.{order_ready}
use Rattle.ec_checker.proofs.LevelLemmas.{greatest_from}
use Rattle.ec_checker.proofs.shown.level_in.Goals as goal

pub lowered-requires-clause-ready : goal.lowered-requires-clause-ready
lowered-requires-clause-ready c =
    let us = c.args.units.now.units in
    subst (λ (h : Held). IsReady h.places c.args.order.now) (sym c.requires.loads) (order_ready (loads_of us) (length us) c.args.order.now (sym (length-map us load_of)) c.requires.order)

pub lowered-requires-clause-left : goal.lowered-requires-clause-left
lowered-requires-clause-left c = empty_rest (loads_of c.args.units.now.units) c.args.units.now.slots c.args.loads.now c.all-rest.result c.requires.loads c.all-rest.ensures

pub lowered-requires-clause-slots : goal.lowered-requires-clause-slots
lowered-requires-clause-slots c = subst (λ (h : Held). AreIn h.slots h.loads h.places) (sym c.requires.loads) (slots-none c.args.units.now.slots (loads_of c.args.units.now.units))

pub returns-clause-level : goal.returns-clause-level
returns-clause-level c =
    greatest_from (line_rules c.args.rules) (loads_of c.args.units.now.units) c.args.units.now.slots c.args.loads.now (value_of c.args.best.now) (shape_of c.args.tree.now) c.args.order.now c.most_level.result c.lowered.result
    c.requires.loads c.requires.partial c.most_level.ensures c.lowered.ensures.lowered
