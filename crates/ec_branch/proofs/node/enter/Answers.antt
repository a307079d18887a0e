use Rattle.std.proofs.Common.{◌≡◌, ◌+◌, ◌-◌, ◌∷◌, true, false, None, refl, ap, sym, ◌∙◌, arith}
use Rattle.std.proofs.lemmas.Option.{slice_get_within}
use Rattle.ec_loads.specs.Line.{line_of}
use Rattle.ec_symmetry.specs.Ruled.{line_rules}
use Rattle.ec_branch.specs.Stacks.{state_of}
use Rattle.ec_branch.proofs.LeafLemmas.{at_none}
use Rattle.ec_branch.proofs.KnownLemmas.{follows_found}
use Rattle.ec_branch.proofs.StackLemmas.{under_first}
use Rattle.ec_branch.proofs.WalkLemmas.{ready_at, none_left, found_walked}
use Rattle.ec_branch.proofs.node.enter.Goals as goal

pub returns-in-None-clause-entered : goal.returns-in-None-clause-entered
returns-in-None-clause-entered g c =
    λ from asked.
    let h = c.args.loads.now in
    let frame = g.G.Guide.frame c.args.guide.now in
    let still = at_none _ c.in_ok-leaf.field-0 c.in_default.not-Some c.in_ok-leaf.ensures in
    record {
      walked =
          found_walked (line_rules c.args.rules) frame h frame.floor c.args.order.now c.in_ok-plan-in-None.plan.places from.value c.args.search.now.value from.left (c.args.search.now.left - 1) (g.G.Guide.halted c.found.new.self)
          c.top_of-cost.result.0 c.in-Some-found.value c.top_of-cost.result.1
          c.requires.units c.requires.slots refl
          c.requires.ready (none_left c.args.order.now c.in-None.ensures.cases) c.in_ok-plan-in-None.ensures still.0 c.top_of-cost.ensures.busiest c.top_of-cost.ensures.short still.1
          (let some = asked.some in let left = asked.left in omega (arith, some, left)) asked.low (c.found.ensures.value _ c.in-Some-found.is);
      follows =
          follows_found h from.left from.halted from.value from.known c.args.search.now.value (g.G.Guide.known c.args.guide.now) (g.G.Guide.known c.found.new.self)
          c.top_of-cost.result.0 c.in-Some-found.value c.top_of-cost.result.1 asked.falls asked.under c.top_of-cost.ensures.busiest still.1
          (c.found.ensures.value _ c.in-Some-found.is).0 (c.found.ensures.known _ c.in-Some-found.is);
      stays = λ k. absurd (let no : true ≡ false = sym k ∙ asked.runs in cc);
    }

pub children_after_last-places-requires-clause-unit : goal.children_after_last-places-requires-clause-unit
children_after_last-places-requires-clause-unit g c =
    let h = c.args.loads.now in
    let u = c.from-unit.result in
    let ready = ready_at h.loads h.slots h.places c.args.order.now c.in-Some-split_first.field-0-1.now c.in-Some-split_first.unit.now u c.requires.ready c.in-Some-split_first.ensures.cases.0 c.from-unit.ensures in
    slice_get_within h.places u None ready.0

pub returns-clause-entered : goal.returns-clause-entered
returns-clause-entered g c =
    λ from asked.
    let h = c.args.loads.now in
    let u = c.from-unit.result in
    let later = c.in-Some-split_first.field-0-1.now in
    let made = c.in_ok-trees-in-Some-split_first in
    let now = state_of c.args.search.now (g.G.Guide.halted c.args.guide.now) (g.G.Guide.known c.args.guide.now) in
    let left : c.args.search.now.left - 1 + 1 ≡ c.args.search.now.left = let some = asked.some in let is = asked.left in omega (arith, some, is) in
    record {
      later = later;
      next = c.in-Some-split_first.ensures.cases.0 ∙ ap (λ w. w ∷ later) (sym c.from-unit.ensures);
      places = c.children_after_last-places.ensures;
      under = under_first (line_of (line_rules c.args.rules) h) (g.G.Guide.frame c.args.guide.now).floor h.places u later from now (c.args.search.now.left - 1) made.trees.items asked left made.ensures.items;
      none = made.ensures.items;
      room = omega (arith, made.ensures.exact, c.len.ensures.value);
      short = omega (arith, c.len.ensures.value, c.len.type_inv);
      spent = left ∙ asked.left;
    }
