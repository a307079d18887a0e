-- The plan that a search opens with.
use Rattle.std.specs.Prelude.{ℕ, List, Option, IsSomeAnd, MatchOption}
use Rattle.ec_units.specs.declared.slave.Place.{Place}
use Rattle.ec_units.specs.declared.unit.Load.{Load}
use Rattle.ec_loads.specs.declared.plan.Plan.{Plan}
use Rattle.ec_symmetry.specs.declared.rules.Rules.{Rules as CodeRules}
use Rattle.ec_symmetry.specs.declared.rules.Rules.TheVariants as code
use Rattle.ec_branch.specs.FirstPlans.{IsNoDearer}
use Rattle.ec_branch.specs.Greedy.{IsGreedyPlan, HasNoGreedyPlan}

-- the greedy plan, if there is one
abbrev pub IsGreedyOrNone : List Load → ℕ → Option Plan → Type 0
IsGreedyOrNone loads n r = MatchOption r (HasNoGreedyPlan loads n) (λ plan. IsGreedyPlan loads n plan.places)

-- by the strong rules a plan wherever there is a greedy one, and none that is dearer than that; by other rules the greedy plan
abbrev pub IsOpening : CodeRules → List Load → ℕ → Option Plan → Type 0
IsOpening code.Plain loads n r = IsGreedyOrNone loads n r
IsOpening code.Turned loads n r = IsGreedyOrNone loads n r
IsOpening code.Strong loads n r = (plan : List Place) → IsGreedyPlan loads n plan → IsSomeAnd r (λ first. IsNoDearer loads n first.places plan)
