-- What a plan writes for an outcome.
use Rattle.std.specs.Prelude.{◌≡◌, ℕ, List, ◌++◌, length, Option, Some, None, IfSome}
use Rattle.ec_units.specs.declared.slave.Place.{Place}
use Rattle.ec_units.specs.declared.unit.Unit.{Unit as SyncUnit}
use Rattle.ec_units.specs.Load.{loads_of}
use Rattle.ec_loads.specs.Line.{line_by}
use Rattle.ec_cert.specs.declared.cert.Best.{Best}
use Rattle.ec_cert.specs.IsBestPlan.{value_of}
use Rattle.ec_cert.specs.Shapes.{shape_of}
use Rattle.ec_checker.specs.Levels.{IsGreatestLevel}
use Rattle.ec_outcome.specs.declared.search.Cut.{Cut}
use Rattle.ec_outcome.specs.declared.search.Outcome.{Outcome}
use Rattle.ec_outcome.specs.declared.search.Outcome.TheVariants as outcome
use Rattle.ec_outcome.specs.Searched.{searched_by}
use Rattle.ec_cli_text.specs.Lines.{optimal_line, no_plan_line, unproved_line, cut_line, level_lines, unit_lines}
use Rattle.ec_cli_text.specs.Output.{Written, done}

abbrev pub optimal_text : List SyncUnit → List Place → ℕ → List ℕ
optimal_text units places b = optimal_line b ++ unit_lines units places

abbrev pub unproved_text : List SyncUnit → Option Best → Cut → Option ℕ → List ℕ
unproved_text units None why level = unproved_line None ++ (cut_line why ++ level_lines level)
unproved_text units (Some b) why level = unproved_line (Some b.busiest) ++ (cut_line why ++ (level_lines level ++ unit_lines units b.plan.places))

-- a search without a proof has a level, the greatest that its tree shows; with a proof there is none to tell
abbrev pub IsLevelOf : List SyncUnit → ℕ → Outcome → Option ℕ → Type 0
IsLevelOf units n (outcome.Optimal plan b cert) level = level ≡ None
IsLevelOf units n (outcome.NoPlan cert) level = level ≡ None
IsLevelOf units n (outcome.Unproved best order tree strong why) level =
    (l : ℕ) × (level ≡ Some l) × IsGreatestLevel (line_by (searched_by strong) (loads_of units) n) (value_of best) (shape_of tree) order l

-- the text of an outcome with this level for these units, and its status
abbrev pub outcome_output : List SyncUnit → Outcome → Option ℕ → Written
outcome_output units (outcome.Optimal plan b cert) level = done (optimal_text units plan.places b)
outcome_output units (outcome.NoPlan cert) level = record { text = no_plan_line; code = 1 }
outcome_output units (outcome.Unproved best order tree strong why) level = record { text = unproved_text units best why level; code = 2 }

-- a plan of an outcome has a place for each unit
abbrev pub HasPlaces : List SyncUnit → Outcome → Type 0
HasPlaces units (outcome.Optimal plan b cert) = length plan.places ≡ length units
HasPlaces units (outcome.NoPlan cert) = Unit {0}
HasPlaces units (outcome.Unproved best order tree strong why) = IfSome best (λ b. length b.plan.places ≡ length units)
