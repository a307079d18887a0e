-- Phases that the first unit of an order can have.
use Rattle.std.specs.Prelude.{ℕ, ◌<◌, min}
use Rattle.ec_symmetry.specs.declared.rules.Rules.{Rules}
use Rattle.ec_symmetry.specs.declared.rules.Rules.TheVariants as code

-- a first unit of this period can have this phase: each below it, and where time is turned 0 alone; by the strong rules this isn't said
abbrev pub IsFirstPhase : Rules → ℕ → ℕ → Type 0
IsFirstPhase code.Plain period phase = phase < period
IsFirstPhase code.Turned period phase = phase < min period 1
IsFirstPhase code.Strong period phase = ⊥
