-- The lines of a cost, of a plan and of a check.
use Rattle.std.specs.Prelude.{ℕ, ◌*◌, Bool, List, [], ◌∷◌, ◌++◌, Option, Some, None, codes, nat_le, if◌then◌else◌}
use Rattle.std.specs.List.{flat_map, range_with_len}
use Rattle.std.specs.Fmt.{decimal}
use Rattle.ec_units.specs.declared.slave.Place.{Place}
use Rattle.ec_units.specs.declared.unit.Unit.{Unit as SyncUnit}
use Rattle.ec_outcome.specs.declared.search.Cut.{Cut}
use Rattle.ec_outcome.specs.declared.search.Cut.TheVariants as cut

abbrev pub hyperperiod_line : ℕ → List ℕ
hyperperiod_line h = codes "hyperperiod " ++ (decimal h ++ codes "\n")

-- what a tick costs in bytes, and in ns at 80 ns a byte
abbrev pub tick_line : ℕ → ℕ → List ℕ
tick_line t b = codes "tick " ++ (decimal t ++ (codes " bytes " ++ (decimal b ++ (codes " ns " ++ (decimal (80 * b) ++ codes "\n")))))

-- a line for each tick below h
abbrev pub tick_lines : (ℕ → ℕ) → ℕ → List ℕ
tick_lines cost h = flat_map (λ t. tick_line t (cost t)) (range_with_len 0 h)

abbrev pub busiest_line : ℕ → ℕ → List ℕ
busiest_line top at = codes "busiest " ++ (decimal top ++ (codes " at " ++ (decimal at ++ codes "\n")))

abbrev pub yes_or_no : Bool → List ℕ
yes_or_no b = if b then codes "yes" else codes "no"

-- whether the busiest tick fits into the tick length
abbrev pub fits_line : ℕ → ℕ → List ℕ
fits_line top tick_ns = codes "fits " ++ (yes_or_no (nat_le (80 * top) tick_ns) ++ codes "\n")

-- the whole text, for h ticks of these costs with the busiest one
abbrev pub cost_lines : (ℕ → ℕ) → ℕ → ℕ → ℕ → ℕ → List ℕ
cost_lines cost h top at tick_ns = hyperperiod_line h ++ tick_lines cost h ++ busiest_line top at ++ fits_line top tick_ns

-- the line of a certificate that shows a plan of this cost least, and of one that shows that there is none
abbrev pub least_line : ℕ → List ℕ
least_line b = codes "least " ++ (decimal b ++ codes "\n")

-- the line of a certificate whose tree shows this level, in wire bytes
abbrev pub level_line : ℕ → List ℕ
level_line level = codes "at least " ++ (decimal level ++ codes "\n")

abbrev pub no_plan_line : List ℕ
no_plan_line = codes "no plan\n"

-- the line of a plan that is proved best, and of one that isn't, if there is one
abbrev pub optimal_line : ℕ → List ℕ
optimal_line b = codes "optimal " ++ (decimal b ++ codes "\n")

abbrev pub unproved_line : Option ℕ → List ℕ
unproved_line None = codes "unproved none\n"
unproved_line (Some b) = codes "unproved " ++ (decimal b ++ codes "\n")

-- why a search ended without a proof
abbrev pub cut_text : Cut → List ℕ
cut_text cut.Journal = codes "journal"
cut_text cut.Budget = codes "budget"
cut_text cut.Memory = codes "memory"
cut_text cut.Time = codes "time"
cut_text cut.Parts = codes "parts"

abbrev pub cut_line : Cut → List ℕ
cut_line why = codes "cut " ++ (cut_text why ++ codes "\n")

-- what a search without a proof has proved, if its level is known
abbrev pub level_lines : Option ℕ → List ℕ
level_lines None = []
level_lines (Some level) = level_line level

-- where a unit is placed
abbrev pub unit_line : List ℕ → Place → List ℕ
unit_line name p = codes "unit " ++ (name ++ (codes " phase " ++ (decimal p.phase ++ (codes " slot " ++ (decimal p.slot ++ codes "\n")))))

-- a line for each unit at its place
abbrev pub unit_lines : List SyncUnit → List Place → List ℕ
unit_lines (u ∷ us) (p ∷ ps) = unit_line u.name p ++ unit_lines us ps
unit_lines us ps = []
