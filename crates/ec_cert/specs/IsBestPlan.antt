-- The best plan, of a certificate or of a search.
use Rattle.std.specs.Prelude.{ℕ, List, Option, Some, None}
use Rattle.ec_units.specs.declared.unit.Load.{Load}
use Rattle.ec_loads.specs.Cost.{plan_items, IsBusiest}
use Rattle.ec_loads.specs.Legal.{IsLegal}
use Rattle.ec_cert.specs.declared.cert.Best.{Best}

-- what the best plan costs, if there is one
abbrev pub value_of : Option Best → Option ℕ
value_of None = None
value_of (Some b) = Some b.busiest

-- the best plan, if there is one, is legal, and its busiest tick costs what is stated
abbrev pub IsBestPlan : List Load → ℕ → Option Best → Type 0
IsBestPlan loads n None = Unit {0}
IsBestPlan loads n (Some b) = IsLegal loads n b.plan.places × IsBusiest (plan_items loads b.plan.places) n b.busiest
