-- How the logic stores rules.
use Rattle.std.specs.Prelude.{◌≡◌, ℕ, ◌==◌, cond, refl}
use Rattle.std.specs.Coded.{Coded, code_by, coded_ℕ}
use Rattle.ec_loads.specs.Line.{Rules, slots_alone, turned_time, strong}

abbrev number : Rules → ℕ
number slots_alone = 0
number turned_time = 1
number strong = 2

abbrev rules_at : ℕ → Rules
rules_at n = cond (n == 0) slots_alone (cond (n == 1) turned_time strong)

pub number_back : (r : Rules) → rules_at (number r) ≡ r
number_back slots_alone = refl
number_back turned_time = refl
number_back strong = refl

abbrev pub rules_code : Coded Rules
rules_code = code_by ℕ coded_ℕ number rules_at number_back
