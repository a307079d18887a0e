-- By which rules the trees of a version of certificates are made.
use Rattle.std.specs.Prelude.{ℕ, nat_lt, if◌then◌else◌}
use Rattle.ec_loads.specs.Line.{Rules, strong, rules_if}

-- of version 1 by slots alone, of versions 2 and 3 in turned time, of later ones by the strong rules
abbrev pub rules_of : ℕ → Rules
rules_of version = if nat_lt 3 version then strong else rules_if (nat_lt 1 version)
