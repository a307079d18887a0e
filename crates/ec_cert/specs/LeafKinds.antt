-- Which kinds of leaf certificates have.
use Rattle.std.specs.Prelude.{ℕ, nat_le, is_some, Option}
use Rattle.ec_cert.specs.declared.kinds.Kinds.{Kinds}

-- by weights from version 2 on; open where there is a level; merges, counts and groups from version 4 on
abbrev pub kinds_in : ℕ → Option ℕ → Kinds
kinds_in version level = record { weights = nat_le 2 version; left_open = is_some level; rooms = nat_le 4 version }
