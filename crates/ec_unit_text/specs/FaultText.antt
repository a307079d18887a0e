-- How a key and a place are printed.
use Rattle.std.specs.Prelude.{ℕ, Bool, true, false, List, ◌++◌, Option, Some, None, codes}
use Rattle.std.specs.Fmt.{decimal}
use Rattle.ec_unit_text.specs.declared.fault.Key.{Key}
use Rattle.ec_unit_text.specs.declared.fault.Key.TheVariants as key
use Rattle.ec_unit_text.specs.declared.fault.Spot.{Spot}

-- a key as it stands in a text
unfoldable pub key_text : Key → List ℕ
key_text key.TickNs = codes "tick_ns"
key_text key.Slots = codes "slots"
key_text key.Unit = codes "unit"
key_text key.Name = codes "name"
key_text key.Period = codes "period"
key_text key.Slave = codes "slave"
key_text key.Phase = codes "phase"
key_text key.Slot = codes "slot"
key_text key.Station = codes "station"
key_text key.OutBytes = codes "out_bytes"
key_text key.InBytes = codes "in_bytes"
key_text (key.Area false) = codes "out_at"
key_text (key.Area true) = codes "in_at"

-- a key that its table has to hold
abbrev pub is_needed : Key → Bool
is_needed key.TickNs = true
is_needed key.Slots = true
is_needed key.Unit = false
is_needed key.Name = true
is_needed key.Period = true
is_needed key.Slave = false
is_needed key.Phase = false
is_needed key.Slot = false
is_needed key.Station = true
is_needed key.OutBytes = true
is_needed key.InBytes = true
is_needed (key.Area b) = false

-- a number, or `-` for none
abbrev pub index_text : Option ℕ → List ℕ
index_text None = codes "-"
index_text (Some n) = decimal n

-- a place: the number of the unit and that of the slave
abbrev pub spot_text : Spot → List ℕ
spot_text s = index_text s.unit ++ (codes " " ++ index_text s.slave)
