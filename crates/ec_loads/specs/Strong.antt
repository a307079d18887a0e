-- The children of a prefix by the strong rules: fewer places for the next unit than each phase and each slot.
-- A phase is left out where a shift of time leads to a lower one and leaves the units that have a place; a place is left out where an equal unit has
-- one above it.
use Rattle.std.specs.Prelude.{ℕ, zero, suc, ◌%◌, ◌==◌, ◌&&◌, ◌||◌, not, nat_lt, Bool, false, if◌then◌else◌, List, [], ◌∷◌, filter, get_or, Some, None}
use Rattle.ec_hyper.specs.Lcm.{lcm_of}
use Rattle.ec_units.specs.declared.slave.Place.{Place}
use Rattle.ec_units.specs.declared.unit.Load.{Load}
use Rattle.ec_loads.specs.Prefix.{Prefix, nobody, used, places_for}

-- whether d divides both numbers
abbrev pub divides_both : ℕ → ℕ → ℕ → Bool
divides_both d a b = (a % d == 0) && (b % d == 0)

-- the greatest number up to n that divides both; 0 where there is none
abbrev pub greatest_divisor : ℕ → ℕ → ℕ → ℕ
greatest_divisor zero a b = 0
greatest_divisor (suc n) a b = if divides_both (suc n) a b then suc n else greatest_divisor n a b

-- the greatest common divisor of a number and a positive one
unfoldable pub gcd : ℕ → ℕ → ℕ
gcd a b = greatest_divisor b a b

-- the periods of the units that have a place in the prefix
abbrev pub placed_periods : List Load → Prefix → List ℕ
placed_periods [] ps = []
placed_periods (l ∷ ls) [] = []
placed_periods (l ∷ ls) (None ∷ ps) = placed_periods ls ps
placed_periods (l ∷ ls) (Some p ∷ ps) = l.period ∷ placed_periods ls ps

-- how many phases a unit of this period tries, from 0 on: as many as the greatest common divisor of its period and of the least common multiple of the
-- periods of the units that have a place, which is 1 where none has
abbrev pub strong_phases : List Load → Prefix → ℕ → ℕ
strong_phases loads ps period = gcd (lcm_of (placed_periods loads ps)) period

-- equal units: the same bytes and the same period
abbrev pub same_load : Load → Load → Bool
same_load l m = (l.bytes == m.bytes) && (l.period == m.period)

-- one place is below another, by phase and then slot
abbrev pub is_below : Place → Place → Bool
is_below p q = nat_lt p.phase q.phase || ((p.phase == q.phase) && nat_lt p.slot q.slot)

-- whether the prefix gives a unit that is equal to this load a place above p
abbrev pub has_equal_above : Load → Place → List Load → Prefix → Bool
has_equal_above l p [] ps = false
has_equal_above l p (m ∷ ls) [] = false
has_equal_above l p (m ∷ ls) (None ∷ ps) = has_equal_above l p ls ps
has_equal_above l p (m ∷ ls) (Some q ∷ ps) = (same_load m l && is_below p q) || has_equal_above l p ls ps

-- the strong children of a prefix, by phase and then slot: the places of its next unit with a phase of those above and a slot in use or the first free
-- one, below n, where no equal unit has a place above
unfoldable pub strong_children : List Load → ℕ → Prefix → ℕ → List Place
strong_children loads n ps u =
    filter (λ p. not (has_equal_above (get_or loads u nobody) p loads ps)) (places_for (strong_phases loads ps (get_or loads u nobody).period) n (used ps))
