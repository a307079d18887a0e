-- How many places name each slot, and how many slots some place names.
use Rattle.std.specs.Prelude.{◌≡◌, ℕ, ◌+◌, ◌==◌, if◌then◌else◌, List, length, get_or}
use Rattle.std.specs.List.{count_by}
use Rattle.ec_loads.specs.declared.in_use.InUse.{InUse}
use Rattle.ec_loads.specs.Prefix.{Prefix, slots_in, used}

-- one place more names slot s than before
pub record IsOneMoreIn (s : ℕ) (before after : InUse) : Type 0 where
  pub size : length after.counts ≡ length before.counts
  pub each : (k : ℕ) → get_or after.counts k 0 ≡ get_or before.counts k 0 + (if k == s then 1 else 0)
  pub different : after.different ≡ before.different + (if get_or before.counts s 0 == 0 then 1 else 0)

-- the counts of the slots that a prefix names, and how many they are
pub record HoldsSlots (ps : Prefix) (counts : List ℕ) (different : ℕ) : Type 0 where
  pub size : length counts ≡ 256
  pub each : (s : ℕ) → get_or counts s 0 ≡ count_by (λ n. s == n) (slots_in ps)
  pub number : different ≡ used ps
