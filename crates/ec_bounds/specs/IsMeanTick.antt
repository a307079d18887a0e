-- A tick with as many bytes of units as the mean of all ticks.
use Rattle.std.specs.Prelude.{◌≡◌, ℕ, ◌+◌, ◌*◌, ◌≤◌, ◌↔◌, List}
use Rattle.ec_hyper.specs.Lcm.{lcm_of}
use Rattle.ec_units.specs.declared.unit.Load.{Load}
use Rattle.ec_units.specs.Load.{periods_of}
use Rattle.ec_loads.specs.Held.{no_places}
use Rattle.ec_loads.specs.Search.{demand}
use Rattle.ec_bounds.specs.declared.mean.MeanTick.{MeanTick}

-- its bytes are the fewest of which all ticks of a hyperperiod together hold what all loads send, its frames the fewest that hold these bytes at 1486 each,
-- and it costs its bytes, and 52 for each frame
pub record IsMeanTick (loads : List Load) (m : MeanTick) : Type 0 where
  pub bytes : (b : ℕ) → (m.bytes ≤ b) ↔ (demand loads (no_places loads) (lcm_of (periods_of loads)) ≤ b * lcm_of (periods_of loads))
  pub frames : (k : ℕ) → (m.frames ≤ k) ↔ (m.bytes ≤ k * 1486)
  pub cost : m.cost ≡ m.bytes + 52 * m.frames
