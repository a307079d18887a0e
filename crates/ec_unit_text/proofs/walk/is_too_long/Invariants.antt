use Rattle.std.proofs.Common.{◌≡◌, ◌≤◌, All, take, drop, length}
use Rattle.toml.specs.View.{items_view}
use Rattle.ec_unit_text.specs.Fits.{PeriodsFit}
use Rattle.ec_unit_text.specs.UnitText.{periods_in}
use Rattle.ec_unit_text.proofs.walk.is_too_long.Given as goal

abbrev pub invariant-loop-index : goal.invariant-loop-index
invariant-loop-index l = record {
  room : length l.periods ≡ 48;
  fit : PeriodsFit (items_view (drop l.index l.units));
  in_range : All (λ p. (1 ≤ p) × (p ≤ 60)) (take l.index l.periods);
  copied : take l.index l.periods ≡ periods_in (items_view (take l.index l.units));
}
