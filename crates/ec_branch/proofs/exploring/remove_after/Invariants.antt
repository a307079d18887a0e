use Rattle.std.proofs.Common.{◌≡◌, ℕ, ◌<◌, ◌≤◌, length, get_or, slice_get, None, Some}
use Rattle.ec_bounds.specs.Left.{IsRestOf}
use Rattle.ec_branch.proofs.exploring.remove_after.Given as goal

abbrev pub decreases-loop-i : goal.decreases-loop-i
decreases-loop-i l = l.i

abbrev pub invariant-loop-i : goal.invariant-loop-i
invariant-loop-i l =
    let h = l.initial.loads in
    record {
      loads : l.loads.loads ≡ h.loads;
      slots : l.loads.slots ≡ h.slots;
      count : length l.loads.places ≡ length h.places;
      low : l.kept ≤ l.i;
      within : l.i ≤ length l.order;
      left : IsRestOf l.rest l.loads;
      free : (j : ℕ) → l.i ≤ j → j < length l.order → slice_get l.loads.places (get_or l.order j 0) ≡ Some None;
      stand : (j : ℕ) → j < l.kept → slice_get l.loads.places (get_or l.order j 0) ≡ slice_get h.places (get_or l.order j 0);
    }
