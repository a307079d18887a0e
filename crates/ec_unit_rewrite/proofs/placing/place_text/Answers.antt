use Rattle.std.proofs.Common.{◌≡◌, ℕ, List, Ok, subst, rules}
use Rattle.ec_units.specs.Views.{units_view}
use Rattle.ec_unit_text.specs.Reading.{reading}
use Rattle.ec_unit_rewrite.proofs.placing.place_text.Goals as goal

pub returns-in-Ok-units_in-clause-ok : goal.returns-in-Ok-units_in-clause-ok
returns-in-Ok-units_in-clause-ok c = record {
  old = c.in_ok-units.units;
  said = c.in_ok-units.ensures.ok;
  new = c.in-Ok-units_in.again;
  again = subst (λ (t : List ℕ). reading t ≡ Ok (units_view c.in-Ok-units_in.again)) c.as_bytes.ensures.value c.in-Ok-units_in.ensures.ok;
  same = search rules;
}
