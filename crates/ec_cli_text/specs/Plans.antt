-- The plan of which frames, a play or costs tell: that of a certificate, or that of the places in the units; and why there is none.
use Rattle.std.specs.Prelude.{◌≡◌, ◌≢◌, ◌⊎◌, ℕ, is_none, List, Option, Some, None, Ok, Err}
use Rattle.std.specs.List.{position_from, filter_map}
use Rattle.ec_units.specs.declared.slave.Place.{Place}
use Rattle.ec_units.specs.declared.units.Units.{Units}
use Rattle.ec_units.specs.Views.{UnitView, UnitsView, units_view, view_loads}
use Rattle.ec_loads.specs.declared.plan.Illegal.{Illegal}
use Rattle.ec_loads.specs.Legal.{IsLegal, IsIllegalBy}
use Rattle.ec_cert_text.specs.declared.fault.CertFault.{CertFault}
use Rattle.ec_cert_text.specs.Reading.{reading as cert_reading}
use Rattle.ec_cert.specs.declared.cert.Best.{Best}
use Rattle.ec_cert.specs.Shapes.{CertView}
use Rattle.ec_checker.specs.declared.fault.CheckFault.{CheckFault}
use Rattle.ec_checker.specs.declared.fault.CheckFault.TheVariants as check
use Rattle.ec_checker.specs.Certified.{IsCertified, IsFaultOf}
use Rattle.ec_cli_refusals.specs.declared.refusal.Refusal.{Refusal}
use Rattle.ec_cli_refusals.specs.declared.refusal.Refusal.TheVariants as refusal

-- the first unit without a place
abbrev pub first_unplaced : List UnitView → Option ℕ
first_unplaced units = position_from (λ u. is_none u.place) 0 units

-- the places that are given
abbrev pub places_of : List UnitView → List Place
places_of units = filter_map (λ u. u.place) units

-- ---- the plan

-- the plan of units that all have a place, where it is legal
pub record IsPlacedPlan (v : UnitsView) (places : List Place) : Type 0 where
  pub all : first_unplaced v.units ≡ None
  pub given : places ≡ places_of v.units
  pub legal : IsLegal (view_loads v.units) v.slots places

-- the plan of a certificate's text to which the checker says yes for units that are seen so
pub record IsCertPlan (text : List ℕ) (v : UnitsView) (places : List Place) : Type 0 where
  pub units : Units
  pub seen : units_view units ≡ v
  pub cert : CertView
  pub said : cert_reading text ≡ Ok cert
  pub right : IsCertified units.units units.slots cert
  pub best : Best
  pub held : cert.best ≡ Some best
  pub plan : places ≡ best.plan.places

-- the plan of which is told: that of a certificate, or that of the places in the units
abbrev pub IsFramedPlan : Option (List ℕ) → UnitsView → List Place → Type 0
IsFramedPlan None v places = IsPlacedPlan v places
IsFramedPlan (Some text) v places = IsCertPlan text v places

-- ---- why there is none

-- the first unit without a place, or the first fault of the plan that the places make
abbrev pub IsUnplaced : UnitsView → Refusal → Type 0
IsUnplaced v r =
    ((n : ℕ) × (first_unplaced v.units ≡ Some n) × (r ≡ refusal.NoPlace n))
    ⊎ ((first_unplaced v.units ≡ None) × (f : Illegal) × IsIllegalBy (view_loads v.units) v.slots (places_of v.units) f × (r ≡ refusal.Illegal f))

-- of a certificate: the checker says yes to it and it has none, or the checker's first fault
abbrev pub IsBestless : Units → CertView → Refusal → Type 0
IsBestless us c r =
    (IsCertified us.units us.slots c × (c.best ≡ None) × (r ≡ refusal.CertHasNoPlan))
    ⊎ ((f : CheckFault) × (f ≢ check.OutOfMemory) × IsFaultOf us.units us.slots c f × (r ≡ refusal.Check f))

-- of a certificate's text: its fault, or so of the certificate that it says
abbrev pub IsCertless : List ℕ → UnitsView → Refusal → Type 0
IsCertless text v r =
    ((f : CertFault) × (cert_reading text ≡ Err f) × (r ≡ refusal.Cert f))
    ⊎ ((c : CertView) × (cert_reading text ≡ Ok c) × (us : Units) × (units_view us ≡ v) × IsBestless us c r)

-- why there is no plan of which to tell
abbrev pub IsPlanless : Option (List ℕ) → UnitsView → Refusal → Type 0
IsPlanless None v r = IsUnplaced v r
IsPlanless (Some text) v r = IsCertless text v r
