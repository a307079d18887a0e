-- A check's yes is true.
use Rattle.std.proofs.Common.{◌≡◌, ℕ, List, Option, Some, None, Result, Ok, Err, refl, sym, ap, subst, ◌∙◌, inl, inr}
use Rattle.std.specs.Prelude.{MatchResult}
use Rattle.ec_units.specs.declared.unit.Load.{Load}
use Rattle.ec_units.specs.declared.units.Units.{Units}
use Rattle.ec_units.specs.Load.{loads_of}
use Rattle.ec_unit_text.specs.Reading.{reading}
use Rattle.ec_units.specs.Views.{UnitsView, units_view}
use Rattle.ec_units.proofs.Viewed.{loads_of-views}
use Rattle.ec_loads.specs.Search.{BoundsAll, IsLeast, HasNoPlan}
use Rattle.ec_cert.specs.declared.cert.Best.{Best}
use Rattle.ec_cert_text.specs.declared.fault.CertFault.{CertFault}
use Rattle.ec_cert_text.specs.Reading.{reading as cert_reading}
use Rattle.ec_cert.specs.Shapes.{CertView}
use Rattle.ec_checker.specs.Certified.{IsClaim, verdict_of}
use Rattle.ec_checker.proofs.CheckLemmas.{claim_from}
use Rattle.ec_tree.specs.Trees.{TreesBound, LevelsBound}
use Rattle.ec_cli_refusals.specs.declared.refusal.Refusal.TheVariants as refusal
use Rattle.ec_cli_text.specs.Output.{Written, IsCheckedOf, IsCheckedOutput, refused, verdict_output}
use Rattle.ec_cli_run.specs.Sound.{YesIsTrue, YesTellsTruth}
use Rattle.ec_cli_run.proofs.StatusLemmas.{by_0, by_1, by_2, by_refusal}

-- what is told of units, by what is claimed of their loads
verdict_true : (bytes : List ℕ) (us : Units) (best : Option Best) (level : Option ℕ) (w : Written) → reading bytes ≡ Ok (units_view us) → w ≡ verdict_output (verdict_of best level) → IsClaim (loads_of us.units) us.slots best (verdict_of best level) → YesTellsTruth bytes w
verdict_true bytes us best (Some l) w said is claim =
    by_2 w.code (ap (λ (v : Written). v.code) is)
    (record { units = units_view us; said = said; level = l; line = ap (λ (v : Written). v.text) is; bounds = subst (λ (ls : List Load). BoundsAll ls us.slots (Some l)) (loads_of-views us.units) claim.0 })
verdict_true bytes us None None w said is claim =
    by_1 w.code (ap (λ (v : Written). v.code) is) (record { units = units_view us; said = said; line = ap (λ (v : Written). v.text) is; none = subst (λ (ls : List Load). HasNoPlan ls us.slots) (loads_of-views us.units) claim })
verdict_true bytes us (Some b) None w said is claim =
    by_0 w.code (ap (λ (v : Written). v.code) is)
    (record { units = units_view us; said = said; busiest = b.busiest; line = ap (λ (v : Written). v.text) is; least = subst (λ (ls : List Load). IsLeast ls us.slots b.busiest) (loads_of-views us.units) claim.0 })

checked_true : TreesBound → LevelsBound → (bytes : List ℕ) (us : Units) (c : CertView) (w : Written) → reading bytes ≡ Ok (units_view us) → IsCheckedOf us.units us.slots c w → YesTellsTruth bytes w
checked_true trees levels bytes us c w said (inl h) = verdict_true bytes us c.best c.level w said h.1 (claim_from trees levels us.units us.slots c (verdict_of c.best c.level) h.0 refl)
checked_true trees levels bytes us c w said (inr h) = by_refusal w (refusal.Check h.0) h.3

cert_true : TreesBound → LevelsBound → (bytes : List ℕ) (v : UnitsView) (r : Result CertView CertFault) (w : Written) → reading bytes ≡ Ok v → MatchResult r (λ c. IsCheckedOutput v c w) (λ f. w ≡ refused (refusal.Cert f)) → YesTellsTruth bytes w
cert_true trees levels bytes v (Ok c) w said (us, is, h) = checked_true trees levels bytes us c w (said ∙ ap (λ (u : UnitsView). Ok u) (sym is)) h
cert_true trees levels bytes v (Err f) w said h = by_refusal w (refusal.Cert f) h

pub yes_true : TreesBound → LevelsBound → YesIsTrue
yes_true trees levels bytes cert w (inl (v, short, said, h)) = cert_true trees levels bytes v (cert_reading cert) w said h
yes_true trees levels bytes cert w (inr (r, fault, is)) = by_refusal w r is
