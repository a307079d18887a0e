-- Whether a text says a certificate to which the checker says yes.
use Rattle.std.specs.Prelude.{◌≡◌, ◌⊎◌, ℕ, List, Ok}
use Rattle.ec_units.specs.declared.units.Units.{Units}
use Rattle.ec_cert.specs.Shapes.{CertView}
use Rattle.ec_cert_merge.specs.Certs.{IsProven}
use Rattle.ec_cert_text.specs.declared.fault.CertFault.{CertFault}
use Rattle.ec_cert_text.specs.Reading.{Fails, reading as cert_reading}
use Rattle.ec_checker.specs.Certified.{IsFaultOf}
use Rattle.ec_checker.specs.declared.fault.CheckFault.{CheckFault}
use Rattle.ec_cli_refusals.specs.declared.refusal.Refusal.{Refusal}
use Rattle.ec_cli_refusals.specs.declared.refusal.Refusal.TheVariants as refusal

-- a text says this certificate for these units, and the checker says yes to it
abbrev pub IsRightText : Units → List ℕ → CertView → Type 0
IsRightText us text c = (cert_reading text ≡ Ok c) × IsProven us.units us.slots c

-- the checker says no to a certificate
abbrev pub IsNo : Units → CertView → Refusal → Type 0
IsNo us c r = (f : CheckFault) × (r ≡ refusal.Check f) × IsFaultOf us.units us.slots c f

-- the text has this fault, or memory ran out over it
abbrev pub IsTextFault : List ℕ → Refusal → Type 0
IsTextFault text r = (f : CertFault) × (r ≡ refusal.Cert f) × Fails f (cert_reading text)

-- why a text says none: it has a fault, which may be want of memory, or the checker says no
abbrev pub IsWrongText : Units → List ℕ → Refusal → Type 0
IsWrongText us text r = IsTextFault text r ⊎ ((c : CertView) × (cert_reading text ≡ Ok c) × IsNo us c r)
