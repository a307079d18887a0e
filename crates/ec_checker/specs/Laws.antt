-- A fault and a yes never go together.
use Rattle.std.specs.Prelude.{ℕ, ◌≢◌, List}
use Rattle.ec_units.specs.declared.unit.Unit.{Unit as SyncUnit}
use Rattle.ec_cert.specs.Shapes.{CertView}
use Rattle.ec_checker.specs.declared.fault.CheckFault.{CheckFault}
use Rattle.ec_checker.specs.declared.fault.CheckFault.TheVariants as fault
use Rattle.ec_checker.specs.Certified.{IsCertified, IsFaultOf}

-- where a certificate has a fault, want of memory aside, it is not one that the checker says yes to
abbrev pub FaultsRefute : Type 0
FaultsRefute = (units : List SyncUnit) (n : ℕ) (c : CertView) (e : CheckFault) → e ≢ fault.OutOfMemory → IsFaultOf units n c e → ¬ (IsCertified units n c)
