-- The statuses of refusals.
use Rattle.std.proofs.Common.{ℕ, ◌≤◌, arith}
use Rattle.ec_unit_text.specs.declared.fault.UnitFault.TheVariants as fault
use Rattle.ec_cert_text.specs.declared.fault.CertFault.TheVariants as cert_fault
use Rattle.ec_checker.specs.declared.fault.CheckFault.TheVariants as check_fault
use Rattle.ec_outcome.specs.declared.play.PlayFault.TheVariants as play
use Rattle.ec_cli_refusals.specs.declared.refusal.Refusal.{Refusal}
use Rattle.ec_cli_refusals.specs.declared.refusal.Refusal.TheVariants as refusal
use Rattle.ec_cli_refusals.specs.Refusals.{refusal_code}

-- a status of 0 or 1 is no refusal's
pub code_above : (r : Refusal) → 3 ≤ refusal_code r
code_above (refusal.Unit fault.OutOfMemory) = omega arith
code_above (refusal.Unit f) = omega arith
code_above (refusal.Illegal f) = omega arith
code_above refusal.TooLarge = omega arith
code_above (refusal.NoPlace n) = omega arith
code_above refusal.Read = omega arith
code_above (refusal.Cert cert_fault.OutOfMemory) = omega arith
code_above (refusal.Cert f) = omega arith
code_above (refusal.Check check_fault.OutOfMemory) = omega arith
code_above (refusal.Check f) = omega arith
code_above (refusal.Solve f) = omega arith
code_above refusal.Write = omega arith
code_above refusal.CertHasNoPlan = omega arith
code_above (refusal.Play play.OutOfMemory) = omega arith
code_above (refusal.Play (play.Counter t s d w g)) = omega arith
code_above (refusal.Play (play.Frame f)) = omega arith
code_above (refusal.Play play.Ring) = omega arith
code_above (refusal.Play play.Spawn) = omega arith
code_above (refusal.Play (play.StartCounter n w g)) = omega arith
code_above (refusal.Play (play.Reply n)) = omega arith
