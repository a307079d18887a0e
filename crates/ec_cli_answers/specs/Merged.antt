-- What is told of certificates that were merged.
use Rattle.std.specs.Prelude.{◌≡◌, ℕ, ◌<◌, List, Option, Some, Ok}
use Rattle.ec_units.specs.declared.units.Units.{Units}
use Rattle.ec_cert.specs.IsBestPlan.{value_of}
use Rattle.ec_cert.specs.Shapes.{CertView}
use Rattle.ec_loads.specs.Search.{open_count}
use Rattle.ec_outcome.specs.declared.search.Cut.TheVariants as cut
use Rattle.ec_outcome.specs.declared.search.Outcome.{Outcome}
use Rattle.ec_workers.specs.Answers.{Asked, HasCut, HasLevelFrom, HasOrder, HasRules, IsOutcome, is_strong, tree_in, value_in}
use Rattle.ec_cert_merge.specs.Certs.{HasBest, IsProved, IsProven}
use Rattle.ec_cli_inputs.specs.Input.{AnswersUnits}
use Rattle.ec_cli_text.specs.Output.{Written}
use Rattle.ec_cli_answers.specs.Planned.{IsOutcomeWritten}

-- what comes of a certificate to which the checker says yes, for the units that the bytes say: it has its tree, its value, its order of the units and its rules, and
-- shows at least its level; its plan is the certificate's. Where no leaf of the tree is open it is a proof; else the open leaves are left to other parts
pub record IsMergeOf (bytes : List ℕ) (cert : CertView) (us : Units) (o : Outcome) : Type 0 where
  pub read : AnswersUnits (Ok us) bytes
  pub right : IsProven us.units us.slots cert
  pub best : HasBest cert.best o
  pub tree : tree_in o ≡ cert.tree
  pub value : value_in o ≡ value_of cert.best
  pub order : HasOrder cert.order o
  pub rules : HasRules (is_strong cert) o
  pub level : (l : ℕ) → cert.level ≡ Some l → HasLevelFrom us.units us.slots l o
  pub proof : open_count cert.tree ≡ 0 → IsProved o
  pub why : 0 < open_count cert.tree → HasCut cut.Parts o
  pub asked : Asked
  pub answer : IsOutcome us.units us.slots asked o

-- what is written for it, and the file that is written before it
abbrev pub IsWrittenOf : List ℕ → CertView → Written → Option (List ℕ) → Type 0
IsWrittenOf bytes cert w file = IsOutcomeWritten (IsMergeOf bytes cert) w file

-- so it is for some certificate
abbrev pub IsMergeWritten : List ℕ → Written → Option (List ℕ) → Type 0
IsMergeWritten bytes w file = (cert : CertView) × IsWrittenOf bytes cert w file
