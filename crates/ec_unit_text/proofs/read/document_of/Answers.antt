use Rattle.std.proofs.Common.{ap}
use Rattle.std.proofs.lemmas.Bool.{false≢true}
use Rattle.ec_unit_text.specs.Reading.{told}
use Rattle.ec_unit_text.proofs.Whole.{document_ok, document_none}
use Rattle.ec_unit_text.proofs.read.document_of.Goals as goal

pub returns-in-Ok : goal.returns-in-Ok
returns-in-Ok c = ap told (document_ok _ _ c.in-Ok.ensures.ok.0 c.in-Ok.ensures.ok.1)

pub returns-in-Err-2 : goal.returns-in-Err-2
returns-in-Err-2 c = ap told (document_none _ (c.in-Err.ensures.refused (λ m. false≢true (c.if-is_memory.ensures.1 m))))
