use Rattle.ec_cert_text.proofs.WriteLemmas.{on_ok, whole_all, whole_front, early_front}
use Rattle.ec_cert_text.proofs.writing.write_cert.Goals as goal

pub returns-in_err-write_lines-clause-front : goal.returns-in_err-write_lines-clause-front
returns-in_err-write_lines-clause-front g c = early_front c.new-waiting.ensures c.write_lines.ensures.front

pub returns-clause-all : goal.returns-clause-all
returns-clause-all g c = on_ok c.flush.result _ _ (whole_all _ c.new-waiting.ensures c.in_ok-write_lines.ensures.all) c.flush.ensures.all

pub returns-clause-front : goal.returns-clause-front
returns-clause-front g c = whole_front _ c.new-waiting.ensures c.in_ok-write_lines.ensures.all c.flush.ensures.front
