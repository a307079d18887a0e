use Rattle.std.proofs.Common.{◌∙◌}
use Rattle.ec_cert_text.proofs.WriteLemmas.{on_ok, gathers_then, front_more, front_then}
use Rattle.ec_cert_text.proofs.writing.write_groups.Goals as goal

pub returns-in_err-write_pair_words-clause-front : goal.returns-in_err-write_pair_words-clause-front
returns-in_err-write_pair_words-clause-front g c = front_then c.in_ok-write.ensures.all (front_more _ c.write_pair_words.ensures.front)

pub returns-clause-front : goal.returns-clause-front
returns-clause-front g c = front_then c.in_ok-write.ensures.all (front_then c.in_ok-write_pair_words.ensures.all c.write-2.ensures.front)

pub returns-clause-all : goal.returns-clause-all
returns-clause-all g c = on_ok c.write-2.result _ _ (λ q. gathers_then c.in_ok-write.ensures.all (gathers_then c.in_ok-write_pair_words.ensures.all q)) c.write-2.ensures.all

pub returns-in_err-write-clause-front : goal.returns-in_err-write-clause-front
returns-in_err-write-clause-front g c = front_more _ c.write.ensures.front

pub returns-clause-ok : goal.returns-clause-ok
returns-clause-ok g c = on_ok c.write-2.result _ _ (λ q. q ∙ c.in_ok-write_pair_words.ensures.ok ∙ c.in_ok-write.ensures.ok) c.write-2.ensures.ok

pub returns-clause-err : goal.returns-clause-err
returns-clause-err g c = c.write-2.ensures.err
