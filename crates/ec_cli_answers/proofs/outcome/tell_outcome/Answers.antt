use Rattle.std.proofs.Common.{refl, sym}
use Rattle.ec_cli_answers.proofs.outcome.tell_outcome.Goals as goal

pub returns-clause-ok : goal.returns-clause-ok
returns-clause-ok c = record {
  level = c.level_of-level.result;
  is_level = c.level_of-level.ensures;
  text = c.in_ok-answer.ensures;
  file = sym c.cert_of-cert.ensures.text;
  shows = c.cert_of-cert.ensures.shows;
  plan = c.cert_of-cert.ensures.plan;
  ending = c.ending-ending.ensures;
  verdict = refl;
}
