use Rattle.std.proofs.Common.{refl}
use Rattle.ec_cli_run.specs.Runs.{usage}
use Rattle.ec_cli_run.proofs.RunLemmas.{tells_text}
use Rattle.ec_cli_run.proofs.job.refuse_words.Goals as goal

pub returns : goal.returns
returns g c = tells_text (usage c.args.text.now) _ _ 5 c.as_bytes.result.now c.as_bytes.ensures.value refl c.write_status.ensures.all c.write_status.ensures.front c.write_status.ensures.failed
