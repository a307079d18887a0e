use Rattle.std.proofs.Common.{◌≡◌, rules}
use Rattle.ec_cli_text.specs.Output.{refused}
use Rattle.ec_cli_refusals.specs.Refusals.{refusal_line}
use Rattle.ec_cli_run.proofs.RunLemmas.{tells_text}
use Rattle.ec_cli_run.proofs.job.refuse.Goals as goal

pub returns : goal.returns
returns g c =
    let line : c.as_slice.result.now ≡ refusal_line c.args.refusal = search rules in
    tells_text (refused c.args.refusal) _ _ c.code.result c.as_slice.result.now line c.code.ensures c.write_status.ensures.all c.write_status.ensures.front c.write_status.ensures.failed
