use Rattle.std.proofs.Common.{rules, string_bytes}
use Rattle.std.proofs.lemmas.Str.{IsUtf8-string_bytes}
use Rattle.ec_cli_explain.proofs.ShownLemmas.{shown_push}
use Rattle.ec_cli_explain.proofs.sheet.Sheet.push.Goals as goal

pub invariant_of-self-2 : goal.invariant_of-self-2
invariant_of-self-2 c = record { shown = rw c.in_ok-push.ensures.bytes (shown_push (string_bytes c.args.self.now.text) c.told_letter.result (IsUtf8-string_bytes c.args.self.now.text) (search rules) c.args.self.now.shown c.told_letter.ensures) }
