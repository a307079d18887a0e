use Rattle.std.proofs.Common.{refl, sym, ap, ◌∙◌, subst, Option, List, ℕ}
use Rattle.ec_cli_text.specs.Output.{shown}
use Rattle.ec_cli_answers.specs.Planned.{Gets, GetsFront}
use Rattle.ec_cli_answers.specs.Told.{file_of, told}
use Rattle.ec_cli_run.proofs.RunLemmas.{delivered, tells_more, tells_text}
use Rattle.ec_cli_run.proofs.delivering.deliver_to.Goals as goal

pub returns-in-Ok-write_file : goal.returns-in-Ok-write_file
returns-in-Ok-write_file g c =
    let file = ap file_of c.in-Ok.is in
    tells_more
    (λ w h. delivered _ c.args.told w c.in-Ok-write_file.ensures.ok.0 (h ∙ sym (ap told c.in-Ok.is))
    (subst (λ (f : Option (List ℕ)). Gets g.O.Write.contents c.args.out.now c.write_file.new.out f) (sym file) c.in-Ok-write_file.ensures.ok.1)
    (subst (λ (f : Option (List ℕ)). GetsFront g.O.Write.contents c.args.out.now c.write_file.new.out f) (sym file) c.in-Ok-write_file.ensures.front))
    (tells_text (shown c.in-Ok.told.answer) _ _ c.in-Ok.told.answer.code c.as_bytes.result.now c.as_bytes.ensures.value refl c.write_status.ensures.all c.write_status.ensures.front c.write_status.ensures.failed)
