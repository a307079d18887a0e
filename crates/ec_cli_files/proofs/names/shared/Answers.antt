use Rattle.std.proofs.Common.{ℕ, List, Bor, sym, ap, ◌∙◌, arith, take}
use Rattle.std.proofs.lemmas.Grind.{common_steps}
use Rattle.std.specs.Prelude.{count_by, bytes_eq}
use Rattle.std.specs.List.{list_any}
use Rattle.ec_cli_files.proofs.NameLemmas.{shared_seen}
use Rattle.ec_cli_files.proofs.names.shared.Goals as goal

pub returns : goal.returns
returns c = record {
  value =
      c.loop-name.invariant.0 ∙ ap (count_by {X = Bor (List ℕ)} (λ name. list_any (λ other. bytes_eq other.now name.now) c.args.those.now)) {x = take c.loop-name.name-index c.args.these.now} {y = c.args.these.now} (grind (arith, common_steps))
      ∙ sym (shared_seen (λ n. n.now) c.args.these.now c.args.those.now);
}
