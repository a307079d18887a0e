use Rattle.std.proofs.Common.{sym, ap, ◌∙◌, rules, tests, true}
use Rattle.std.specs.Prelude.{◌≡◌, flat_map, codes, nat_eq, ◌==◌, if◌then◌else◌, []}
use Rattle.std.specs.List.{slice_split, starts_with}
use Rattle.std.proofs.lemmas.Iterator.Consumers.{YieldsList-end}
use Rattle.std.proofs.lemmas.Iterator.Splits.{YieldsList-from_slice_split}
use Rattle.std.proofs.lemmas.List.Folds.{flat_map-map}
use Rattle.ec_cli_files.specs.Names.{name_in}
use Rattle.ec_cli_files.proofs.names.names_in.Goals as goal

pub returns : goal.returns
returns c =
    let begins : starts_with nat_eq c.args.front.now (codes "ecplan ") ≡ true = sym c.starts_with.ensures.value ∙ search rules in
    let lines = YieldsList-from_slice_split _ (λ b. b == 10) c.args.front.now (cc) (cc) (cc) (λ x b q k. search (rules, tests)) in
    let end = YieldsList-end lines c.loop-line.yielded _ c.loop-line.yielded_by _ _ c.in-None.is c.next.ensures.steps in
    c.loop-line.invariant ∙ sym (flat_map-map name_in (λ x. x.now) c.loop-line.yielded) ∙ ap (flat_map name_in) end.0
    ∙ sym (ap (λ b. if b then flat_map name_in (slice_split (λ b. b == 10) c.args.front.now) else []) begins)
