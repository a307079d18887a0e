use Rattle.std.proofs.Common.{◌≡◌, sym, subst, ◌∙◌, length}
use Rattle.std.proofs.lemmas.List.{length-map}
use Rattle.ec_units.specs.Load.{load_of, loads_of}
use Rattle.ec_symmetry.specs.Orders.{IsOrder}
use Rattle.ec_branch.proofs.TurnLemmas.{turns_long, turns_in_file, ok_both, ok_map}
use Rattle.ec_branch.proofs.StrongLemmas.{ranks_rise}
use Rattle.ec_branch.proofs.strong.strong_order.Goals as goal

pub in_turn-requires : goal.in_turn-requires
in_turn-requires c = turns_in_file c.in_ok-turns.turns.items (length c.args.units.now.units) c.in_ok-turns.ensures.units

pub returns-clause-sorted : goal.returns-clause-sorted
returns-clause-sorted c =
    let us = c.args.units.now.units in
    let first = c.in_ok-turns.turns.items in
    let long : length first ≡ length (loads_of us) = turns_long first (length us) c.in_ok-turns.ensures.units ∙ sym (length-map us load_of) in
    ok_both c.in_turn.result
    (λ order each turned. ranks_rise (loads_of us) first order.items (subst (λ n. IsOrder n order.items) long each) c.in_ok-turns.ensures.ranks turned)
    c.in_turn.ensures.each c.in_turn.ensures.sorted

pub returns-clause-each : goal.returns-clause-each
returns-clause-each c =
    let long = turns_long c.in_ok-turns.turns.items (length c.args.units.now.units) c.in_ok-turns.ensures.units in
    ok_map c.in_turn.result (λ order each. subst (λ n. IsOrder n order.items) long each) c.in_turn.ensures.each
