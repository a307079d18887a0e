use Rattle.ec_branch.proofs.LeafLemmas.{match_map, short_tick}
use Rattle.ec_branch.proofs.leaf.tick_leaf.Goals as goal

pub returns : goal.returns
returns c =
    let h = c.args.loads.now in
    let t = c.ticks-ticks in
    match_map c.tick_bound.result (λ none. none) (λ i first. short_tick h c.args.value t.result i t.ensures.units t.ensures.value t.ensures.range first) c.tick_bound.ensures
