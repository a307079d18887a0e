use Rattle.ec_branch.proofs.LeafLemmas.{match_map, fits_from, short_full}
use Rattle.ec_branch.proofs.leaf.full_leaf.Goals as goal

pub returns : goal.returns
returns c =
    let h = c.args.loads.now in
    let t = c.ticks-ticks in
    match_map c.full_bound.result (λ none. fits_from h none) (λ f first. short_full h t.result f.0 f.1 t.ensures.units t.ensures.value t.ensures.range first) c.full_bound.ensures
