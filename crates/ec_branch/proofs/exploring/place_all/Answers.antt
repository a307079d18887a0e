use Rattle.std.proofs.Common.{◌<◌, All, sym, subst, ◌∙◌}
use Rattle.ec_branch.proofs.PlacingLemmas.{standing_whole}
use Rattle.ec_branch.proofs.exploring.place_all.Goals as goal

pub place_after-requires-clause-below : goal.place_after-requires-clause-below
place_after-requires-clause-below c = subst (λ n. All (λ u. u < n) c.args.order.now) (sym (c.remove_after.ensures.count ∙ c.standing-kept.ensures.each)) c.requires.order.below

pub returns-clause-placed : goal.returns-clause-placed
returns-clause-placed c =
    let held = c.remove_after.ensures in
    let whole =
    standing_whole c.args.loads.now.loads c.remove_after.new.loads.places c.args.order.now c.args.prefix.now c.standing-kept.result c.requires.order
    (held.count ∙ c.standing-kept.ensures.each) c.standing-kept.ensures.few c.requires.long
    (λ j e less. held.stand j less ∙ c.standing-kept.ensures.stand j e less) held.free in
    c.place_after.ensures.placed ∙ (λ j. record { loads = held.loads j; slots = held.slots j; places = whole j })
