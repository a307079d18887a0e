use Rattle.std.proofs.Common.{◌≡◌, ◌∙◌, get_or, Some, None, refl, ap}
use Rattle.std.proofs.lemmas.Option.{slice_get_read}
use Rattle.ec_loads.proofs.MoreLemmas.{set_free, none_kept}
use Rattle.ec_loads.proofs.loads.Loads.remove.Goals as goal

pub returns-in_default : goal.returns-in_default
returns-in_default c =
    let is : c.index.result.now ≡ get_or c.args.self.now.places c.args.unit c.index.result.now = rw (← c.self.view_is) c.index.ensures in
    ap (λ ps. record { loads = c.args.self.now.loads; slots = c.args.self.now.slots; places = ps }) (none_kept c.args.self.now.places c.args.unit c.index.result.now is c.in_default.not-Some)

pub take_out-requires-clause-placed : goal.take_out-requires-clause-placed
take_out-requires-clause-placed c =
    let is : c.index.result.now ≡ get_or c.args.self.now.places c.args.unit c.index.result.now = rw (← c.self.view_is) c.index.ensures in
    slice_get_read c.args.self.now.places _ c.args.unit c.index.result.now refl c.requires is ∙ ap (λ o. Some o) c.in-Some.is

pub settle-requires : goal.settle-requires
settle-requires c = rw c.take_out.ensures (set_free c.args.self.now.places c.args.unit None c.requires)

pub returns : goal.returns
returns c = c.settle.ensures ∙ c.take_out.ensures
