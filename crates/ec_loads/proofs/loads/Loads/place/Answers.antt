use Rattle.std.proofs.Common.{ap, ◌∙◌}
use Rattle.ec_loads.proofs.MoreLemmas.{set_none}
use Rattle.ec_loads.proofs.loads.Loads.place.Goals as goal

pub returns : goal.returns
returns c = c.put.ensures ∙ (rw c.remove.ensures (ap (λ ps. record { loads = c.args.self.now.loads; slots = c.args.self.now.slots; places = ps }) (set_none c.args.self.now.places c.args.unit c.args.place)))
