use Rattle.std.proofs.Common.{refl}
use Rattle.ec_slave.proofs.StretchLemmas.{maps_is, met_is}
use Rattle.ec_slave.proofs.fmmu.Fmmus.meets.Goals as goal

pub returns : goal.returns
returns c =
    met_is c.args.self c.args.size c.args.size c.args.direction c.args.address c.args.count c.args.count _ _ refl refl
    (maps_is c.args.self.first c.args.size c.args.direction c.args.address c.args.count _ c.stretch-first.ensures)
    (maps_is c.args.self.second c.args.size c.args.direction c.args.address c.args.count _ c.stretch-second.ensures)
