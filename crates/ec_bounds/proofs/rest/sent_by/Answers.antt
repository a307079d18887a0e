use Rattle.std.proofs.Common.{◌≤◌, arith, mul-le-mul_left}
use Rattle.std.proofs.Math.Nat.{div-le_self}
use Rattle.ec_bounds.proofs.rest.sent_by.Goals as goal

pub returns-clause-bound : goal.returns-clause-bound
returns-clause-bound c =
    let low = div-le_self c.args.hyper.now c.args.load.period in
    let few : c.times.result ≤ 1024 = omega (arith, low, c.times.ensures, c.ticks-ticks.ensures.value, c.ticks-ticks.ensures.range) in
    let most = mul-le-mul_left c.from.result few in
    omega (arith, most, c.from.ensures, c.requires.bytes)
