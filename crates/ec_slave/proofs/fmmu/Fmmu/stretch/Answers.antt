use Rattle.std.proofs.Common.{◌≡◌, sym, ◌∙◌, arith}
use Prim.Native.Nat.{max}
use Rattle.ec_slave.proofs.StretchLemmas.{end_of, some_between}
use Rattle.ec_slave.proofs.fmmu.Fmmu.stretch.Goals as goal

pub returns : goal.returns
returns c =
    let from : c.max-from.result ≡ max c.args.self.logical c.args.address = omega (arith, c.max-from.ensures, c.from-logical.ensures, c.from-address.ensures) in
    let end : c.min-end.result ≡ end_of c.args.self c.args.size c.args.address c.args.count = omega (arith, c.min-end.ensures, c.min.ensures, c.min-mapped.ensures, c.saturating_sub.ensures, c.from.ensures, c.from-physical.ensures, c.from-logical.ensures, c.from-address.ensures) in
    let some = c.if-end-from.false in
    some_between c.args.self c.args.size c.args.direction c.args.address c.args.count _ (sym c.has.ensures ∙ c.if-not-has.false) (omega (arith, from, end, some)) (omega (arith, from, c.from-address.ensures)) (omega (arith, from, end)) (omega (arith, from, c.from-physical.ensures, c.from-logical.ensures))
