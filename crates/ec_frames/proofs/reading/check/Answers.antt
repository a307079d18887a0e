use Rattle.std.proofs.Common.{rules, ◌≡◌, ◌∙◌, suc, length, Err, refl, sym, arith}
use Rattle.ec_frames.specs.Parsing.{void, payload_read}
use Rattle.ec_frames.proofs.ParsingSteps.{check_err, check_last, check_more}
use Rattle.ec_frames.proofs.reading.check.Goals as goal

pub datagrams-init : goal.datagrams-init
unfolding Rattle.ec_frames.specs.Parsing.payload_read
datagrams-init c = (suc (length c.args.payload.now), omega arith, refl)

pub returns-in_err-after : goal.returns-in_err-after
returns-in_err-after c =
    let i = c.datagrams.invariant in
    let err : c.from_residual.result ≡ Err c.in_err-after.field-0.0 = search rules in
    err ∙ check_err i.0 c.datagrams.rest.now _ (void (payload_read c.args.payload.now)) i.1 (sym c.in_err-after.ensures.read) i.2

pub returns-then-is_empty : goal.returns-then-is_empty
returns-then-is_empty c =
    let i = c.datagrams.invariant in
    check_last i.0 c.datagrams.rest.now _ (void (payload_read c.args.payload.now)) i.1 (sym c.in_ok-after.ensures.read) (sym c.if-is_empty.ensures) i.2

pub datagrams-preserved : goal.datagrams-preserved
datagrams-preserved c =
    let i = c.datagrams.invariant in
    check_more i.0 c.datagrams.rest.now _ (void (payload_read c.args.payload.now)) i.1 (sym c.in_ok-after.ensures.read) (sym c.if-is_empty.ensures) i.2
