use Rattle.std.proofs.Common.{◌++◌, take, drop, ap, refl, sym, ◌∙◌, arith, length-append, length-take, length-drop, append-nil}
use Rattle.std.proofs.KnownBytes.{Consumes-trans, Consumes-kept}
use Rattle.ec_cli_inputs.proofs.InputLemmas.{read_piece, read_more, read_whole, read_over, read_memory}
use Rattle.ec_cli_inputs.proofs.input.read_all.Goals as goal

pub returns-in-Ok-eq0-clause-ok : goal.returns-in-Ok-eq0-clause-ok
returns-in-Ok-eq0-clause-ok g c = (
  omega (arith, c.fill-test.true, c.len.ensures),
  read_whole _ _ _ c.fill.bytes.items (take c.in-Ok-eq0.field-0 c.read.new.buf) (ap (λ n. take n c.read.new.buf) c.in-Ok-eq0.field-0-test) c.fill.invariant.read c.in-Ok-eq0.ensures.bytes.0 (c.in-Ok-eq0.ensures.bytes.1 c.in-Ok-eq0.field-0-test (omega (arith, c.fill-test.true, c.len.ensures, c.len-in-fill.ensures, c.min-want.ensures, c.read.auto.buf, length-take c.min-want.result c.fill.chunk, c.fill.invariant.room))),
)

pub returns-in-Ok-eq0-clause-consumed : goal.returns-in-Ok-eq0-clause-consumed
returns-in-Ok-eq0-clause-consumed g c = (
  c.fill.bytes.items,
  c.fill.invariant.within,
  read_more _ _ _ c.fill.bytes.items c.fill.bytes.items (take c.in-Ok-eq0.field-0 c.read.new.buf) (sym (ap (λ n. c.fill.bytes.items ++ take n c.read.new.buf) c.in-Ok-eq0.field-0-test ∙ append-nil c.fill.bytes.items)) c.fill.invariant.read c.in-Ok-eq0.ensures.bytes.0,
)

pub fill-preserved : goal.fill-preserved
fill-preserved g c =
    let (is, long) = read_piece c.fill.bytes.items c.extend_from_slice.new.self.items c.read.new.buf (drop c.min-want.result c.fill.chunk) c.in-Ok.count c.in-Ok.ensures.bound c.in_ok-extend_from_slice-in-Ok.ensures.items in
    record {
      within = omega (arith, long, c.in-Ok.ensures.bound.0, c.read.auto.buf, length-take c.min-want.result c.fill.chunk, c.min-want.ensures, c.len-in-fill.ensures, c.fill-test.true, c.len.ensures);
      room = omega (arith, c.read.auto.buf, length-take c.min-want.result c.fill.chunk, c.min-want.ensures, c.fill.invariant.room, length-append c.read.new.buf (drop c.min-want.result c.fill.chunk), length-drop c.min-want.result c.fill.chunk);
      read = read_more _ _ _ c.fill.bytes.items c.extend_from_slice.new.self.items (take c.in-Ok.count c.read.new.buf) is c.fill.invariant.read c.in-Ok.ensures.bytes.0;
      taken = omega (arith, long, c.fill.invariant.taken, c.in-Ok.ensures.taken);
      failed = c.in-Ok.ensures.ok ∙ c.fill.invariant.failed;
    }

pub returns-in_err-extend_from_slice-in-Ok-clause-kinds : goal.returns-in_err-extend_from_slice-in-Ok-clause-kinds
returns-in_err-extend_from_slice-in-Ok-clause-kinds g c = read_memory c.from_residual.result c.from_residual.ensures.1

pub returns-in_err-extend_from_slice-in-Ok-clause-consumed : goal.returns-in_err-extend_from_slice-in-Ok-clause-consumed
returns-in_err-extend_from_slice-in-Ok-clause-consumed g c = (
  c.fill.bytes.items ++ take c.in-Ok.count c.read.new.buf,
  omega (arith, length-append c.fill.bytes.items (take c.in-Ok.count c.read.new.buf), c.in-Ok.ensures.bound, c.read.auto.buf, length-take c.min-want.result c.fill.chunk, c.min-want.ensures, c.len-in-fill.ensures, c.fill-test.true, c.len.ensures),
  Consumes-trans _ _ _ _ _ c.fill.invariant.read c.in-Ok.ensures.bytes.0,
)

pub returns-in-Err-clause-ok : goal.returns-in-Err-clause-ok
returns-in-Err-clause-ok g c = tt

pub returns-in-Err-clause-failed : goal.returns-in-Err-clause-failed
returns-in-Err-clause-failed g c = λ not. absurd (not refl)

pub returns-in-Err-clause-consumed : goal.returns-in-Err-clause-consumed
returns-in-Err-clause-consumed g c = (c.fill.bytes.items, c.fill.invariant.within, Consumes-kept _ _ _ _ c.fill.invariant.read c.in-Err.ensures.bytes)

pub returns-clause-large : goal.returns-clause-large
returns-clause-large g c = λ large. read_over _ _ c.fill.bytes.items c.args.limit (omega (arith, c.fill-test.false, c.len.ensures)) c.fill.invariant.read
