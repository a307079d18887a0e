use Rattle.std.proofs.Common.{◌≡◌, ℕ, ◌+◌, get_or, ap, ◌∙◌, arith}
use Rattle.arrayvec.specs.ArrayVec.{ArrayVec}
use Rattle.ec_wire.specs.Wire.{wire_of}
use Rattle.ec_frame_text.specs.Lines.{wire_bytes}
use Rattle.ec_frame_text.proofs.LineLemmas.{sum_step, records_step}
use Rattle.ec_frame_text.proofs.capture.push_records.Goals as goal

pub loop-i-preserved : goal.loop-i-preserved
loop-i-preserved c =
    let frame = c.as_slice-frame.result.now in
    let same : frame ≡ (get_or c.args.frames.now c.loop-i.i c.index-frames-i.result).items = c.as_slice-frame.ensures.value ∙ ap (λ (f : ArrayVec ℕ). f.items) c.index-frames-i.is in
    let wire : c.from-before.result ≡ wire_bytes frame = c.from-before.ensures ∙ c.frame_wire.ensures ∙ ap wire_of (omega arith) in
    record {
      most = let m = c.loop-i.invariant.most in let f = c.as_slice-frame.ensures.fits in omega (arith, wire, m, f);
      before = ap (λ w. c.loop-i.before + w) wire
          ∙ sum_step (λ (f : ArrayVec ℕ). f.items) c.args.frames.now c.index-frames-i.result c.loop-i.i c.loop-i.before frame c.loop-i-test.true same c.loop-i.invariant.before;
      records = records_step (λ (f : ArrayVec ℕ). f.items) c.args.frames.now c.index-frames-i.result c.args.start c.loop-i.i c.loop-i.before _ c.args.file.now.items c.loop-i.file.items _ frame c.loop-i-test.true same c.loop-i.invariant.before
          c.loop-i.invariant.records c.in_ok-push_record.ensures (omega (arith, c.ns_of.ensures));
    }
