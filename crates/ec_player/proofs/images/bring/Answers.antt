use Rattle.std.proofs.Common.{ℕ, ◌+◌, ◌<◌, get_or, sym, ap, ◌∙◌, subst, unwrap_or}
use Rattle.arrayvec.specs.ArrayVec.{ArrayVec}
use Rattle.ec_player.specs.Boxes.{Boxed}
use Rattle.ec_player.specs.Faults.{entries_of}
use Rattle.ec_player.specs.Images.{last_byte}
use Rattle.ec_player.proofs.ImageLemmas.{bring-step}
use Rattle.ec_player.proofs.images.bring.Goals as goal

pub loop-frame-preserved : goal.loop-frame-preserved
loop-frame-preserved c = record {
  len = c.bring_frame.ensures.len ∙ c.loop-frame.invariant.len;
  bytes = λ k l.
      c.bring_frame.ensures.bytes k (subst (λ n. k < n) (sym c.loop-frame.invariant.len) l)
      ∙ ap (λ (f : ArrayVec ℕ). unwrap_or (last_byte (65536 + k) (entries_of f.items)) (get_or c.loop-frame.came k 0)) c.deref.ensures
      ∙ ap (λ w. unwrap_or (last_byte (65536 + k) (entries_of c.frame-item.result.value.items)) w) (c.loop-frame.invariant.bytes k l)
      ∙ sym (bring-step (λ (b : Boxed). b.value.items) c.args.frames.now c.loop-frame.frame-index c.frame-item.result c.loop-frame-test.true c.frame-item.is (65536 + k) _);
}
