use Rattle.std.proofs.Common.{length, sum_by, sym, ap, ◌∙◌}
use Rattle.ec_frames.specs.Written.{written}
use Rattle.ec_frame_builder.specs.Frames.{frame_of}
use Rattle.ec_frame_builder.proofs.FrameLemmas.{data-length}
use Rattle.ec_frame_builder.proofs.frames.write_groups.Goals as goal

pub rebuild-requires : goal.rebuild-requires
rebuild-requires c =
    ap (sum_by (λ d. d.len)) (c.deref.ensures.value ∙ c.in_ok-list.ensures)
    ∙ data-length c.args.bytes.now c.args.groups.now c.requires.within
    ∙ ap length (sym (c.deref-2.ensures.0 ∙ c.data_bytes-data.ensures))

pub returns-clause-frame : goal.returns-clause-frame
unfolding frame_of
returns-clause-frame c = c.in-Ok.ensures.ok ∙ (λ i. written ((c.deref.ensures.value ∙ c.in_ok-list.ensures) i) ((c.deref-2.ensures.0 ∙ c.data_bytes-data.ensures) i))
