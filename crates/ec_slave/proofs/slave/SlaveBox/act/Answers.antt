use Rattle.std.proofs.Common.{◌≡◌, List, ℕ, length, refl, ap, sym, ◌∙◌, subst, arith}
use Rattle.ec_frames.specs.Reading.{Entry, ReadsAs}
use Rattle.ec_slave.specs.Step.{datagrams_step}
use Rattle.ec_slave.proofs.StepLemmas.{extent_fits, step_read, step_unread, rewritten}
use Rattle.ec_slave.proofs.slave.SlaveBox.act.Goals as goal

-- what is read of the copy is read of the frame
moved : (copy frame : List ℕ) (ds : List Entry) → copy ≡ frame → ReadsAs copy ds → ReadsAs frame ds
moved copy frame ds e h = subst (λ (x : List ℕ). ReadsAs x ds) e h

pub step_datagrams-requires-clause-room : goal.step_datagrams-requires-clause-room
step_datagrams-requires-clause-room c =
    let arriving : c.as_slice-2.result.now ≡ c.args.frame.now.items = c.as_slice-2.ensures.value ∙ c.refill.ensures ∙ c.as_slice.ensures.value in
    let fits = extent_fits c.args.frame.now.items c.in-Ok.parsed (moved _ _ c.in-Ok.parsed arriving ((c.in-Ok.ensures.ok c.in-Ok.parsed).0 refl)) in
    omega (arith, fits, ap length c.as_mut_slice-in-Ok.ensures.value)

pub returns-in-Ok-clause-memory : goal.returns-in-Ok-clause-memory
returns-in-Ok-clause-memory c =
    let arriving : c.as_slice-2.result.now ≡ c.args.frame.now.items = c.as_slice-2.ensures.value ∙ c.refill.ensures ∙ c.as_slice.ensures.value in
    let reads = moved _ _ c.in-Ok.parsed arriving ((c.in-Ok.ensures.ok c.in-Ok.parsed).0 refl) in
    let memory : c.as_mut_slice.result.now ≡ c.args.self.now = c.as_mut_slice.ensures.value ∙ c.self.view_is in
    let frame : c.as_mut_slice-in-Ok.result.now ≡ c.args.frame.now.items = c.as_mut_slice-in-Ok.ensures.value in
    rewritten c.self.inside.memory.len c.step_datagrams.new.memory c.self.inside.memory.items (omega (arith, ap length c.as_mut_slice.ensures.value, c.step_datagrams.auto.memory)) (omega (arith, c.self.inside.memory.ok.0))
    ∙ c.step_datagrams.ensures.memory
    ∙ (λ i. (datagrams_step 16 c.in-Ok.parsed (memory i, frame i)).0)
    ∙ sym (ap (λ s. s.0) (step_read c.args.self.now c.args.frame.now.items c.in-Ok.parsed reads))

pub returns-in-Ok-clause-frame : goal.returns-in-Ok-clause-frame
returns-in-Ok-clause-frame c =
    let arriving : c.as_slice-2.result.now ≡ c.args.frame.now.items = c.as_slice-2.ensures.value ∙ c.refill.ensures ∙ c.as_slice.ensures.value in
    let reads = moved _ _ c.in-Ok.parsed arriving ((c.in-Ok.ensures.ok c.in-Ok.parsed).0 refl) in
    let memory : c.as_mut_slice.result.now ≡ c.args.self.now = c.as_mut_slice.ensures.value ∙ c.self.view_is in
    let frame : c.as_mut_slice-in-Ok.result.now ≡ c.args.frame.now.items = c.as_mut_slice-in-Ok.ensures.value in
    rewritten (length c.args.frame.now.items) c.step_datagrams.new.frame c.args.frame.now.items (omega (arith, ap length c.as_mut_slice-in-Ok.ensures.value, c.step_datagrams.auto.frame)) refl
    ∙ c.step_datagrams.ensures.frame
    ∙ (λ i. (datagrams_step 16 c.in-Ok.parsed (memory i, frame i)).1)
    ∙ sym (ap (λ s. s.1) (step_read c.args.self.now c.args.frame.now.items c.in-Ok.parsed reads))

pub returns-in_default-clause-memory : goal.returns-in_default-clause-memory
returns-in_default-clause-memory c =
    let arriving : c.as_slice-2.result.now ≡ c.args.frame.now.items = c.as_slice-2.ensures.value ∙ c.refill.ensures ∙ c.as_slice.ensures.value in
    c.self.view_is ∙ sym (ap (λ s. s.0) (step_unread c.args.self.now c.args.frame.now.items c.in_default.field-0 (rw arriving at ((c.in_default.ensures.fault c.in_default.field-0).0 refl))))

pub returns-in_default-clause-frame : goal.returns-in_default-clause-frame
returns-in_default-clause-frame c =
    let arriving : c.as_slice-2.result.now ≡ c.args.frame.now.items = c.as_slice-2.ensures.value ∙ c.refill.ensures ∙ c.as_slice.ensures.value in
    sym (ap (λ s. s.1) (step_unread c.args.self.now c.args.frame.now.items c.in_default.field-0 (rw arriving at ((c.in_default.ensures.fault c.in_default.field-0).0 refl))))
