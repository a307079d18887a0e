-- The bytes that are read have one capture file, and its text is that of frames alone.
use Rattle.std.proofs.Common.{◌≡◌, ℕ, List, Option, inl, subst}
use Rattle.ec_units.specs.declared.slave.Place.{Place}
use Rattle.ec_unit_text.specs.Reading.{reading}
use Rattle.ec_units.specs.Views.{UnitsView}
use Rattle.ec_frame_text.specs.Captures.{IsCapture}
use Rattle.ec_frame_text.proofs.OnceLemmas.{capture_once}
use Rattle.ec_cli_command.specs.declared.job.Job.TheVariants as job
use Rattle.ec_cli_text.specs.Plans.{IsFramedPlan}
use Rattle.ec_cli_text.specs.Framed.{IsCaptureFor, IsCaptured}
use Rattle.ec_cli_text.specs.Output.{Written, IsOutput}
use Rattle.ec_cli_run.proofs.OneOutput.{ok_once, plan_once}

pub file_once : (cert : Option (List ℕ)) (bytes : List ℕ) (a b : List ℕ) → IsCaptureFor cert bytes a → IsCaptureFor cert bytes b → a ≡ b
file_once cert bytes a b h k =
    let units : h.units ≡ k.units = ok_once (reading bytes) h.units k.units h.said k.said in
    let places : h.places ≡ k.places = plan_once cert k.units h.places k.places (subst (λ (v : UnitsView). IsFramedPlan cert v h.places) units h.plan) k.plan in
    let own : IsCapture k.units k.places a = subst (λ (ps : List Place). IsCapture k.units ps a) places (subst (λ (v : UnitsView). IsCapture v h.places a) units h.capture) in
    capture_once k.units k.places a b own k.capture

pub frames_told : (cert : Option (List ℕ)) (bytes : List ℕ) (w : Written) (file : List ℕ) → IsCaptured cert bytes w file → IsOutput job.Frames bytes cert w
frames_told cert bytes w file h = inl (h.drawn.units, h.drawn.short, h.drawn.said, inl (h.drawn.places, h.drawn.plan, h.text, h.status))
