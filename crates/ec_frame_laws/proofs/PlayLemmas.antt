-- What plays through modelled slaves answer.
use Rattle.std.proofs.Common.{◌≡◌, inl, inr, ℕ, ◌<◌, List, length, map, Err, sym, ◌∙◌, subst}
use Rattle.std.proofs.lemmas.Option.{none-some}
use Rattle.ec_units.specs.declared.slave.Place.{Place}
use Rattle.ec_units.specs.declared.units.Units.{Units}
use Rattle.ec_units.specs.Views.{unit_view}
use Rattle.ec_fmmu.specs.declared.mapping.Mapping.{Mapping}
use Rattle.ec_fmmu.specs.Seats.{seats_of}
use Rattle.ec_slave.specs.Step.{memory_after, frame_after}
use Rattle.ec_outcome.specs.declared.play.PlayFault.{PlayFault}
use Rattle.ec_player.specs.declared.playing.Played.{Played}
use Rattle.ec_player.specs.Sent.{all_sents}
use Rattle.ec_player.specs.Lines.{slaves_after}
use Rattle.ec_player.specs.Plays.{IsAnswer, IsPlayed}
use Rattle.ec_play_laws.specs.Arrivals.{OutputsArrived, InputsArrived, InputsAreAbsent}
use Rattle.ec_play_laws.proofs.PlayLaw.{play-runs, outputs-arrive, inputs-arrive, inputs-absent}
use Rattle.ec_frame_laws.specs.IsLine.{IsLine}

pub only-lacks : (lacks : PlayFault → Type 0) (us : Units) (ps : List Place) (m : Mapping) (image : List ℕ) (n : ℕ) (slaves : List (List ℕ)) (f : PlayFault) → IsLine us ps m slaves → length image ≡ m.total →
    IsAnswer frame_after memory_after lacks us m image n slaves (Err f) → lacks f
only-lacks lacks us ps m image n slaves f line sized (inl wanting) = wanting
only-lacks lacks us ps m image n slaves f line sized (inr faulty) =
    absurd (none-some f (sym (play-runs us m image n slaves (ps, line.layout) sized line.memories line.each) ∙ faulty))

pub played-outputs : (us : Units) (ps : List Place) (m : Mapping) (image : List ℕ) (n t : ℕ) (slaves : List (List ℕ)) (p : Played (List ℕ)) → IsLine us ps m slaves → length image ≡ m.total →
    IsPlayed frame_after memory_after us m image n slaves p → t < n → OutputsArrived (seats_of (map unit_view us.units) ps) image t p.slaves.items
played-outputs us ps m image n t slaves p line sized played l =
    subst (OutputsArrived (seats_of (map unit_view us.units) ps) image t) (sym played.line)
    (outputs-arrive us ps m image n t slaves line.layout sized line.memories line.each l)

pub played-inputs : (us : Units) (ps : List Place) (m : Mapping) (image : List ℕ) (n t : ℕ) (slaves : List (List ℕ)) (p : Played (List ℕ)) → IsLine us ps m slaves → length image ≡ m.total →
    IsPlayed frame_after memory_after us m image n slaves p → t < n → InputsArrived (seats_of (map unit_view us.units) ps) p.image.items t p.slaves.items
played-inputs us ps m image n t slaves p line sized played l =
    let after = slaves_after frame_after memory_after slaves (all_sents us m image n) in
    subst (InputsArrived (seats_of (map unit_view us.units) ps) p.image.items t) (sym played.line)
    (subst (λ bs. InputsArrived (seats_of (map unit_view us.units) ps) bs t after) (sym played.inputs)
    (inputs-arrive us ps m image n t slaves line.layout sized line.memories line.each l))

pub played-others : (us : Units) (ps : List Place) (m : Mapping) (image : List ℕ) (n : ℕ) (slaves : List (List ℕ)) (p : Played (List ℕ)) → IsLine us ps m slaves → length image ≡ m.total →
    IsPlayed frame_after memory_after us m image n slaves p → InputsAreAbsent (seats_of (map unit_view us.units) ps) p.image.items n
played-others us ps m image n slaves p line sized played =
    subst (λ bs. InputsAreAbsent (seats_of (map unit_view us.units) ps) bs n) (sym played.inputs)
    (inputs-absent us ps m image n slaves line.layout sized line.memories line.each)
