-- A play through modelled slaves.
use Rattle.std.proofs.Common.{◌≡◌, inl, inr, ℕ, ◌<◌, ◌||◌, false, List, [], Err, length, map, get_or, sym, ◌∙◌, subst, ◌-◌, cond, unwrap_or, ap}
use Rattle.std.specs.List.{range_with_len}
use Rattle.std.proofs.lemmas.Bool.{or_left}
use Rattle.std.proofs.lemmas.Option.{none-some}
use Rattle.ec_units.specs.declared.slave.Place.{Place}
use Rattle.ec_units.specs.declared.units.Units.{Units}
use Rattle.ec_units.specs.Together.{stations_of}
use Rattle.ec_units.specs.Views.{unit_view}
use Rattle.ec_fmmu.specs.declared.mapping.Mapping.{Mapping}
use Rattle.ec_fmmu.specs.Seats.{seats_of}
use Rattle.ec_slave.specs.Step.{frame_after, memory_after}
use Rattle.ec_frame_builder.specs.Frames.{HasLayout, IsLayoutFor}
use Rattle.ec_outcome.specs.declared.play.PlayFault.{PlayFault}
use Rattle.ec_player.specs.Sent.{start_sents, ticks_sents, all_sents}
use Rattle.ec_player.specs.Lines.{slaves_after, came_back, AreRight, IsMemory}
use Rattle.ec_player.specs.Images.{last_byte, all_entries, image_after}
use Rattle.ec_fmmu.specs.declared.seat.Seat.{Seat}
use Rattle.ec_player.specs.Plays.{IsAnswer}
use Rattle.ec_play_laws.specs.Started.{AreMemories, started}
use Rattle.ec_play_laws.specs.IsReady.{AreReady}
use Rattle.ec_play_laws.specs.Arrivals.{HoldsOutputs, OutputsArrived, inputs_after, InputsArrived, InputsAreAbsent}
use Rattle.ec_play_laws.proofs.RunLemmas.{Runs, runs-append}
use Rattle.ec_play_laws.proofs.StartLaw.{start-runs}
use Rattle.ec_play_laws.proofs.DataLemmas.{AreServed, served-weaker}
use Rattle.ec_play_laws.proofs.PlayLemmas.{IsSet, ticks-pass, ready-in, seats_in, kept-in, serves, held}
use Rattle.ec_play_laws.proofs.TellLemmas.{in_address}
use Rattle.ec_play_laws.proofs.InputLemmas.{serves-none, input-after}
use Rattle.ec_play_laws.proofs.ServedLemmas.{served-ticks, served-none, served-at}

-- all frames of a play
record Played (us : Units) (ps : List Place) (m : Mapping) (image : List ℕ) (n : ℕ) (slaves : List (List ℕ)) : Type 0 where
  after : List (List ℕ)
  runs : Runs slaves (all_sents us m image n) after
  ready : AreReady (seats_in us ps) (seats_in us ps) after
  served : AreServed (seats_in us ps) image (serves us m (range_with_len 0 n)) (seats_in us ps) after
  shown : (i k : ℕ) (d : Seat) → i < length (seats_in us ps) → k < (get_or (seats_in us ps) i d).in_bytes →
      unwrap_or (last_byte (in_address (seats_in us ps) (get_or (seats_in us ps) i d) k) (all_entries (came_back frame_after memory_after (slaves_after frame_after memory_after slaves (start_sents us m)) (ticks_sents us m image n)))) 0
      ≡ cond (serves us m (range_with_len 0 n) (get_or (seats_in us ps) i d)) (held (seats_in us ps) i k d after) 0

all-runs : (us : Units) (ps : List Place) (m : Mapping) (image : List ℕ) (n : ℕ) (slaves : List (List ℕ)) → IsLayoutFor us ps m → length image ≡ m.total → AreMemories slaves →
    length slaves ≡ length (stations_of us.units) → Played us ps m image n slaves
all-runs us ps m image n slaves laid len whole even =
    let seats = seats_in us ps in
    let set : IsSet us ps m image = record { laid = laid; sized = len } in
    let now = started (stations_of us.units) m.fmmus slaves in
    let starts = start-runs us m slaves (ps, laid) whole even in
    let ready = ready-in us ps m image slaves set whole even in
    let ticks = ticks-pass us ps m image (range_with_len 0 n) now set ready in
    record {
      after = ticks.after;
      runs = runs-append slaves now ticks.after (start_sents us m) (ticks_sents us m image n) starts ticks.runs;
      ready = ticks.ready;
      served = served-weaker seats image (λ s. serves us m (range_with_len 0 n) s || false) (serves us m (range_with_len 0 n)) seats ticks.after
          (λ s t. or_left (serves us m (range_with_len 0 n) s) false t) (ticks.served (λ s. false) (served-none seats image seats now));
      shown = λ i k d l less.
          ap (λ w. unwrap_or (last_byte (in_address seats (get_or seats i d) k) (all_entries (came_back frame_after memory_after w (ticks_sents us m image n)))) 0) starts.left
          ∙ ticks.told i k d l less 0
          ∙ ap (λ v. cond (serves us m (range_with_len 0 n) (get_or seats i d)) v 0) (sym (ticks.stays i k d l less));
    }

pub play-runs : (us : Units) (m : Mapping) (image : List ℕ) (n : ℕ) (slaves : List (List ℕ)) → HasLayout us m → length image ≡ m.total → AreMemories slaves → length slaves ≡ length (stations_of us.units) →
    AreRight frame_after memory_after slaves 0 (all_sents us m image n)
play-runs us m image n slaves laid len whole even = (all-runs us laid.0 m image n slaves laid.1 len whole even).runs.right 0

pub outputs-arrive : (us : Units) (ps : List Place) (m : Mapping) (image : List ℕ) (n t : ℕ) (slaves : List (List ℕ)) → IsLayoutFor us ps m → length image ≡ m.total → AreMemories slaves →
    length slaves ≡ length (stations_of us.units) → t < n →
    OutputsArrived (seats_of (map unit_view us.units) ps) image t (slaves_after frame_after memory_after slaves (all_sents us m image n))
outputs-arrive us ps m image n t slaves laid len whole even less i s l goes =
    let play = all-runs us ps m image n slaves laid len whole even in
    let set : IsSet us ps m image = record { laid = laid; sized = len } in
    subst (λ ms. HoldsOutputs (seats_in us ps) image (get_or (seats_in us ps) i s) (get_or ms i [])) (sym play.runs.left)
    (served-at (seats_in us ps) image (serves us m (range_with_len 0 n)) (seats_in us ps) play.after i s play.served play.ready l (served-ticks us ps m image n t i s set less l goes))

-- an input of the image after a play
shown-input : (us : Units) (ps : List Place) (m : Mapping) (image : List ℕ) (n i k : ℕ) (d : Seat) (slaves : List (List ℕ)) → (laid : IsLayoutFor us ps m) → length image ≡ m.total → AreMemories slaves →
    length slaves ≡ length (stations_of us.units) → i < length (seats_in us ps) → k < (get_or (seats_in us ps) i d).in_bytes →
    get_or (inputs_after us m image n slaves) (in_address (seats_in us ps) (get_or (seats_in us ps) i d) k - 65536) 0
    ≡ cond (serves us m (range_with_len 0 n) (get_or (seats_in us ps) i d)) (held (seats_in us ps) i k d (slaves_after frame_after memory_after slaves (all_sents us m image n))) 0
shown-input us ps m image n i k d slaves laid len whole even l less =
    let seats = seats_in us ps in
    let x = get_or seats i d in
    let play = all-runs us ps m image n slaves laid len whole even in
    let backs = came_back frame_after memory_after (slaves_after frame_after memory_after slaves (start_sents us m)) (ticks_sents us m image n) in
    ap (λ fs. get_or (image_after fs image backs) (in_address seats x k - 65536) 0) laid.layout.fmmus
    ∙ input-after seats image (all_entries backs) i k d (kept-in us ps) (len ∙ laid.layout.total) l less
    ∙ play.shown i k d l less
    ∙ ap (λ ms. cond (serves us m (range_with_len 0 n) x) (held seats i k d ms) 0) (sym play.runs.left)

pub inputs-arrive : (us : Units) (ps : List Place) (m : Mapping) (image : List ℕ) (n t : ℕ) (slaves : List (List ℕ)) → IsLayoutFor us ps m → length image ≡ m.total → AreMemories slaves →
    length slaves ≡ length (stations_of us.units) → t < n →
    InputsArrived (seats_of (map unit_view us.units) ps) (inputs_after us m image n slaves) t (slaves_after frame_after memory_after slaves (all_sents us m image n))
inputs-arrive us ps m image n t slaves laid len whole even below i s l goes k less =
    let set : IsSet us ps m image = record { laid = laid; sized = len } in
    shown-input us ps m image n i k s slaves laid len whole even l less
    ∙ ap (λ b. cond b (held (seats_in us ps) i k s (slaves_after frame_after memory_after slaves (all_sents us m image n))) 0) (served-ticks us ps m image n t i s set below l goes)

pub inputs-absent : (us : Units) (ps : List Place) (m : Mapping) (image : List ℕ) (n : ℕ) (slaves : List (List ℕ)) → IsLayoutFor us ps m → length image ≡ m.total → AreMemories slaves →
    length slaves ≡ length (stations_of us.units) →
    InputsAreAbsent (seats_of (map unit_view us.units) ps) (inputs_after us m image n slaves) n
inputs-absent us ps m image n slaves laid len whole even i s l still k less =
    shown-input us ps m image n i k s slaves laid len whole even l less
    ∙ ap (λ b. cond b (held (seats_in us ps) i k s (slaves_after frame_after memory_after slaves (all_sents us m image n))) 0) (serves-none us m n (get_or (seats_in us ps) i s) still)

pub play-lacks : (us : Units) (m : Mapping) (image : List ℕ) (n : ℕ) (slaves : List (List ℕ)) (f : PlayFault) → HasLayout us m → length image ≡ m.total → AreMemories slaves → length slaves ≡ length (stations_of us.units) →
    IsAnswer frame_after memory_after IsMemory us m image n slaves (Err f) → IsMemory f
play-lacks us m image n slaves f laid len whole even (inl lacks) = lacks
play-lacks us m image n slaves f laid len whole even (inr faulty) = absurd (none-some f (sym (play-runs us m image n slaves laid len whole even) ∙ faulty))
