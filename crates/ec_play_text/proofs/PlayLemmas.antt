-- From what a play answers to its text.
-- The law of modelled slaves is called where it is needed (`law_play_is_right();`); its clause is a premise of `new_right`.
-- That no frame is faulty then leaves of `IsAnswer` what was wanting (`only_lacks`).
use Rattle.std.proofs.Common.{◌≡◌, ℕ, zero, suc, List, length, map, replicate, None, Some, Result, Ok, Err, sym, ap, ◌∙◌, subst, inl, inr}
use Rattle.std.specs.Prelude.{IfErr}
use Rattle.std.specs.List.{range_with_len}
use Rattle.std.proofs.lemmas.List.{length-replicate}
use Rattle.std.proofs.lemmas.List.Elements.{All-nil, All-cons}
use Rattle.ec_hyper.specs.Lcm.{lcm_of}
use Rattle.ec_units.specs.declared.unit.Unit.{Unit as SyncUnit}
use Rattle.ec_units.specs.declared.units.Units.{Units}
use Rattle.ec_units.specs.Load.{loads_of, periods_of}
use Rattle.ec_units.specs.Together.{stations_of}
use Rattle.ec_units.specs.declared.slave.Place.{Place}
use Rattle.ec_units.specs.Views.{UnitsView, unit_view, units_view, view_loads}
use Rattle.ec_units.proofs.Viewed.{loads_of-views, stations_of-views}
use Rattle.ec_fmmu.specs.declared.mapping.Mapping.{Mapping}
use Rattle.ec_slave.specs.Step.{frame_after, memory_after}
use Rattle.ec_frame_builder.specs.Start.{start_list, starts_of}
use Rattle.ec_frame_builder.specs.Frames.{HasLayout}
use Rattle.ec_outcome.specs.declared.play.PlayFault.{PlayFault}
use Rattle.ec_player.specs.declared.playing.Played.{Played}
use Rattle.ec_player.specs.declared.rows.TickRow.{TickRow}
use Rattle.ec_player.specs.Sent.{start_sent, start_sents, all_sents}
use Rattle.ec_player.specs.Lines.{AreRight, IsMemory}
use Rattle.ec_player.specs.Plays.{IsAnswer}
use Rattle.ec_player.specs.Rows.{rows_of}
use Rattle.ec_player_threads.specs.Plays.{IsLack}
use Rattle.ec_play_laws.specs.Started.{AreMemories}
use Rattle.ec_frame_text.specs.Lines.{stations_in, zeros}
use Rattle.ec_play_text.specs.Lines.{play_text}
use Rattle.ec_frame_text.proofs.OnceLemmas.{layout_once}
use Rattle.ec_play_text.specs.Plays.{new_slaves, row_at, played, IsPlayText}

-- new slaves are memories, one for each station
pub memories : (k : ℕ) → AreMemories (replicate k (replicate 65536 0))
memories zero = All-nil (λ m. length m ≡ 65536)
memories (suc k) = All-cons (λ m. length m ≡ 65536) (replicate 65536 0) (replicate k (replicate 65536 0)) (length-replicate {A = ℕ} 65536 0) (memories k)

pub as_many : (us : List SyncUnit) → length (new_slaves (stations_in (map unit_view us))) ≡ length (stations_of us)
as_many us = length-replicate (length (stations_in (map unit_view us))) (replicate 65536 0) ∙ ap length (sym (stations_of-views us))

-- no frame that goes through them is faulty, by the law of modelled slaves
abbrev pub Law : Type 0
Law =
    (us : Units) (m : Mapping) (image : List ℕ) (n : ℕ) (slaves : List (List ℕ)) → HasLayout us m → length image ≡ m.total → AreMemories slaves → length slaves ≡ length (stations_of us.units) →
    AreRight frame_after memory_after slaves 0 (all_sents us m image n)

pub new_right : Law → (us : Units) (m : Mapping) (image : List ℕ) (n : ℕ) (slaves : List (List ℕ)) → HasLayout us m → image ≡ zeros m → slaves ≡ new_slaves (stations_in (map unit_view us.units))
    → AreRight frame_after memory_after slaves 0 (all_sents us m image n)
new_right law us m image n slaves layout blank fresh =
    law us m image n slaves layout (ap length blank ∙ length-replicate {A = ℕ} m.total 0) (subst AreMemories (sym fresh) (memories (length (stations_in (map unit_view us.units))))) (ap length fresh ∙ as_many us.units)

-- where no frame is faulty, what is answered is what was wanting
none_some : {A : Type 0} {X : Type 0} (x : X) → None ≡ Some x → A
none_some x e = cc

pub only_lacks : (lacks : PlayFault → Type 0) (us : Units) (m : Mapping) (image : List ℕ) (n : ℕ) (slaves : List (List ℕ)) (r : Result (Played (List ℕ)) PlayFault) → AreRight frame_after memory_after slaves 0 (all_sents us m image n)
    → IsAnswer frame_after memory_after lacks us m image n slaves r → IfErr r lacks
only_lacks lacks us m image n slaves (Ok p) right h = tt
only_lacks lacks us m image n slaves (Err f) right (inl l) = l
only_lacks lacks us m image n slaves (Err f) right (inr e) = none_some f (sym right ∙ e)

-- want of memory is one of what threads may want
pub as_lack : (us : Units) (m : Mapping) (image : List ℕ) (n : ℕ) (slaves : List (List ℕ)) (r : Result (Played (List ℕ)) PlayFault) → IsAnswer frame_after memory_after IsMemory us m image n slaves r → IsAnswer frame_after memory_after IsLack us m image n slaves r
as_lack us m image n slaves (Ok p) h = h
as_lack us m image n slaves (Err f) (inl l) = inl (inl l)
as_lack us m image n slaves (Err f) (inr e) = inr e

-- the text of a play
pub told : (us : Units) (m : Mapping) (start : ℕ) (rows : List TickRow) → start ≡ length (starts_of us m)
    → rows ≡ rows_of frame_after memory_after us m (zeros m) (new_slaves (stations_in (map unit_view us.units))) (start_sents us m) (lcm_of (periods_of (loads_of us.units))) → play_text start rows ≡ played (units_view us) m
unfolding played
told us m start rows e h =
    let same = stations_of-views us.units in
    let starts : start ≡ length (start_list (stations_in (map unit_view us.units)) m.fmmus) = e ∙ ap (λ (ss : List ℕ). length (start_list ss m.fmmus)) same in
    let views = loads_of-views us.units in
    let lines : rows ≡ map (row_at (stations_in (map unit_view us.units)) m us.slots) (range_with_len 0 (lcm_of (periods_of (view_loads (map unit_view us.units))))) =
    h ∙ (λ i. rows_of frame_after memory_after us m (zeros m) (new_slaves (stations_in (map unit_view us.units))) (map start_sent (start_list (same i) m.fmmus)) (lcm_of (periods_of (views i)))) in
    (λ i. play_text (starts i) (lines i))

-- there is one
pub play_once : (v : UnitsView) (places : List Place) (a b : List ℕ) → IsPlayText v places a → IsPlayText v places b → a ≡ b
play_once v places a b p q = p.lines ∙ ap (played v) (layout_once _ p.mapping q.mapping p.layout q.layout) ∙ sym q.lines
