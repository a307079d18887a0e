-- The bytes on the wire that the lines of a tick name.
use Rattle.std.proofs.Common.{◌≡◌, ℕ, ◌+◌, ◌-◌, ◌≤◌, List, length, map, sum_by, refl, ◌∙◌, arith}
use Rattle.std.proofs.lemmas.List.{length-replicate}
use Rattle.std.proofs.lemmas.List.FromFn.{length-map-range_with_len}
use Rattle.ec_units.specs.declared.slave.Place.{Place}
use Rattle.ec_units.specs.declared.units.Units.{Units}
use Rattle.ec_units.specs.Load.{loads_of}
use Rattle.ec_units.specs.Views.{unit_view, units_view}
use Rattle.ec_wire.specs.Wire.{wire_of}
use Rattle.ec_loads.specs.Cost.{plan_items, tick_cost}
use Rattle.ec_fmmu.specs.declared.mapping.Mapping.{Mapping}
use Rattle.ec_frame_builder.specs.Frames.{going, sent, sent_byte, slot_frame, IsLayoutFor}
use Rattle.ec_frame_builder.proofs.FrameLemmas.{tick-wire}
use Rattle.ec_frame_builder.proofs.GoingLemmas.{sum_by-map}
use Rattle.ec_frame_builder.proofs.WithinLemmas.{groups-within}
use Rattle.ec_player.specs.Sent.{Sent, slot_sent}
use Rattle.ec_frame_text.specs.Lines.{stations_in, wire_bytes, zeros, slots_of}
use Rattle.ec_frame_text.proofs.LineLemmas.{frame_long}
use Rattle.ec_play_text.specs.Plays.{row_at}
use Rattle.ec_frame_laws.specs.Stamps.{frames_at}

wire-more : (n : ℕ) → 60 ≤ n → wire_of (n - 14) ≡ n + 24
wire-more n h = omega arith

slots-cost : (us : Units) (ps : List Place) (m : Mapping) (t : ℕ) → IsLayoutFor us ps m →
    sum_by (λ s. length (slot_frame m (zeros m) t s) + 24) (slots_of m us.slots t) ≡ tick_cost (plan_items (loads_of us.units) ps) us.slots t
slots-cost us ps m t laid =
    let bytes = sent m.fmmus (zeros m) in
    let sized : length bytes ≡ m.total = length-map-range_with_len (sent_byte m.fmmus (zeros m)) 0 (length (zeros m)) ∙ length-replicate {A = ℕ} m.total 0 in
    tick-wire (slot_frame m (zeros m) t) (slots_of m us.slots t) us.units ps m.groups bytes us.slots t laid.layout.groups
    (groups-within us.units ps m.groups (length bytes) laid.layout.groups (sized ∙ laid.layout.total))
    refl

pub lines-cost : (us : Units) (ps : List Place) (m : Mapping) (t : ℕ) → IsLayoutFor us ps m →
    sum_by (λ s. wire_bytes (slot_frame m (zeros m) t s)) (slots_of m us.slots t) ≡ tick_cost (plan_items (loads_of us.units) ps) us.slots t
lines-cost us ps m t laid =
    let each : (s : ℕ) → wire_bytes (slot_frame m (zeros m) t s) ≡ length (slot_frame m (zeros m) t s) + 24 =
    λ s. wire-more (length (slot_frame m (zeros m) t s)) (frame_long (going m.groups t s) (sent m.fmmus (zeros m))) in
    (λ i. sum_by (λ s. each s i) (slots_of m us.slots t)) ∙ slots-cost us ps m t laid

pub file-cost : (us : Units) (ps : List Place) (m : Mapping) (t : ℕ) → IsLayoutFor us ps m →
    sum_by wire_bytes (frames_at (units_view us) m t) ≡ tick_cost (plan_items (loads_of us.units) ps) us.slots t
file-cost us ps m t laid = sum_by-map wire_bytes (slot_frame m (zeros m) t) (slots_of m us.slots t) ∙ lines-cost us ps m t laid

pub row-cost : (us : Units) (ps : List Place) (m : Mapping) (t : ℕ) → IsLayoutFor us ps m →
    (row_at (stations_in (map unit_view us.units)) m us.slots t).bytes ≡ tick_cost (plan_items (loads_of us.units) ps) us.slots t
row-cost us ps m t laid = sum_by-map (λ (s : Sent). length s.bytes + 24) (slot_sent m (zeros m) t) (slots_of m us.slots t) ∙ slots-cost us ps m t laid
