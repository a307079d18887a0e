-- How many slaves a line has, and how many start frames.
use Rattle.std.proofs.Common.{◌≡◌, ℕ, suc, ◌+◌, ◌*◌, ◌≤◌, List, [], ◌∷◌, ◌++◌, length, length-append, map, refl, sym, ap, ◌∙◌, arith}
use Rattle.std.proofs.lemmas.List.{length-map, map-append}
use Rattle.ec_units.specs.declared.slave.Place.{Place}
use Rattle.ec_units.specs.declared.slave.Slave.{Slave}
use Rattle.ec_units.specs.declared.unit.Unit.{Unit as SyncUnit}
use Rattle.ec_units.specs.declared.units.Units.{Units}
use Rattle.ec_units.specs.Load.{load_of}
use Rattle.ec_units.specs.Together.{stations_of}
use Rattle.ec_units.specs.Views.{slave_view, unit_view, SlaveView}
use Rattle.ec_fmmu.specs.declared.fmmu.Fmmu.{Fmmu}
use Rattle.ec_fmmu.specs.declared.seat.Key.{Key}
use Rattle.ec_fmmu.specs.declared.mapping.Mapping.{Mapping}
use Rattle.ec_fmmu.specs.Seats.{slave_seats, key_at, seats_from, seats_of}
use Rattle.ec_fmmu.specs.Mappings.{records_of}
use Rattle.ec_frame_builder.specs.Frames.{IsLayoutFor}
use Rattle.ec_frame_builder.specs.Start.{roll_call, namings, mapping_frames, start_list, start_bytes}

length-slaves : (k : Key) (n i : ℕ) (ss : List SlaveView) → length (slave_seats k n i ss) ≡ length ss
length-slaves k n i [] = refl
length-slaves k n i (s ∷ ss) = ap suc (length-slaves k n (suc i) ss)

-- each slave has its two records
pub length-seats : (n : ℕ) (us : List SyncUnit) (ps : List Place) → length ps ≡ length us → length (seats_from n (map unit_view us) ps) ≡ length (stations_of us)
length-seats n [] ps h = refl
length-seats n (u ∷ us) [] h = absurd (omega (arith, h))
length-seats n (u ∷ us) (p ∷ ps) h =
    let k = key_at (unit_view u) p in
    let a = length-append (slave_seats k n 0 (map slave_view u.slaves)) (seats_from (suc n) (map unit_view us) ps) in
    let b = length-append (map (λ s. s.station) u.slaves) (stations_of us) in
    let own = length-slaves k n 0 (map slave_view u.slaves) in
    let views = length-map u.slaves slave_view in
    let names = length-map u.slaves (λ (s : Slave). s.station) in
    let rest = length-seats (suc n) us ps (omega (arith, h)) in
    omega (arith, a, b, own, views, names, rest)

pub pairs-each : (us : Units) (ps : List Place) (m : Mapping) → IsLayoutFor us ps m → length m.fmmus ≡ length (stations_of us.units)
pairs-each us ps m h =
    let seats = seats_of (map unit_view us.units) ps in
    ap length h.layout.fmmus ∙ length-map seats (records_of seats) ∙ length-seats 0 us.units ps (h.legal.whole ∙ length-map us.units load_of)

-- at most 8 in each unit
pub few-stations : (us : List SyncUnit) → length (stations_of us) ≤ 8 * length us
few-stations [] = omega arith
few-stations (u ∷ us) =
    let b = length-append (map (λ s. s.station) u.slaves) (stations_of us) in
    let names = length-map u.slaves (λ (s : Slave). s.station) in
    let most = u.slave_count.1 in
    let rest = few-stations us in
    omega (arith, b, names, most, rest)

length-namings : (i : ℕ) (ss : List ℕ) → length (namings i ss) ≡ length ss
length-namings i [] = refl
length-namings i (s ∷ ss) = ap suc (length-namings (suc i) ss)

length-mappings : (ss : List ℕ) (ps : List (List Fmmu)) → length ps ≡ length ss → length (mapping_frames ss ps) ≡ length ss
length-mappings [] ps h = refl
length-mappings (s ∷ ss) [] h = absurd (omega (arith, h))
length-mappings (s ∷ ss) (p ∷ ps) h = ap suc (length-mappings ss ps (omega (arith, h)))

pub length-starts : (ss : List ℕ) (ps : List (List Fmmu)) → length ps ≡ length ss → length (start_list ss ps) ≡ 1 + 2 * length ss
length-starts ss ps h =
    let a = length-append (namings 0 ss) (mapping_frames ss ps) in
    let b = length-namings 0 ss in
    let c = length-mappings ss ps h in
    omega (arith, a, b, c)

-- the frames of three steps are those of the list
pub frames-whole : {F : Type 0} (f : F → List ℕ) (a b d : List F) (ss : List ℕ) (ps : List (List Fmmu)) → map f a ≡ start_bytes (roll_call (length ss)) ∷ [] →
    map f b ≡ map f a ++ map start_bytes (namings 0 ss) → map f d ≡ map f b ++ map start_bytes (mapping_frames ss ps) → map f d ≡ map start_bytes (start_list ss ps)
frames-whole f a b d ss ps first second third =
    third
    ∙ ap (λ w. w ++ map start_bytes (mapping_frames ss ps)) (second ∙ ap (λ w. w ++ map start_bytes (namings 0 ss)) first)
    ∙ ap (λ w. start_bytes (roll_call (length ss)) ∷ w) (sym (map-append start_bytes (namings 0 ss) (mapping_frames ss ps)))

pub length-frames : {F : Type 0} (f : F → List ℕ) (d : List F) (ss : List ℕ) (ps : List (List Fmmu)) → length ps ≡ length ss → map f d ≡ map start_bytes (start_list ss ps) → length d ≡ 1 + 2 * length ss
length-frames f d ss ps h e = sym (length-map d f) ∙ ap length e ∙ length-map (start_list ss ps) start_bytes ∙ length-starts ss ps h
