-- The start frames of units with a layout.
use Rattle.std.proofs.Common.{◌≡◌, ℕ, ◌==◌, Bool, true, false, cond, List, [], ◌∷◌, ◌++◌, length, get_or, map, replicate, refl, sym, subst, arith, length-append, All}
use Rattle.std.specs.List.{flat_map}
use Rattle.std.proofs.lemmas.List.Elements.{All-map}
use Rattle.ec_units.specs.declared.units.Units.{Units}
use Rattle.ec_units.specs.Together.{stations_of}
use Rattle.ec_units.specs.Views.{unit_view}
use Rattle.ec_units.proofs.StationLemmas.{stations_fit}
use Rattle.ec_fmmu.specs.declared.fmmu.Fmmu.{Fmmu}
use Rattle.ec_fmmu.specs.declared.seat.Seat.{Seat}
use Rattle.ec_fmmu.specs.declared.mapping.Mapping.{Mapping}
use Rattle.ec_fmmu.specs.Records.{record_bytes}
use Rattle.ec_fmmu.specs.Seats.{seats_of}
use Rattle.ec_fmmu.specs.Mappings.{records_of}
use Rattle.ec_frame_builder.specs.Frames.{HasLayout}
use Rattle.ec_frame_builder.proofs.StartLemmas.{pairs-each, few-stations}
use Rattle.ec_player.specs.Sent.{start_sents}
use Rattle.ec_play_laws.specs.Started.{AreMemories, started}
use Rattle.ec_play_laws.proofs.RunLemmas.{Runs}
use Rattle.ec_play_laws.proofs.StartLemmas.{starts-run, IsPair}

zeros-or : (b : Bool) (xs : List ℕ) → length xs ≡ 16 → length (cond b (replicate 16 0) xs) ≡ 16
zeros-or true xs h = refl
zeros-or false xs h = h

pub length-record : (f : Fmmu) → length (record_bytes f) ≡ 16
length-record f = zeros-or (f.len == 0) _ refl

pub pair-length : (seats : List Seat) (s : Seat) → IsPair (records_of seats s)
pair-length seats s =
    pair (records_of seats s) (omega arith)
  where
    pair : (fs : List Fmmu) → length fs ≡ 2 → length (flat_map record_bytes fs) ≡ 32
    pair [] h = absurd (omega (arith, h))
    pair (f ∷ []) h = absurd (omega (arith, h))
    pair (f ∷ g ∷ []) h = omega (arith, length-append (record_bytes f) (record_bytes g ++ []), length-append (record_bytes g) [], length-record f, length-record g)
    pair (f ∷ g ∷ e ∷ es) h = absurd (omega (arith, h))

pub start-runs : (us : Units) (m : Mapping) (slaves : List (List ℕ)) → HasLayout us m → AreMemories slaves → length slaves ≡ length (stations_of us.units) →
    Runs slaves (start_sents us m) (started (stations_of us.units) m.fmmus slaves)
start-runs us m slaves laid whole even =
    let seats = seats_of (map unit_view us.units) laid.0 in
    let pairs : All IsPair m.fmmus = subst (All IsPair) (sym laid.1.layout.fmmus) (All-map IsPair (records_of seats) seats (λ i d l. pair-length seats (get_or seats i d))) in
    let few = few-stations us.units in
    let units = us.unit_count.1 in
    starts-run (stations_of us.units) m.fmmus slaves even (pairs-each us laid.0 m laid.1) (omega (arith, few, units)) whole (stations_fit us.units) pairs us.stations_apart
