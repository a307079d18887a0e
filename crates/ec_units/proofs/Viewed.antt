-- Units beside their views.
-- What units keep together is proved of their views: their names, stations and periods are those of the tables.
use Rattle.std.proofs.Common.{◌≡◌, ℕ, ◌+◌, List, [], ◌∷◌, map, refl, ap, sym, ◌∙◌}
use Rattle.std.specs.List.{flat_map}
use Rattle.std.proofs.lemmas.List.Sums.{sum_by-cons}
use Rattle.ec_units.specs.declared.slave.Slave.{Slave}
use Rattle.ec_units.specs.declared.unit.Unit.{Unit as SyncUnit}
use Rattle.ec_units.specs.Bytes.{bytes_of_slaves}
use Rattle.ec_units.specs.Load.{loads_of, periods_of}
use Rattle.ec_units.specs.Together.{names_of, stations_of}
use Rattle.ec_units.specs.Views.{SlaveView, UnitView, slave_view, unit_view, view_bytes, view_loads}

-- the bytes of slaves are those of their views
abbrev slave_bytes_of : Slave → ℕ
slave_bytes_of s = s.out_bytes + s.in_bytes

abbrev pub view_bytes_of : SlaveView → ℕ
view_bytes_of s = s.out_bytes + s.in_bytes

pub view_bytes-slaves : (ss : List Slave) → bytes_of_slaves ss ≡ view_bytes (map slave_view ss)
view_bytes-slaves [] = refl
view_bytes-slaves (s ∷ ss) =
    sum_by-cons slave_bytes_of s ss ∙ ap (λ n. (s.out_bytes + s.in_bytes) + n) (view_bytes-slaves ss) ∙ sym (sum_by-cons view_bytes_of (slave_view s) (map slave_view ss))

-- the loads of units are those of their views
pub loads_of-views : (us : List SyncUnit) → loads_of us ≡ view_loads (map unit_view us)
loads_of-views [] = refl
loads_of-views (u ∷ us) = rw (view_bytes-slaves u.slaves, loads_of-views us)

-- their periods, names and stations
abbrev pub view_periods : List UnitView → List ℕ
view_periods vs = map (λ v. v.period) vs

pub periods_of-views : (us : List SyncUnit) → periods_of (loads_of us) ≡ view_periods (map unit_view us)
periods_of-views [] = refl
periods_of-views (u ∷ us) = ap (λ w. u.period ∷ w) (periods_of-views us)

abbrev pub view_names : List UnitView → List (List ℕ)
view_names vs = map (λ v. v.name) vs

pub names_of-views : (us : List SyncUnit) → names_of us ≡ view_names (map unit_view us)
names_of-views [] = refl
names_of-views (u ∷ us) = ap (λ w. u.name ∷ w) (names_of-views us)

abbrev pub view_stations : List SlaveView → List ℕ
view_stations ss = map (λ s. s.station) ss

view_stations-slaves : (ss : List Slave) → map (λ s. s.station) ss ≡ view_stations (map slave_view ss)
view_stations-slaves [] = refl
view_stations-slaves (s ∷ ss) = ap (λ w. s.station ∷ w) (view_stations-slaves ss)

abbrev pub all_stations : List UnitView → List ℕ
all_stations vs = flat_map (λ v. view_stations v.slaves) vs

pub stations_of-views : (us : List SyncUnit) → stations_of us ≡ all_stations (map unit_view us)
stations_of-views [] = refl
stations_of-views (u ∷ us) = rw (view_stations-slaves u.slaves, stations_of-views us)
