-- Stations of units.
use Rattle.std.proofs.Common.{◌<◌, List, [], ◌∷◌, All, map, get_or}
use Rattle.std.proofs.lemmas.List.Elements.{All-nil, All-append, All-map}
use Rattle.ec_units.specs.declared.unit.Unit.{Unit as SyncUnit}
use Rattle.ec_units.specs.declared.slave.Slave.{Slave}
use Rattle.ec_units.specs.Together.{stations_of}

slaves_fit : (ss : List Slave) → All (λ s. s < 65536) (map (λ s. s.station) ss)
slaves_fit ss = All-map (λ s. s < 65536) (λ s. s.station) ss (λ i d l. (get_or ss i d).station_short)

-- a station has 16 bits
pub stations_fit : (us : List SyncUnit) → All (λ s. s < 65536) (stations_of us)
stations_fit [] = All-nil (λ s. s < 65536)
stations_fit (u ∷ us) = All-append (λ s. s < 65536) (map (λ s. s.station) u.slaves) (stations_of us) (slaves_fit u.slaves) (stations_fit us)
