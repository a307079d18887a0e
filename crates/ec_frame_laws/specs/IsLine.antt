-- A plan, and modelled slaves for it.
use Rattle.std.specs.Prelude.{◌≡◌, ℕ, List, length}
use Rattle.ec_units.specs.declared.slave.Place.{Place}
use Rattle.ec_units.specs.declared.units.Units.{Units}
use Rattle.ec_units.specs.Together.{stations_of}
use Rattle.ec_fmmu.specs.declared.mapping.Mapping.{Mapping}
use Rattle.ec_frame_builder.specs.Frames.{IsLayoutFor}
use Rattle.ec_play_laws.specs.Started.{AreMemories}

-- these are the memories of slaves, one for each slave of the units, which have this layout
pub record IsLine (us : Units) (ps : List Place) (m : Mapping) (slaves : List (List ℕ)) : Type 0 where
  pub layout : IsLayoutFor us ps m
  pub memories : AreMemories slaves
  pub each : length slaves ≡ length (stations_of us.units)
