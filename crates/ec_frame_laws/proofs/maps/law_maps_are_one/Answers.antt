use Rattle.ec_frame_laws.proofs.MapLemmas.{record-maps, slaves-map}
use Rattle.ec_frame_laws.proofs.maps.law_maps_are_one.Goals as goal

pub returns-clause-record : goal.returns-clause-record
returns-clause-record c = record-maps

pub returns-clause-slaves : goal.returns-clause-slaves
returns-clause-slaves c = slaves-map
