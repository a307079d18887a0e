-- By which rules a search makes its tree.
use Rattle.std.specs.Prelude.{Bool, true, false}
use Rattle.ec_loads.specs.Line.{Rules, turned_time, strong}

-- by the strong rules, or in turned time
abbrev pub searched_by : Bool → Rules
searched_by false = turned_time
searched_by true = strong
