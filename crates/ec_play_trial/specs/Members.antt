-- The slaves of a line, of which some are lost.
use Rattle.std.specs.Prelude.{ℕ, ◌==◌, if◌then◌else◌, List, [], ◌∷◌}
use Rattle.std.specs.List.{list_any}
use Rattle.ec_slave.specs.Step.{frame_after, memory_after}
use Rattle.ec_play_trial.specs.declared.member.Member.{Member}

-- what a member hands on of a frame: the frame as it is where it is lost, else what a modelled slave makes of it
abbrev pub handed_on : Member → List ℕ → List ℕ
handed_on m frame = if m.is_lost then frame else frame_after m.slave frame

-- the member after it
abbrev pub left : Member → List ℕ → Member
left m frame = if m.is_lost then m else record { slave = memory_after m.slave frame; is_lost = m.is_lost }

-- slaves by station: those with a station of some are lost
abbrev pub members : List ℕ → List ℕ → List (List ℕ) → List Member
members lost [] ms = []
members lost (s ∷ ss) [] = []
members lost (s ∷ ss) (m ∷ ms) = record { slave = m; is_lost = list_any (λ l. l == s) lost } ∷ members lost ss ms
