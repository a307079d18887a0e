-- What a play with threads may lack, and what it says of its answer.
use Rattle.std.specs.Prelude.{◌≡◌, ◌⊎◌, Result, Ok, Err}
use Rattle.ec_outcome.specs.declared.play.PlayFault.{PlayFault}
use Rattle.ec_outcome.specs.declared.play.PlayFault.TheVariants as fault
use Rattle.ec_player.specs.declared.playing.Played.{Played}
use Rattle.ec_player.specs.Lines.{IsMemory}

-- a ring couldn't be made or finished, or a thread not be started
abbrev pub IsThreading : PlayFault → Type 0
IsThreading f = (f ≡ fault.Ring) ⊎ (f ≡ fault.Spawn)

-- or memory ran out
abbrev pub IsLack : PlayFault → Type 0
IsLack f = IsMemory f ⊎ IsThreading f

-- two plays told the same, and left the same image and the same slaves
pub record AreSame {X : Type 0} (p q : Played X) : Type 0 where
  pub starts : p.start ≡ q.start
  pub rows : p.ticks ≡ q.ticks
  pub inputs : p.image.items ≡ q.image.items
  pub line : p.slaves.items ≡ q.slaves.items

-- two answers are the same, but for what one of them lacked
abbrev pub SameAnswers : {X : Type 0} → (PlayFault → Type 0) → Result (Played X) PlayFault → Result (Played X) PlayFault → Type 0
SameAnswers lacks (Ok p) (Ok q) = AreSame p q
SameAnswers lacks (Ok p) (Err g) = lacks g
SameAnswers lacks (Err f) (Ok q) = lacks f
SameAnswers lacks (Err f) (Err g) = (lacks f ⊎ lacks g) ⊎ (f ≡ g)
