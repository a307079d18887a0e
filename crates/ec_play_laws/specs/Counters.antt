-- What is said of working counters, as relations.
use Rattle.std.specs.Prelude.{◌≡◌, ◌≢◌, ℕ, ◌<◌, List, length, get_or}
use Rattle.ec_player.specs.declared.faults.Wrong.{Wrong}

-- the first place at which two lists differ
pub record IsFirstWrong (wants gots : List ℕ) (w : Wrong) : Type 0 where
  pub wanted : w.datagram < length wants
  pub there : w.datagram < length gots
  pub want : w.want ≡ get_or wants w.datagram 0
  pub got : w.got ≡ get_or gots w.datagram 0
  pub differ : w.want ≢ w.got
  pub before : (k : ℕ) → k < w.datagram → get_or wants k 0 ≡ get_or gots k 0

-- they differ nowhere, as far as both go
abbrev pub AreAlike : List ℕ → List ℕ → Type 0
AreAlike wants gots = (k : ℕ) → k < length wants → k < length gots → get_or wants k 0 ≡ get_or gots k 0
