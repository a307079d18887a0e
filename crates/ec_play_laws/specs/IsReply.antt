-- What is said of a frame that comes back, as relations.
use Rattle.std.specs.Prelude.{◌≡◌, ℕ, ◌<◌, false, List, length, get_or}
use Rattle.ec_frames.specs.Reading.{Entry}
use Rattle.ec_player.specs.Faults.{may_change}

-- a reply to a frame with these datagrams has its length, and each byte that no slave may change
pub record IsReply (ds : List Entry) (sent back : List ℕ) : Type 0 where
  pub len : length back ≡ length sent
  pub bytes : (k : ℕ) → k < length sent → may_change 16 ds k ≡ false → get_or back k 0 ≡ get_or sent k 0
