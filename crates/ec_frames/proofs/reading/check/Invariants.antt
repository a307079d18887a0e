use Rattle.std.proofs.Common.{◌≡◌, ◌<◌, ℕ, length}
use Rattle.ec_frames.specs.Parsing.{datagrams_from, payload_read, void}
use Rattle.ec_frames.proofs.reading.check.Given as goal

abbrev pub invariant-datagrams : goal.invariant-datagrams
invariant-datagrams l = (n : ℕ) × (length l.rest < n) × (void (datagrams_from n l.rest) ≡ void (payload_read l.payload))

abbrev pub decreases-datagrams : goal.decreases-datagrams
decreases-datagrams l = length l.rest
