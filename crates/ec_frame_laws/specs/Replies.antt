-- What is read of a reply.
use Rattle.std.specs.Prelude.{◌≡◌, ℕ, false, List, [], ◌∷◌, length}
use Rattle.ec_frames.specs.Reading.{Entry, ReadsAs}
use Rattle.ec_slave.specs.Requests.{row_of}
use Rattle.ec_slave.specs.Step.{is_raised}

-- a datagram that was sent, and what came back of it: another position, where slaves count that up, other data and another counter
pub record IsBackOf (d e : Entry) : Type 0 where
  pub command : e.command ≡ d.command
  pub index : e.index ≡ d.index
  pub address : is_raised (row_of d.command).kind ≡ false → e.address ≡ d.address
  pub circulating : e.circulating ≡ d.circulating
  pub event : e.event ≡ d.event
  pub size : length e.bytes ≡ length d.bytes

-- as many datagrams, each of them what came back of its own
abbrev pub AreBackOf : List Entry → List Entry → Type 0
AreBackOf [] [] = Unit {0}
AreBackOf [] (e ∷ es) = ⊥
AreBackOf (d ∷ ds) [] = ⊥
AreBackOf (d ∷ ds) (e ∷ es) = IsBackOf d e × AreBackOf ds es

-- the bytes are read as such datagrams
pub record ReadsBackOf (ds : List Entry) (bytes : List ℕ) : Type 0 where
  pub entries : List Entry
  pub reads : ReadsAs bytes entries
  pub back : AreBackOf ds entries
