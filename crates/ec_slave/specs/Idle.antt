-- Datagrams that a slave leaves as they are, since it maps no byte of them.
use Rattle.std.specs.Prelude.{ℕ, ◌&&◌, not, Bool, true, false, List, length, Option, Some, None}
use Rattle.ec_frames.specs.declared.command.AddressKind.{AddressKind}
use Rattle.ec_frames.specs.declared.command.AddressKind.TheVariants as kind
use Rattle.ec_frames.specs.Reading.{Entry}
use Rattle.ec_slave.specs.declared.fmmu.Direction.TheVariants as direction
use Rattle.ec_slave.specs.declared.request.Request.{Request}
use Rattle.ec_slave.specs.Requests.{request_of}
use Rattle.ec_slave.specs.Fmmus.{fmmus_in}
use Rattle.ec_slave.specs.Logical.{meets}

abbrev pub is_logical : AddressKind → Bool
is_logical kind.Logical = true
is_logical _ = false

-- no byte is read, and none is written
abbrev pub is_unmet : Request → List ℕ → ℕ → ℕ → Bool
is_unmet r memory address n =
    not (r.reads && meets (fmmus_in memory) (length memory) direction.Reads address n)
    && not (r.writes && meets (fmmus_in memory) (length memory) direction.Writes address n)

abbrev pub is_idle_by : Option Request → List ℕ → Entry → Bool
is_idle_by None memory d = true
is_idle_by (Some r) memory d = is_logical r.kind && is_unmet r memory d.address (length d.bytes)

-- a datagram that asks nothing, or a logical one that meets nothing
unfoldable pub is_idle : List ℕ → Entry → Bool
is_idle memory d = is_idle_by (request_of d.command) memory d
