-- What a command asks of the modelled slave, by the command table.
use Rattle.std.specs.Prelude.{Bool, true, false, if◌then◌else◌, Option, Some, None, unwrap_or}
use Rattle.ec_frames.specs.Table.{column_of}
use Rattle.ec_frames.specs.declared.command.Command.{Command}
use Rattle.ec_frames.specs.declared.command.Command.TheVariants as command
use Rattle.ec_frames.specs.declared.command.AddressKind.TheVariants as kind
use Rattle.ec_slave.specs.declared.request.Request.{Request}

-- the modelled slave lets datagrams with these commands pass as they are
abbrev pub is_left_out : Command → Bool
is_left_out command.Nop = true
is_left_out command.Brw = true
is_left_out command.Armw = true
is_left_out command.Frmw = true
is_left_out _ = false

-- the row of the table
abbrev pub row_of : Command → Request
row_of c = record {
  kind = unwrap_or (column_of (λ r. r.kind) c) kind.None;
  reads = unwrap_or (column_of (λ r. r.reads) c) false;
  writes = unwrap_or (column_of (λ r. r.writes) c) false;
}

-- what a command asks, if anything
abbrev pub request_of : Command → Option Request
request_of c = if is_left_out c then None else Some (row_of c)
