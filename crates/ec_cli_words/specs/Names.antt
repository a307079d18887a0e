-- The commands of the command line.
use Rattle.std.specs.Prelude.{ℕ, List, codes}
use Rattle.ec_cli_command.specs.declared.line.Line.{Line}
use Rattle.ec_cli_command.specs.declared.line.Line.TheVariants as line

-- the word that names a command
abbrev pub name_of : Line → List ℕ
name_of (line.Cost cert svg) = codes "cost"
name_of (line.Plan effort strong keep out places) = codes "plan"
name_of (line.Resume cert effort part out places) = codes "resume"
name_of (line.Check cert) = codes "check"
name_of (line.Frames cert pcap header table report) = codes "frames"
name_of (line.Play cert) = codes "play"
