-- The command table of ETG.1000.4, clause 5.4, as data: fifteen records.
use Rattle.std.specs.Prelude.{ℕ, Bool, true, false, List, [], ◌∷◌, codes, find, ◌==◌, Option, option_map}
use Rattle.ec_frames.specs.declared.command.Command.{Command}
use Rattle.ec_frames.specs.declared.command.Command.TheVariants as command
use Rattle.ec_frames.specs.declared.command.AddressKind.{AddressKind}
use Rattle.ec_frames.specs.declared.command.AddressKind.TheVariants as kind

-- a command's code, its name in ASCII, what its address names, and whether it reads and writes a slave's memory
pub record Row : Type 0 where
  pub code : ℕ
  pub command : Command
  pub name : List ℕ
  pub kind : AddressKind
  pub reads : Bool
  pub writes : Bool

abbrev pub row : ℕ → Command → List ℕ → AddressKind → Bool → Bool → Row
row c d n k r w = record { code = c; command = d; name = n; kind = k; reads = r; writes = w }

abbrev pub command_table : List Row
command_table =
    row 0 command.Nop (codes "NOP") kind.None false false ∷
    row 1 command.Aprd (codes "APRD") kind.Position true false ∷
    row 2 command.Apwr (codes "APWR") kind.Position false true ∷
    row 3 command.Aprw (codes "APRW") kind.Position true true ∷
    row 4 command.Fprd (codes "FPRD") kind.Station true false ∷
    row 5 command.Fpwr (codes "FPWR") kind.Station false true ∷
    row 6 command.Fprw (codes "FPRW") kind.Station true true ∷
    row 7 command.Brd (codes "BRD") kind.Broadcast true false ∷
    row 8 command.Bwr (codes "BWR") kind.Broadcast false true ∷
    row 9 command.Brw (codes "BRW") kind.Broadcast true true ∷
    row 10 command.Lrd (codes "LRD") kind.Logical true false ∷
    row 11 command.Lwr (codes "LWR") kind.Logical false true ∷
    row 12 command.Lrw (codes "LRW") kind.Logical true true ∷
    row 13 command.Armw (codes "ARMW") kind.Position true true ∷
    row 14 command.Frmw (codes "FRMW") kind.Station true true ∷
    []

-- whether two commands are one
abbrev pub same : Command → Command → Bool
same command.Nop command.Nop = true
same command.Aprd command.Aprd = true
same command.Apwr command.Apwr = true
same command.Aprw command.Aprw = true
same command.Fprd command.Fprd = true
same command.Fpwr command.Fpwr = true
same command.Fprw command.Fprw = true
same command.Brd command.Brd = true
same command.Bwr command.Bwr = true
same command.Brw command.Brw = true
same command.Lrd command.Lrd = true
same command.Lwr command.Lwr = true
same command.Lrw command.Lrw = true
same command.Armw command.Armw = true
same command.Frmw command.Frmw = true
same _ _ = false

-- what a column of the table has in the row of a command
abbrev pub column_of : {X : Type 0} → (Row → X) → Command → Option X
column_of column c = option_map column (find (λ r. same r.command c) command_table)

-- the command whose row has this code
abbrev pub command_with : ℕ → Option Command
command_with code = option_map (λ r. r.command) (find (λ r. r.code == code) command_table)
