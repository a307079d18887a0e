-- The paths of a command line.
use Rattle.std.specs.Prelude.{◌≡◌, ◌≢◌, ℕ, List, String, Option, Some, None, option_map, codes, string_bytes}
use Rattle.std.proofs.Common.{Global}
use Rattle.clap.specs.declared.parser.matches.ArgMatches.{ArgMatches}
use Rattle.clap.specs.Words.{found_of, first_value}
use Rattle.ec_cli_command.specs.declared.line.Line.{Line}
use Rattle.ec_cli_command.specs.declared.line.Line.TheVariants as line

-- the path is the one that the option says, where it is there
abbrev pub IsPathOf : ArgMatches → List ℕ → Option (String Global) → Type 0
IsPathOf m id path = option_map string_bytes path ≡ first_value (found_of m) id

-- the path of the units is the one that stands among the words; none where there is none, and where it is `-`
abbrev pub IsUnitsPathOf : ArgMatches → Option (String Global) → Type 0
IsUnitsPathOf m path =
    (first_value (found_of m) (codes "file") ≡ None → path ≡ None) × (first_value (found_of m) (codes "file") ≡ Some (codes "-") → path ≡ None)
    × ((text : List ℕ) → first_value (found_of m) (codes "file") ≡ Some text → text ≢ codes "-" → option_map string_bytes path ≡ Some text)

-- each path of a line is that of its option
abbrev pub HasPathsOf : ArgMatches → Line → Type 0
HasPathsOf m (line.Cost cert svg) = IsPathOf m (codes "cert") cert × IsPathOf m (codes "svg") svg
HasPathsOf m (line.Plan effort strong keep out places) = IsPathOf m (codes "out") out × IsPathOf m (codes "places") places
HasPathsOf m (line.Resume cert effort part out places) = IsPathOf m (codes "cert") (Some cert) × IsPathOf m (codes "out") out × IsPathOf m (codes "places") places
HasPathsOf m (line.Check cert) = IsPathOf m (codes "cert") (Some cert)
HasPathsOf m (line.Frames cert pcap header table report) =
    IsPathOf m (codes "cert") cert × IsPathOf m (codes "pcap") pcap × IsPathOf m (codes "header") header × IsPathOf m (codes "map") table × IsPathOf m (codes "report") report
HasPathsOf m (line.Play cert) = IsPathOf m (codes "cert") cert
