-- What is to be merged.
use Rattle.std.specs.Prelude.{◌≡◌, ℕ, ◌≤◌, List, [], length, MatchOption, String, option_map, map, codes, string_bytes}
use Rattle.std.proofs.Common.{Global}
use Rattle.clap.specs.declared.parser.matches.ArgMatches.{ArgMatches}
use Rattle.clap.specs.Words.{found_of, matched_of, raw_values}
use Rattle.ec_cli_command.specs.Words.{JobFits, job_of}
use Rattle.ec_cli_words.specs.declared.asked.Asked.{Asked}
use Rattle.ec_cli_words.specs.declared.asked.Asked.TheVariants as asked
use Rattle.ec_cli_words.specs.declared.merges.Merging.{Merging}
use Rattle.ec_cli_words.specs.Paths.{IsPathOf, IsUnitsPathOf}

-- the paths are those that the option says, in their order
abbrev pub ArePathsOf : ArgMatches → List ℕ → List (String Global) → Type 0
ArePathsOf m id paths = MatchOption (option_map raw_values (matched_of (found_of m) id)) (paths ≡ []) (λ texts. map string_bytes paths ≡ texts)

-- at least one certificate is merged, and at most 10,000
abbrev pub MergingFits : Merging → Type 0
MergingFits merging = (1 ≤ length merging.certs.items) × (length merging.certs.items ≤ 10000)

-- the certificates, the units and the path to write are those of the options
abbrev pub HasMergeOf : ArgMatches → Merging → Type 0
HasMergeOf m merging = ArePathsOf m (codes "cert") merging.certs.items × IsUnitsPathOf m merging.units × IsPathOf m (codes "out") merging.out

-- what is asked for is within the limits
abbrev pub AskedFits : Asked → Type 0
AskedFits (asked.Line words) = JobFits (job_of words.line)
AskedFits (asked.Merge merging) = MergingFits merging
