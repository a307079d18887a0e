-- What is to be done with a play.
use Rattle.std.specs.Prelude.{◌≡◌, ℕ, List, [], MatchOption, option_map, map, codes, None}
use Rattle.std.specs.Str.Parse.{digits_value, without_leading_plus}
use Rattle.clap.specs.declared.parser.matches.ArgMatches.{ArgMatches}
use Rattle.clap.specs.Words.{found_of, matched_of, raw_values}
use Rattle.ec_cli_command.specs.declared.line.Line.{Line}
use Rattle.ec_cli_command.specs.declared.line.Line.TheVariants as line
use Rattle.ec_cli_words.specs.declared.words.Trial.{Trial}
use Rattle.ec_cli_words.specs.Paths.{IsPathOf}

-- the number that a text says
abbrev pub number_in : List ℕ → ℕ
number_in text = digits_value 10 (without_leading_plus text)

-- the numbers are those that the texts of the option say, in their order
abbrev pub AreSaidBy : ArgMatches → List ℕ → List ℕ → Type 0
AreSaidBy m id ns = MatchOption (option_map raw_values (matched_of (found_of m) id)) (ns ≡ []) (λ texts. ns ≡ map number_in texts)

-- the slaves that are lost are those that a play names; of other commands none is
abbrev pub HasLostOf : ArgMatches → Line → Trial → Type 0
HasLostOf m (line.Play cert) trial = AreSaidBy m (codes "lose") trial.lost.items
HasLostOf m _ trial = trial.lost.items ≡ []

-- the path of the capture file is the one that a play names; another command has none here
abbrev pub HasCaptureOf : ArgMatches → Line → Trial → Type 0
HasCaptureOf m (line.Play cert) trial = IsPathOf m (codes "pcap") trial.pcap
HasCaptureOf m _ trial = trial.pcap ≡ None
