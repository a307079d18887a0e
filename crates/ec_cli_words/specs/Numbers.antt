-- The numbers and the flags of a command line.
use Rattle.std.specs.Prelude.{◌≡◌, ℕ, ◌≤◌, Bool, true, false, List, Option, Some, None, codes}
use Rattle.std.specs.Option.{ForSome}
use Rattle.std.specs.Str.Parse.{digits_value, without_leading_plus}
use Rattle.clap.specs.declared.parser.matches.ArgMatches.{ArgMatches}
use Rattle.clap.specs.Words.{found_of, one_text}
use Rattle.ec_cli_command.specs.declared.line.Effort.{Effort}
use Rattle.ec_cli_command.specs.declared.line.Line.{Line}
use Rattle.ec_cli_command.specs.declared.line.Line.TheVariants as line

-- the number is the one that the text of the option says
abbrev pub IsSaidBy : ArgMatches → List ℕ → ℕ → Type 0
IsSaidBy m id n = (text : List ℕ) → one_text (found_of m) id ≡ Some text → n ≡ digits_value 10 (without_leading_plus text)

-- the number, if there is one, is the one that the text of the option says; without the option there is none
abbrev pub IsMaybeSaidBy : ArgMatches → List ℕ → Option ℕ → Type 0
IsMaybeSaidBy m id n =
    (one_text (found_of m) id ≡ None → n ≡ None) × ((text : List ℕ) → one_text (found_of m) id ≡ Some text → n ≡ Some (digits_value 10 (without_leading_plus text)))

-- the nodes that a search may visit where no number is given: a million, and where time ends it, as many as may be asked for
abbrev pub usual_nodes : Option ℕ → ℕ
usual_nodes None = 1000000
usual_nodes (Some minutes) = 10000000

-- so many nodes are those of the option, and the usual ones without it
abbrev pub HasNodesOf : ArgMatches → Option ℕ → ℕ → Type 0
HasNodesOf m minutes n = IsSaidBy m (codes "nodes") n × (one_text (found_of m) (codes "nodes") ≡ None → n ≡ usual_nodes minutes)

-- the flag is set where its option is there
abbrev pub IsFlagOf : ArgMatches → List ℕ → Bool → Type 0
IsFlagOf m id flag =
    (one_text (found_of m) id ≡ None → flag ≡ false) × (one_text (found_of m) id ≡ Some (codes "true") → flag ≡ true)
    × (one_text (found_of m) id ≡ Some (codes "false") → flag ≡ false)

-- the numbers of a search are within their limits
abbrev pub EffortFits : Effort → Type 0
EffortFits e = ((1 ≤ e.workers) × (e.workers ≤ 16) × (1 ≤ e.nodes) × (e.nodes ≤ 10000000)) × ForSome e.minutes (λ m. (1 ≤ m) × (m ≤ 10000))

-- the numbers of a search are those of its options
abbrev pub HasEffortOf : ArgMatches → Effort → Type 0
HasEffortOf m e = IsSaidBy m (codes "workers") e.workers × HasNodesOf m e.minutes e.nodes × IsMaybeSaidBy m (codes "minutes") e.minutes

-- the numbers of a plan, whether it goes by the strong rules, and whether it begins at the places of the text; and the numbers of a resumed search
abbrev pub HasNumbersOf : ArgMatches → Line → Type 0
HasNumbersOf m (line.Plan effort strong keep out places) = HasEffortOf m effort × IsFlagOf m (codes "strong") strong × IsFlagOf m (codes "keep") keep
HasNumbersOf m (line.Resume cert effort part out places) = HasEffortOf m effort
HasNumbersOf m _ = Unit {0}
