-- The part of a resumed search.
use Rattle.std.specs.Prelude.{◌≡◌, ℕ, ◌≤◌, ◌%◌, List, ◌++◌, MatchOption, codes}
use Rattle.clap.specs.declared.parser.matches.ArgMatches.{ArgMatches}
use Rattle.clap.specs.Words.{found_of, first_value}
use Rattle.ec_cert.specs.declared.part.Part.{Part}
use Rattle.ec_cert.specs.Parts.{IsPart, whole}
use Rattle.ec_cli_words.specs.Trials.{number_in}

-- a text says a part as I/N, I being its number from 1 and N how many there are, at most 10,000. Each has an index of its own below N: that of part N is 0
pub record IsPartIn (text : List ℕ) (part : Part) : Type 0 where
  pub first : List ℕ
  pub second : List ℕ
  pub is : text ≡ first ++ (codes "/" ++ second)
  pub least : 1 ≤ number_in first
  pub most : number_in first ≤ number_in second
  pub limit : number_in second ≤ 10000
  pub index : part.index ≡ number_in first % number_in second
  pub count : part.count ≡ number_in second

-- it is the part that the option says; without it the whole
abbrev pub HasPartOf : ArgMatches → Part → Type 0
HasPartOf m part = MatchOption (first_value (found_of m) (codes "part")) (part ≡ whole) (λ text. IsPartIn text part)

-- there is such a part, of at most 10,000
abbrev pub PartFits : Part → Type 0
PartFits part = IsPart part × (part.count ≤ 10000)
