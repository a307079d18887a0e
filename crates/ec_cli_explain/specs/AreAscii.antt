-- Where what is told of is ASCII.
use Rattle.std.specs.Prelude.{IsAscii, ⊤, IfSome}
use Rattle.ec_cli_search_hints.specs.declared.advising.Filed.{Filed}
use Rattle.ec_cli_search_hints.specs.declared.advising.Filed.TheVariants as filed
use Rattle.ec_cli_spots.specs.declared.inputs.Inputs.{Inputs}

-- the units of a refusal and the path of its certificate are
abbrev pub AreAscii : Inputs → Type 0
AreAscii inputs = IsAscii inputs.units.now × IfSome inputs.cert_path (λ path. IsAscii path.now)

-- the paths of a certificate, of its units and of their places are, if they are told
abbrev pub HasAsciiPath : Filed → Type 0
HasAsciiPath (filed.There cert) = IsAscii cert.path.now × IfSome cert.units (λ path. IsAscii path.now) × IfSome cert.again.places (λ path. IsAscii path.now)
HasAsciiPath _ = ⊤
