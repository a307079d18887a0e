-- Which paths a command line has.
use Rattle.std.proofs.Common.{◌≡◌, ◌∙◌, true, Global, Option, Some, None, refl, sym, ap}
use Rattle.std.specs.Prelude.{String, option_map}
use Rattle.ec_cli_command.specs.declared.line.Line.{Line}
use Rattle.ec_cli_command.specs.declared.line.Line.TheVariants as line
use Rattle.ec_cli_command.specs.Words.{cert_of, job_of, reads_cert}
use Rattle.ec_cli_answers.specs.Told.{HasInput}

none-some : {X : Type 0} {x : X} → None ≡ Some x → ⊥
none-some h = absurd cc

some-none : {X : Type 0} {x : X} → Some x ≡ None → ⊥
some-none h = absurd cc

-- a line with the path of a certificate reads one
pub reads_its_cert : (l : Line) (path : String Global) → cert_of l ≡ Some path → reads_cert (job_of l) ≡ true
reads_its_cert (line.Cost None svg) path is = absurd (none-some is)
reads_its_cert (line.Plan effort strong keep out places) path is = absurd (none-some is)
reads_its_cert (line.Frames cert None header table report) path is = refl
reads_its_cert l path is = refl

-- and one without such a path needs none
pub needs_none : (l : Line) → cert_of l ≡ None → HasInput (job_of l) None
needs_none (line.Cost None svg) is = refl
needs_none (line.Plan effort strong keep out places) is = refl
needs_none (line.Frames cert None header table report) is = tt
needs_none (line.Frames cert (Some pcap) header table report) is = tt
needs_none (line.Play cert) is = tt
needs_none l is = absurd (some-none is)

-- what a method answers of a path, which a line has or not
pub with_path : {B : Type 0} (now : B → String Global) {found : Option B} {path : B} {of_line : Option (String Global)} → found ≡ Some path → option_map now found ≡ of_line → Some (now path) ≡ of_line
with_path {B} now {found} {path} {of_line} is same = sym (ap (option_map now) is) ∙ same

pub without_path : {B : Type 0} (now : B → String Global) {found : Option B} {of_line : Option (String Global)} → found ≡ None → option_map now found ≡ of_line → None ≡ of_line
without_path {B} now {found} {of_line} is same = sym (ap (option_map now) is) ∙ same

-- nothing is found only where there is nothing
pub found_none : {A B : Type 0} (f : A → B) (o : Option A) → option_map f o ≡ None → o ≡ None
found_none f None is = refl
found_none f (Some x) is = absurd (some-none is)
