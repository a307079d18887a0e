use Rattle.std.proofs.Common.{◌≤◌, length, ap, subst, ◌∙◌}
use Rattle.ec_cert.specs.Shapes.{cert_view}
use Rattle.ec_cert_text.specs.Reading.{Gives, reading}
use Rattle.ec_cert_text.proofs.ByteLaws.{is_found, reading_again}
use Rattle.ec_cert_text.proofs.reading.read_cert.Goals as goal

pub returns-clause-found : goal.returns-clause-found
returns-clause-found c = is_found c.args.text.now c.cert_of.result c.cert_of.ensures

pub returns-clause-only : goal.returns-clause-only
returns-clause-only c = λ v formed short same.
    let fits = subst (λ t. length t ≤ 67108864) same short in
    subst (λ r. Gives cert_view c.cert_of.result r) (ap reading same ∙ reading_again v formed fits) c.cert_of.ensures
