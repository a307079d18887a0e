use Rattle.ec_slave.proofs.MapLemmas.{place_found, place_again, source_found, source_again}
use Rattle.ec_slave.proofs.laws.law_mapped_bytes.Goals as goal

pub returns-clause-place : goal.returns-clause-place
returns-clause-place c = λ f size d a m. (place_found f size d a m, place_again f size d a m)

pub returns-clause-source : goal.returns-clause-source
returns-clause-source c = λ f size d a m. (source_found f size d a m, source_again f size d a m)
