use Rattle.std.proofs.Common.{sym}
use Rattle.ec_cert_text.proofs.HeadLaws.{none_line}
use Rattle.ec_cert_text.proofs.WriteLemmas.{front_as, all_as, on_ok}
use Rattle.ec_cert_text.proofs.writing.write_no_level.Goals as goal

pub returns-then-version-ge4-clause-all : goal.returns-then-version-ge4-clause-all
returns-then-version-ge4-clause-all g c = on_ok c.write.result _ _ (all_as (sym (none_line c.args.version c.if-version-ge4.true))) c.write.ensures.all

pub returns-then-version-ge4-clause-front : goal.returns-then-version-ge4-clause-front
returns-then-version-ge4-clause-front g c = front_as (sym (none_line c.args.version c.if-version-ge4.true)) c.write.ensures.front
