use Rattle.std.proofs.Common.{◌≡◌, sym, ap, rules}
use Rattle.ec_cert_text.specs.Text.{level_line}
use Rattle.ec_cert_text.proofs.WriteLemmas.{front_as, all_as, on_ok}
use Rattle.ec_cert_text.proofs.writing.write_level.Goals as goal

pub returns-in-None-clause-all : goal.returns-in-None-clause-all
returns-in-None-clause-all g c = on_ok c.write_no_level.result _ _ (all_as (sym (ap (level_line c.args.version) c.in-None.is))) c.write_no_level.ensures.all

pub returns-in-None-clause-front : goal.returns-in-None-clause-front
returns-in-None-clause-front g c = front_as (sym (ap (level_line c.args.version) c.in-None.is)) c.write_no_level.ensures.front

pub returns-in-Some-clause-all : goal.returns-in-Some-clause-all
returns-in-Some-clause-all g c =
    let line : c.as_slice.result.now ≡ level_line c.args.version c.args.level = search rules in
    on_ok c.write.result _ _ (all_as line) c.write.ensures.all

pub returns-in-Some-clause-front : goal.returns-in-Some-clause-front
returns-in-Some-clause-front g c =
    let line : c.as_slice.result.now ≡ level_line c.args.version c.args.level = search rules in
    front_as line c.write.ensures.front
