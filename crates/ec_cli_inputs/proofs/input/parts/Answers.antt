use Rattle.std.proofs.Common.{Err, [], ap, ◌∙◌, arith}
use Rattle.std.proofs.KnownBytes.{Consumes-nil}
use Rattle.std.proofs.lemmas.Result.{err_from_is_err_and}
use Rattle.ec_cli_inputs.proofs.InputLemmas.{read_refused, cert_unread, cert_after, unread_units, no_room, unread_text, some_unread, some_text_unread}
use Rattle.ec_cli_inputs.proofs.input.parts.Goals as goal

pub returns-in_err-line-clause-err : goal.returns-in_err-line-clause-err
returns-in_err-line-clause-err g c = λ read cert.
    let p = err_from_is_err_and c.from_residual.result c.from_residual.ensures.1 in
    unread_units _ _ c.in_err-line.field-0.0 c.from_residual.result (p.1 ∙ ap (λ e. Err e) p.2) (c.in_err-line.ensures.told read)

pub returns-in_default-clause-err : goal.returns-in_default-clause-err
returns-in_default-clause-err g c = λ read cert. no_room _ _

pub returns-in_err-text-clause-err : goal.returns-in_err-text-clause-err
returns-in_err-text-clause-err g c = λ read cert.
    let p = err_from_is_err_and c.from_residual-in_err-text.result c.from_residual-in_err-text.ensures.1 in
    unread_text _ _ c.in_ok-line.line c.in_err-text.field-0.0 c.from_residual-in_err-text.result (p.1 ∙ ap (λ e. Err e) p.2) (c.in_ok-line.ensures.told read) (c.in_err-text.ensures.err cert)

pub returns-in_err-line-clause-read : goal.returns-in_err-line-clause-read
returns-in_err-line-clause-read g c = λ read.
    let p = err_from_is_err_and c.from_residual.result c.from_residual.ensures.1 in
    read_refused c.from_residual.result c.in_err-line.field-0.0 (p.1 ∙ ap (λ e. Err e) p.2) (c.in_err-line.ensures.read read)

pub returns-in_err-line-clause-first : goal.returns-in_err-line-clause-first
returns-in_err-line-clause-first g c = cert_unread _ _ c.args.cert.now

pub returns-in_err-line-clause-cert_consumed : goal.returns-in_err-line-clause-cert_consumed
returns-in_err-line-clause-cert_consumed g c = ([], omega arith, Consumes-nil _)

pub returns-in_default-clause-first : goal.returns-in_default-clause-first
returns-in_default-clause-first g c = cert_unread _ _ c.args.cert.now

pub returns-in_default-clause-cert_consumed : goal.returns-in_default-clause-cert_consumed
returns-in_default-clause-cert_consumed g c = ([], omega arith, Consumes-nil _)

pub returns-in_err-text-clause-cert_read : goal.returns-in_err-text-clause-cert_read
returns-in_err-text-clause-cert_read g c = λ read.
    let p = err_from_is_err_and c.from_residual-in_err-text.result c.from_residual-in_err-text.ensures.1 in
    read_refused c.from_residual-in_err-text.result c.in_err-text.field-0.0 (p.1 ∙ ap (λ e. Err e) p.2) (c.in_err-text.ensures.read read)

pub returns-in_err-text-clause-first : goal.returns-in_err-text-clause-first
returns-in_err-text-clause-first g c = cert_after _ _ _ c.in_ok-line.ensures.valid

pub returns-clause-first : goal.returns-clause-first
returns-clause-first g c = cert_after _ _ _ c.in_ok-line.ensures.valid

pub returns-in_err-line-clause-some : goal.returns-in_err-line-clause-some
returns-in_err-line-clause-some g c = λ read.
    let p = err_from_is_err_and c.from_residual.result c.from_residual.ensures.1 in
    some_unread _ c.in_err-line.field-0.0 c.from_residual.result (p.1 ∙ ap (λ e. Err e) p.2) (c.in_err-line.ensures.told read)

pub returns-in_err-text-clause-some : goal.returns-in_err-text-clause-some
returns-in_err-text-clause-some g c = λ read.
    let p = err_from_is_err_and c.from_residual-in_err-text.result c.from_residual-in_err-text.ensures.1 in
    some_text_unread _ _ c.in_ok-line.line _ c.in_err-text.field-0.0 c.from_residual-in_err-text.result (p.1 ∙ ap (λ e. Err e) p.2) (c.in_ok-line.ensures.told read) c.in_err-text.ensures.err c.in_err-text.ensures.read
