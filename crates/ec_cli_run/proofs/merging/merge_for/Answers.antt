use Rattle.std.proofs.Common.{inl}
use Rattle.std.proofs.lemmas.Result.{err_from_is_err_and}
use Rattle.ec_cli_run.proofs.merging.merge_for.Goals as goal

pub returns-in_err-tell_merged-clause-err : goal.returns-in_err-tell_merged-clause-err
returns-in_err-tell_merged-clause-err g c =
    let p = err_from_is_err_and c.from_residual-in_err-tell_merged.result c.from_residual-in_err-tell_merged.ensures.1 in
    rw (p.1, p.2) (inl c.in_err-tell_merged.ensures.err)
