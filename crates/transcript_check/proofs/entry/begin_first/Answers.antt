use Rattle.std.proofs.lemmas.Result.{err_from_is_err_and}
use Rattle.transcript_check.proofs.Entering.{first_err, first_ok}
use Rattle.transcript_check.proofs.entry.begin_first.Goals as goal

pub returns-in_err-core : goal.returns-in_err-core
returns-in_err-core c =
    let p = err_from_is_err_and c.from_residual.result c.from_residual.ensures.1 in
    rw (p.1, p.2) (first_err c.args.line c.args.event c.args.roots.items c.in_err-core.field-0.0 c.in_err-core.ensures)

pub returns : goal.returns
returns c = first_ok c.args.line c.args.event c.in_ok-core.core c.args.roots.items c.begin.result c.in_ok-core.ensures c.begin.ensures
