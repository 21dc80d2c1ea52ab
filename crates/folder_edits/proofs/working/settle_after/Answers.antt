use Rattle.std.proofs.Common.{rules, inr}
use Rattle.std.proofs.lemmas.Result.{err_from_is_err_and}
use Rattle.folder_edits.specs.Stops.{stop_of_edit}
use Rattle.folder_edits.proofs.Causes.{passed, settle_cause}
use Rattle.folder_edits.proofs.working.settle_after.Goals as goal

pub returns-in_err-settle_rest-clause-cause : goal.returns-in_err-settle_rest-clause-cause
returns-in_err-settle_rest-clause-cause g c =
    let stop = c.in_err-settle_rest.field-0.0 in
    passed _ c.from_residual-in_err-settle_rest.result (stop_of_edit stop) (err_from_is_err_and c.from_residual-in_err-settle_rest.result c.from_residual-in_err-settle_rest.ensures.1)
    (inr (search rules, settle_cause c.settle_rest.new.pass stop c.in_err-settle_rest.ensures.room c.in_err-settle_rest.ensures.cause))
