use Rattle.std.proofs.Common.{ap, ◌∙◌, ◌++◌, subst}
use Rattle.std.specs.Prelude.{Err}
use Rattle.std.specs.Io.KnownBytes.{Appends}
use Rattle.std.proofs.lemmas.Result.{err_from_is_err_and}
use Rattle.hmr_base.specs.Fronts.{WritesFront}
use Rattle.serve_reports.specs.Texts.{report_text}
use Rattle.folder_edits.specs.Serving.{record_part}
use Rattle.folder_edits.proofs.Serving.{ends_all, ends_before, ends_cut, ends_memory, full_within, report_is}
use Rattle.folder_edits.proofs.ending.write_end.Goals as goal

pub returns-in-Err-NoMemory-clause-reported : goal.returns-in-Err-NoMemory-clause-reported
returns-in-Err-NoMemory-clause-reported g c =
    ends_before c.args.recorded c.args.context.now.caller.hub.now c.args.pass.now c.args.left.gathered.full _ c.requires.of c.requires.transcript

pub returns-in_err-report-clause-reported : goal.returns-in_err-report-clause-reported
returns-in_err-report-clause-reported g c =
    let told = err_from_is_err_and c.from_residual.result c.from_residual.ensures.1 in
    let wound = c.wind_up.ensures in
    ends_memory c.args.recorded c.args.context.now.caller.hub.now c.args.pass.now c.wind_up.new.pass c.args.left.gathered.full c.from_residual.result _
    (record { of = wound.of; transcript = wound.transcript; own = wound.own c.requires.knows; given = wound.given })
    (λ f. full_within _ _ (c.requires.gathered.full f) wound.within) (told.1 ∙ ap Err told.2)

pub returns-in_err-text-clause-reported : goal.returns-in_err-text-clause-reported
returns-in_err-text-clause-reported g c =
    let told = err_from_is_err_and c.from_residual-in_err-text.result c.from_residual-in_err-text.ensures.1 in
    let wound = c.wind_up.ensures in
    ends_memory c.args.recorded c.args.context.now.caller.hub.now c.args.pass.now c.wind_up.new.pass c.args.left.gathered.full c.from_residual-in_err-text.result _
    (record { of = wound.of; transcript = wound.transcript; own = wound.own c.requires.knows; given = wound.given })
    (λ f. full_within _ _ (c.requires.gathered.full f) wound.within) (told.1 ∙ ap Err told.2)

pub returns-in_err-write_all-clause-reported : goal.returns-in_err-write_all-clause-reported
returns-in_err-write_all-clause-reported g c =
    let told = err_from_is_err_and c.from_residual-in_err-write_all.result c.from_residual-in_err-write_all.ensures.1 in
    let wound = c.wind_up.ensures in
    let report = c.in_ok-report.ensures.report in
    let own = wound.own c.requires.knows in
    ends_cut c.args.recorded c.args.context.now.caller.hub.now c.args.pass.now c.wind_up.new.pass c.args.left.gathered.full report.0 c.in_ok-text.text.items
    c.from_residual-in_err-write_all.result _ _
    (record { of = wound.of; transcript = wound.transcript; own = own; given = wound.given })
    (λ f. full_within _ _ (c.requires.gathered.full f) wound.within) (told.1 ∙ ap Err told.2)
    (report_is c.args.recorded c.args.pass.now c.wind_up.new.pass report.0 c.in_ok-report.report.items c.in_ok-text.text.items own
    (c.in_ok-text.ensures.text ∙ ap (λ r. report_text r ++ record_part c.args.recorded c.wind_up.new.pass) c.deref.ensures.value) report.2)
    (subst (WritesFront _ _) c.deref-2.ensures.value c.write_all.ensures.front)

pub returns-clause-reported : goal.returns-clause-reported
returns-clause-reported g c =
    let wound = c.wind_up.ensures in
    let report = c.in_ok-report.ensures.report in
    let own = wound.own c.requires.knows in
    ends_all c.args.recorded c.args.context.now.caller.hub.now c.args.pass.now c.wind_up.new.pass c.args.left.gathered.full report.0 c.in_ok-text.text.items
    c.args.left.ended _ _
    (record { of = wound.of; transcript = wound.transcript; own = own; given = wound.given })
    (λ f. full_within _ _ (c.requires.gathered.full f) wound.within)
    (report_is c.args.recorded c.args.pass.now c.wind_up.new.pass report.0 c.in_ok-report.report.items c.in_ok-text.text.items own
    (c.in_ok-text.ensures.text ∙ ap (λ r. report_text r ++ record_part c.args.recorded c.wind_up.new.pass) c.deref.ensures.value) report.2)
    c.in_ok-text.ensures.confirmed
    (subst (Appends _ _) c.deref-2.ensures.value c.in_ok-write_all.ensures.done)
