use Rattle.std.proofs.Common.{rules, ◌≡◌, map}
use Rattle.std.specs.Prelude.{IfErr}
use Rattle.transform_pool.specs.Tasks.{Task}
use Rattle.hub_editor.specs.Causes.{IsRoomStop}
use Rattle.hub_editor.specs.Edits.{edits_in}
use Rattle.hub_editor.proofs.Calls.{on_err}
use Rattle.hub_editor.proofs.Openings.{begins_results, begins_told, if_err_then, on_err_then, on_ok, opening_all, stops_later, workable_done, workable_versions}
use Rattle.hub_editor.proofs.opening.open_sources.Goals as goal

pub tell_results-requires-clause-short : goal.tell_results-requires-clause-short
tell_results-requires-clause-short g c = workable_done c.in_ok-jobs.jobs.items c.in_ok-done.done.items c.in_ok-done.ensures c.in_ok-jobs.ensures.workable

pub tell_results-requires-clause-versions : goal.tell_results-requires-clause-versions
tell_results-requires-clause-versions g c =
    let e : c.deref-2.result.now ≡ map (λ (work : Task). work.ver) c.in_ok-jobs.jobs.items = search rules in
    workable_versions c.in_ok-jobs.jobs.items c.deref-2.result.now e c.in_ok-jobs.ensures.workable

pub returns-clause-opened : goal.returns-clause-opened
returns-clause-opened g c =
    let e : c.deref-2.result.now ≡ map (λ (work : Task). work.ver) c.in_ok-jobs.jobs.items = search rules in
    on_ok c.tell_results.result c.tell_results.ensures.told
    (λ told. opening_all c.tell_edits.new.pass c.tell_results.new.pass (edits_in c.args.edits.items) c.in_ok-jobs.jobs.items c.in_ok-done.done.items c.deref-2.result.now c.in_ok-jobs.ensures.opening c.in_ok-done.ensures e told)

pub returns-in_err-versions-clause-front : goal.returns-in_err-versions-clause-front
returns-in_err-versions-clause-front g c =
    on_err c.from_residual-in_err-versions.result (begins_told c.tell_edits.new.pass (edits_in c.args.edits.items) c.in_ok-jobs.jobs.items c.in_ok-jobs.ensures.opening)

pub returns-in_err-done-clause-front : goal.returns-in_err-done-clause-front
returns-in_err-done-clause-front g c =
    on_err c.from_residual-in_err-done.result (begins_told c.tell_edits.new.pass (edits_in c.args.edits.items) c.in_ok-jobs.jobs.items c.in_ok-jobs.ensures.opening)

pub returns-clause-front : goal.returns-clause-front
returns-clause-front g c =
    let e : c.deref-2.result.now ≡ map (λ (work : Task). work.ver) c.in_ok-jobs.jobs.items = search rules in
    on_err_then c.tell_results.result c.tell_results.ensures.front
    (λ told. begins_results c.tell_edits.new.pass c.tell_results.new.pass (edits_in c.args.edits.items) c.in_ok-jobs.jobs.items c.in_ok-done.done.items c.deref-2.result.now c.in_ok-jobs.ensures.opening c.in_ok-done.ensures e told)

pub returns-clause-accepted : goal.returns-clause-accepted
returns-clause-accepted g c =
    on_ok c.tell_results.result c.tell_results.ensures.told (λ told. c.in_ok-jobs.ensures.opening.accepted)

pub returns-in_err-versions-clause-stopped : goal.returns-in_err-versions-clause-stopped
returns-in_err-versions-clause-stopped g c =
    let room : IfErr c.from_residual-in_err-versions.result IsRoomStop = search rules in
    if_err_then c.from_residual-in_err-versions.result room
    (λ stop h. stops_later c.tell_edits.new.pass c.tell_edits.new.pass (edits_in c.args.edits.items) c.in_ok-jobs.jobs.items stop c.in_ok-jobs.ensures.opening h)

pub returns-in_err-done-clause-stopped : goal.returns-in_err-done-clause-stopped
returns-in_err-done-clause-stopped g c =
    let room : IfErr c.from_residual-in_err-done.result IsRoomStop = search rules in
    if_err_then c.from_residual-in_err-done.result room
    (λ stop h. stops_later c.tell_edits.new.pass c.tell_edits.new.pass (edits_in c.args.edits.items) c.in_ok-jobs.jobs.items stop c.in_ok-jobs.ensures.opening h)

pub returns-clause-stopped : goal.returns-clause-stopped
returns-clause-stopped g c =
    if_err_then c.tell_results.result c.tell_results.ensures.room
    (λ stop h. stops_later c.tell_edits.new.pass c.tell_results.new.pass (edits_in c.args.edits.items) c.in_ok-jobs.jobs.items stop c.in_ok-jobs.ensures.opening h)
