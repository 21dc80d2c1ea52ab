use Rattle.std.proofs.Common.{rules, arith, ◌≡◌, ◌≤◌, ◌+◌, ◌∷◌, [], length, refl, ap, sym, ◌∙◌, subst, inl, inr}
use Rattle.std.specs.Prelude.{Err}
use Rattle.std.proofs.lemmas.Result.{err_from_is_err_and}
use Rattle.hub_editor.specs.Edits.{edits_in}
use Rattle.folder_edits.specs.Running.{Later}
use Rattle.folder_edits.specs.Serving.{Reported, job_ends, status_after}
use Rattle.folder_edits.proofs.Causes.{either_later, rose_later}
use Rattle.folder_edits.proofs.Serving.{end_as, never_reported, served_early, served_end, status_cause, status_fault, status_tree, status_well, stops_first, stops_memory, stops_outside, wrote_report}
use Rattle.folder_edits.proofs.Works.{on_ok}
use Rattle.folder_server.proofs.top.serve_folder.Goals as goal

pub returns-in_err-roots-clause-wrote : goal.returns-in_err-roots-clause-wrote
returns-in_err-roots-clause-wrote g c =
    let told = err_from_is_err_and c.from_residual.result c.from_residual.ensures.1 in
    inr (stops_memory c.args.task.roots.items (g.T.Tree.coming c.args.outside.now.tree) c.from_residual.result (told.1 ∙ ap Err (told.2 ∙ c.in_err-roots.ensures.memory)), refl)

pub returns-in_err-listing-clause-wrote : goal.returns-in_err-listing-clause-wrote
returns-in_err-listing-clause-wrote g c =
    inr (
      stops_first c.args.task.roots.items (g.T.Tree.coming c.args.outside.now.tree) c.in_ok-roots.field-0.pass c.open_folder.new.pass c.from_residual-in_err-listing.result c.in_err-listing.field-0.0 (err_from_is_err_and c.from_residual-in_err-listing.result c.from_residual-in_err-listing.ensures.1)
          c.in_ok-roots.ensures.first c.open_folder.ensures.same c.open_folder.ensures.transcript c.in_err-listing.ensures.cause,
      refl,
    )

pub returns-in_err-queue-clause-wrote : goal.returns-in_err-queue-clause-wrote
returns-in_err-queue-clause-wrote g c =
    let told = err_from_is_err_and c.from_residual-in_err-queue.result c.from_residual-in_err-queue.ensures.1 in
    inr (stops_memory c.args.task.roots.items (g.T.Tree.coming c.args.outside.now.tree) c.from_residual-in_err-queue.result (told.1 ∙ ap Err told.2), refl)

pub returns-in_err-port-clause-wrote : goal.returns-in_err-port-clause-wrote
returns-in_err-port-clause-wrote g c =
    inr (
      stops_outside c.args.task.roots.items (g.T.Tree.coming c.args.outside.now.tree) c.in_ok-listing.listing c.in_ok-roots.field-0.pass c.open_folder.new.pass c.from_residual-in_err-port.result c.in_err-port.field-0.0 (err_from_is_err_and c.from_residual-in_err-port.result c.from_residual-in_err-port.ensures.1)
          c.in_ok-roots.ensures.first c.open_folder.ensures.same c.open_folder.ensures.transcript c.in_ok-listing.ensures.opens,
      refl,
    )

pub returns-in_err-announce-clause-wrote : goal.returns-in_err-announce-clause-wrote
returns-in_err-announce-clause-wrote g c =
    let told = err_from_is_err_and c.from_residual-in_err-announce.result c.from_residual-in_err-announce.ensures.1 in
    let port = c.in_ok-port.port in
    let stop = c.in_err-announce.field-0.0 in
    let only = c.in_err-announce.ensures.only in
    let all =
    served_early c.args.task.plan.recorded c.args.task.roots.items (g.T.Tree.coming c.args.outside.now.tree) c.in_ok-listing.listing (edits_in c.args.task.script.items) c.args.task.plan.rounds port stop c.from_residual-in_err-announce.result
    c.in_ok-roots.field-0.pass c.open_folder.new.pass (g.K.Sink.written c.args.outside.now.out) (g.K.Sink.written c.announce.new.out) (told.1 ∙ ap Err told.2) c.in_ok-roots.ensures.first c.open_folder.ensures.same c.in_ok-listing.ensures.opens
    c.open_folder.ensures.transcript only (never_reported stop only) c.announce.ensures.front in
    inl (port, c.open_folder.new.pass, c.in_ok-port.ensures.heard, all.0, all.1)

pub returns-clause-wrote : goal.returns-clause-wrote
returns-clause-wrote g c =
    let coming = g.T.Tree.coming c.args.outside.now.tree in
    let listing = c.in_ok-listing.listing in
    let script = edits_in c.args.task.script.items in
    let many = c.args.task.plan.rounds in
    let opened = c.open_folder.new.pass in
    let worked = c.run-left.new.pass in
    let wound = c.write_end.ensures.reported in
    let last = wound.pass in
    let left = c.run-left.result in
    let result = c.write_end.result in
    let port = c.in_ok-port.port in
    let later = c.run-left.ensures.later in
    let end = end_as result c.end_of-ended.result (status_after left.gathered left.ended) c.write_end.ensures.end c.end_of-ended.ensures in
    inl (
      port,
      last,
      c.run-left.ensures.same_asked.1 ∙ c.in_ok-port.ensures.heard,
      served_end c.args.task.roots.items coming listing script many later.0 (job_ends left.gathered) left.ended result c.in_ok-roots.field-0.pass opened worked last c.in_ok-roots.ensures.first c.open_folder.ensures.same c.in_ok-listing.ensures.opens
          (subst (λ x. Later x listing script many opened worked later.0 left.ended) c.in_ok-listing.ensures.coming later.1)
          end wound.winds.own wound.winds.transcript
          (status_cause worked last left.gathered left.ended result end c.run-left.ensures.cause wound.winds.own wound.winds.given wound.is_full),
      wrote_report c.args.task.plan.recorded port last result (g.K.Sink.written c.args.outside.now.out) (g.K.Sink.written c.announce.new.out) (g.K.Sink.written c.write_end.new.out)
          c.in_ok-announce.ensures.done
          (subst (λ out. Reported c.args.task.plan.recorded last result (g.K.Sink.written out) (g.K.Sink.written c.write_end.new.out)) c.run-left.ensures.untouched wound.reported),
    )

pub returns-clause-fault : goal.returns-clause-fault
returns-clause-fault g c = λ e.
    let left = c.run-left.result in
    let end = end_as c.write_end.result c.end_of-ended.result (status_after left.gathered left.ended) c.write_end.ensures.end c.end_of-ended.ensures in
    either_later _ _ _ _ _ _ c.listen.ensures.cause.later (omega arith) (status_fault left.gathered left.ended c.write_end.result _ _ _ _ end c.run-left.ensures.finds e)

pub returns-clause-tree_fault : goal.returns-clause-tree_fault
returns-clause-tree_fault g c = λ e.
    let left = c.run-left.result in
    let end = end_as c.write_end.result c.end_of-ended.result (status_after left.gathered left.ended) c.write_end.ensures.end c.end_of-ended.ensures in
    rose_later (g.T.Tree.faults c.args.outside.now.tree) (g.T.Tree.faults c.open_folder.new.tree) (g.T.Tree.faults c.run-left.new.outside.tree) (g.T.Tree.faults c.run-left.new.outside.tree) c.open_folder.ensures.later (omega arith)
    (c.run-left.ensures.tree_fault (status_tree left.gathered left.ended c.write_end.result end e))

pub returns-clause-unwritten : goal.returns-clause-unwritten
returns-clause-unwritten g c = λ e.
    rose_later (g.K.Sink.faults c.args.outside.now.out) (g.K.Sink.faults c.run-left.new.outside.out) (g.K.Sink.faults c.write_end.new.out) (g.K.Sink.faults c.write_end.new.out)
    (subst (λ out. g.K.Sink.faults c.args.outside.now.out ≤ g.K.Sink.faults out) (sym c.run-left.ensures.untouched) c.announce.ensures.later) (omega arith)
    (c.write_end.ensures.unwritten e)

pub returns-clause-later : goal.returns-clause-later
returns-clause-later g c =
    omega (arith, subst (λ out. g.K.Sink.faults c.args.outside.now.out ≤ g.K.Sink.faults out) (sym c.run-left.ensures.untouched) c.announce.ensures.later, c.write_end.ensures.later)

pub returns-clause-begun : goal.returns-clause-begun
returns-clause-begun g c =
    let left = c.run-left.result in
    let end = end_as c.write_end.result c.end_of-ended.result (status_after left.gathered left.ended) c.write_end.ensures.end c.end_of-ended.ensures in
    let plan = c.args.task.plan in
    let count : length c.in_ok-queue.workers.takers.items ≡ plan.workers = search rules in
    status_well _ left.gathered left.ended c.write_end.result end
    (on_ok left.ended (λ begun none. begun none ∙ ap (λ n. n ∷ (plan.clients + plan.outside) ∷ plan.clients ∷ []) count) c.run-left.ensures.begun)

pub run-left-requires-clause-workers : goal.run-left-requires-clause-workers
run-left-requires-clause-workers g c =
    let count : length c.in_ok-queue.workers.takers.items ≡ c.args.task.plan.workers = search rules in
    omega (arith, count, c.requires.workers.1)

pub returns-clause-stops : goal.returns-clause-stops
returns-clause-stops g c = λ well. c.run-left.ensures.stops (c.listen.ensures.refused ∙ well) ∙ c.listen.ensures.late

pub returns-clause-goes : goal.returns-clause-goes
returns-clause-goes g c =
    let left = c.run-left.result in
    let end = end_as c.write_end.result c.end_of-ended.result (status_after left.gathered left.ended) c.write_end.ensures.end c.end_of-ended.ensures in
    status_well _ left.gathered left.ended c.write_end.result end (on_ok left.ended (λ goes none. goes ∙ c.listen.ensures.refused) c.run-left.ensures.goes)
