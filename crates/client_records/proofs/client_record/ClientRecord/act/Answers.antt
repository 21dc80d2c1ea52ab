use Rattle.std.proofs.Common.{◌++◌, ap, sym, ◌∙◌}
use Rattle.std.proofs.Math.Path.{subst}
use Rattle.core_model.specs.Names.{rising}
use Rattle.core_model.specs.View.{changed_of}
use Rattle.core_model.proofs.Rising.{sorted_rises}
use Rattle.core_model.specs.Asking.{asked}
use Rattle.client_records.specs.Record.{IsRecord}
use Rattle.client_records.specs.Steps.{IsFor, IsTellable, row_of, triggered_by}
use Rattle.client_records.proofs.Beginning.{rises_as}
use Rattle.client_records.proofs.client_record.ClientRecord.act.Goals as goal

pub returns-in-Reload-clause-written : goal.returns-in-Reload-clause-written
returns-in-Reload-clause-written c = λ s f t.
    let g = subst (λ r. IsFor r (triggered_by s c.args.self.now)) c.in-Reload.is f in
    let u = subst (λ r. IsTellable c.args.self.now.view r) c.in-Reload.is t in
    c.reload.ensures.written u.1 (rises_as c.in-Reload.triggered ∙ ap rising g ∙ sorted_rises (changed_of s.served c.args.self.now.view ++ c.args.self.now.queue.forced))

pub returns-in-Update-clause-written : goal.returns-in-Update-clause-written
returns-in-Update-clause-written c = λ s f t.
    let g = subst (λ r. IsFor r (triggered_by s c.args.self.now)) c.in-Update.is f in
    c.update.ensures.written (rises_as c.in-Update.triggered ∙ ap rising g ∙ sorted_rises (changed_of s.served c.args.self.now.view ++ c.args.self.now.queue.forced))

pub returns-in-Prune-clause-stands : goal.returns-in-Prune-clause-stands
returns-in-Prune-clause-stands c = λ d h. subst (λ r. IsRecord c.args.sources.now (asked (row_of c.args.self.now.dropped r) c.args.sources.now d) c.prune.new.self) (sym c.in-Prune.is) (c.prune.ensures.stands c.args.sources.now d h)
