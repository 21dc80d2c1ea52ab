use Rattle.std.proofs.Common.{sym}
use Rattle.std.proofs.Math.Path.{subst}
use Rattle.hmr_types.specs.declared.analysis.Analysis.{Analysis}
use Rattle.core_model.specs.Names.{Name, at, with_row}
use Rattle.core_model.specs.Requests.{row_served}
use Rattle.core_model.specs.Page.{Plan}
use Rattle.client_records.specs.Inside.{AreFetched}
use Rattle.client_records.proofs.Fetching.{counted_put}
use Rattle.page_plan.specs.Plans.{IsSamePlan}
use Rattle.client_records.specs.Steps.{fetched_plan}
use Rattle.client_records.proofs.fetch.fetch_for.Goals as goal

pub returns-clause-plan : goal.returns-clause-plan
returns-clause-plan c = λ p h.
    let s = c.args.sources.now in
    let v = c.in-Some.served.now.ver in
    subst (λ o. IsSamePlan (fetched_plan (row_served o (at s.current c.args.name)) c.args.name p) c.stage.new.self) c.in-Some.ensures.value
    (subst (λ (n : Name). IsSamePlan (record p { staged = with_row n (record { version = v; analysis = c.in-Some.served.now.analysis }) p.staged }) c.stage.new.self) c.in_ok-copy.ensures
    (subst (λ (a : Analysis). IsSamePlan (record p { staged = with_row c.in_ok-copy.copy (record { version = v; analysis = a }) p.staged }) c.stage.new.self) c.in_ok-analysis.ensures
    (c.in_ok-stage.ensures.ok p h)))

pub returns-clause-counted : goal.returns-clause-counted
returns-clause-counted c = λ h. subst (λ (p : Plan). AreFetched p.staged) (sym c.in_ok-stage.ensures.staged)
    (counted_put c.in_ok-copy.copy (record { version = c.in-Some.served.now.ver; analysis = c.in_ok-analysis.analysis }) c.args.plan.now.staged (c.in-Some.ensures.fits.0, c.in-Some.ensures.fits.1) h)
