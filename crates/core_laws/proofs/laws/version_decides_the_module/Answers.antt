use Rattle.std.proofs.Common.{◌≡◌, false, List}
use Rattle.std.specs.Prelude.{Option, Some, None, IfSome}
use Rattle.core_model.specs.Names.{Name, at}
use Rattle.core_model.specs.Page.{Plan}
use Rattle.core_model.specs.View.{differs}
use Rattle.core_model.specs.Client.{Client}
use Rattle.core_model.specs.Core.{Event, client_at, core_after, changes_of}
use Rattle.core_laws.specs.Given.{analysis_given}
use Rattle.core_laws.specs.Facts.{PlanIs, IsServed}
use Rattle.std.proofs.lemmas.Option.{IfSome_then}
use Rattle.core_laws.proofs.Times.{same_entry}
use Rattle.core_laws.proofs.Events.{client_facts, served_given}
use Rattle.core_laws.proofs.laws.version_decides_the_module.Goals as goal

pub returns-clause-view : goal.returns-clause-view
returns-clause-view c roots past i n = IfSome_then (client_at (core_after roots past).clients i) (client_facts roots past i)
    (λ client facts. same_entry (analysis_given (changes_of past) n) (at client.page.view n) (at (core_after roots past).sources.served n) (facts.viewed n) (served_given roots past n))

by_plan : (roots own : List Name) (past : List Event) (n : Name) (client : Client) (plan : Option Plan) → PlanIs plan own (analysis_given (changes_of past)) client.page.loaded client.page.view client.page.forced → IfSome plan (λ p. differs (at p.staged n) (at (core_after roots past).sources.served n) ≡ false → IsServed (at p.staged n) (at (core_after roots past).sources.served n))
by_plan roots own past n client None h = tt
by_plan roots own past n client (Some p) h = same_entry (analysis_given (changes_of past) n) (at p.staged n) (at (core_after roots past).sources.served n) (h.1 n) (served_given roots past n)

pub returns-clause-staged : goal.returns-clause-staged
returns-clause-staged c roots past i n = IfSome_then (client_at (core_after roots past).clients i) (client_facts roots past i)
    (λ client facts. by_plan roots client.roots past n client client.page.plan facts.planned)
