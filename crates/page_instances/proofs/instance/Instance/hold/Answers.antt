use Rattle.std.proofs.Common.{sym, OnOk}
use Rattle.std.proofs.Math.Path.{subst}
use Rattle.page_instances.specs.Holding.{with_held}
use Rattle.page_instances.specs.Seeing.{Sees, deed_in}
use Rattle.page_instances.proofs.instance.Instance.hold.Goals as goal

pub returns-in-Dispose-clause-sees : goal.returns-in-Dispose-clause-sees
returns-in-Dispose-clause-sees g c = λ deps i s. subst (λ k. OnOk c.hold_disposer.result (Sees (with_held k deps (deed_in c.args.handler) i) c.hold_disposer.new.self)) (sym c.in-Dispose.is) (c.hold_disposer.ensures.sees deps i s)

pub returns-in-Prune-clause-sees : goal.returns-in-Prune-clause-sees
returns-in-Prune-clause-sees g c = λ deps i s. subst (λ k. OnOk c.hold_prune.result (Sees (with_held k deps (deed_in c.args.handler) i) c.hold_prune.new.self)) (sym c.in-Prune.is) (c.hold_prune.ensures.sees deps i s)

pub returns-in-Own-clause-sees : goal.returns-in-Own-clause-sees
returns-in-Own-clause-sees g c = λ deps i s. subst (λ k. OnOk c.add_own.result (Sees (with_held k deps (deed_in c.args.handler) i) c.add_own.new.self)) (sym c.in-Own.is) (c.add_own.ensures.sees deps i s)
