use Rattle.std.proofs.Common.{OnOk, sym}
use Rattle.std.proofs.Math.Path.{subst}
use Rattle.plan_changes.specs.Changing.{HasChanged, IsChange, page_done}
use Rattle.plan_changes.proofs.changing.change_page.Goals as goal

pub returns-in-Load-clause-changed : goal.returns-in-Load-clause-changed
returns-in-Load-clause-changed g c = λ r p s is m.
    let known = subst (IsChange r p) c.in-Load.is is in
    subst (λ k. OnOk c.load.result (HasChanged (page_done k p r) r p c.args.page.now c.load.new.page c.args.lines.now.items c.load.new.lines.items)) (sym known) (c.load.ensures.changed r p s known m)

pub returns-in-Reload-clause-changed : goal.returns-in-Reload-clause-changed
returns-in-Reload-clause-changed g c = λ r p s is m.
    let known = subst (IsChange r p) c.in-Reload.is is in
    subst (λ k. OnOk c.reload.result (HasChanged (page_done k p r) r p c.args.page.now c.reload.new.page c.args.lines.now.items c.reload.new.lines.items)) (sym known) (c.reload.ensures.changed r p s known m)

pub returns-in-Update-clause-changed : goal.returns-in-Update-clause-changed
returns-in-Update-clause-changed g c = λ r p s is m.
    let known = subst (IsChange r p) c.in-Update.is is in
    subst (λ k. OnOk c.replace.result (HasChanged (page_done k p r) r p c.args.page.now c.replace.new.page c.args.lines.now.items c.replace.new.lines.items)) (sym known.kind) (c.replace.ensures.changed r p s known m)
