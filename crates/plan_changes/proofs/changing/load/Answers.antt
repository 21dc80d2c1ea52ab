use Rattle.plan_changes.proofs.Altering.{loaded_changed}
use Rattle.plan_changes.proofs.changing.load.Goals as goal

pub returns-clause-changed : goal.returns-clause-changed
returns-clause-changed g c = λ r p s is m.
    loaded_changed r p c.args.births.items c.args.page.now c.make_all.new.page c.args.lines.now.items c.make_all.new.lines.items s is m c.in_ok-make_all.ensures.follows
