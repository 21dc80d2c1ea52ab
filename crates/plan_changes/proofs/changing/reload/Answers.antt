use Rattle.plan_changes.proofs.Altering.{reloaded_changed}
use Rattle.plan_changes.proofs.changing.reload.Goals as goal

pub returns-clause-changed : goal.returns-clause-changed
returns-clause-changed g c = λ r p s is m.
    reloaded_changed r p c.args.births.items c.args.page.now c.reload_all.new.page c.make_all.new.page c.args.lines.now.items c.make_all.new.lines.items s m
    c.in_ok-reload_all.ensures.count (c.in_ok-reload_all.ensures.follows c.args.lines.now.items) (λ n. c.in_ok-reload_all.ensures.gone r s n) c.in_ok-make_all.ensures.follows
