use Rattle.std.proofs.Math.Path.{subst}
use Rattle.plan_changes.specs.Changing.{HasChanged, page_done}
use Rattle.plan_steps.proofs.applying.apply_to.Goals as goal

pub returns-clause-applied : goal.returns-clause-applied
returns-clause-applied g c = λ r p s found. record {
  began = c.change_page.new.lines.items;
  page = subst (λ told. HasChanged (page_done p.kind p r) r p c.args.page.now c.change_page.new.page told c.change_page.new.lines.items) c.new-lines.ensures.items
      (c.in_ok-change_page.ensures.changed r p s found.changes found.made);
  lines = c.in_ok-push.ensures.items;
}
