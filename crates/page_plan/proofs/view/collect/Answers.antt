use Rattle.std.proofs.Common.{ap, ◌∙◌}
use Rattle.core_model.specs.Names.{has}
use Rattle.core_model.specs.Page.{new_entry}
use Rattle.page_plan.proofs.Making.{made_more}
use Rattle.page_plan.proofs.view.collect.Goals as goal

pub loop-name-preserved : goal.loop-name-preserved
loop-name-preserved c = made_more (λ n. new_entry (has c.args.met.now n) c.args.plan.now c.args.view.now n) c.args.names.now c.loop-name.name-index c.name-item.result _ c.loop-name.made c.put_found.new.made
    c.loop-name-test.true c.requires c.name-item.is c.loop-name.invariant
    (c.new_entry-entry.ensures ∙ ap (λ b. new_entry b c.args.plan.now c.args.view.now c.name-item.result) c.has.ensures)
    c.in_ok-put_found.ensures
