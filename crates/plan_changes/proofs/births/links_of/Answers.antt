use Rattle.std.proofs.Common.{ap, ◌∙◌}
use Rattle.std.specs.Option.{option_or}
use Rattle.page_plan.specs.Numbers.{new_number}
use Rattle.plan_changes.proofs.Gathering.{linked_more}
use Rattle.plan_changes.proofs.births.links_of.Goals as goal

pub loop-import-preserved : goal.loop-import-preserved
loop-import-preserved c =
    linked_more c.args.numbers.now c.args.live.now c.args.imports.now c.loop-import.import-index c.import-item.result c.after-number.result c.loop-import.links.items c.add_link.new.links.items
    c.loop-import-test.true c.import-item.is (c.after-number.ensures ∙ ap (option_or (new_number c.args.numbers.now c.import-item.result)) c.get.ensures) c.loop-import.invariant c.in_ok-add_link.ensures
