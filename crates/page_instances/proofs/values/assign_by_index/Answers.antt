use Rattle.std.proofs.Common.{rules, ◌≡◌, ◌<◌, ◌≤◌, length, ◌∙◌}
use Rattle.page_instances.proofs.Assigning.{next_given, all_given}
use Rattle.page_instances.proofs.values.assign_by_index.Goals as goal

pub loop-variable-preserved : goal.loop-variable-preserved
loop-variable-preserved c =
    let lt : c.loop-variable.variable-index < length c.loop-variable.variable-items = search rules in
    next_given c.in_ok-index.index c.args.changes.now c.loop-variable.variable-items c.loop-variable.variable-index c.variable-item.result c.give_last.new.variable
    c.in_ok-index.ensures lt c.in_ok-give_last.ensures
    ∙ c.loop-variable.invariant

pub returns : goal.returns
returns c =
    let long : c.args.values.now.len ≡ length c.loop-variable.variable-items = search rules in
    let end : length c.loop-variable.variable-items ≤ c.loop-variable.variable-index = search rules in
    all_given c.args.changes.now c.args.values.now.items c.loop-variable.variable-items c.args.values.now.len c.loop-variable.variable-index long end c.loop-variable.invariant
