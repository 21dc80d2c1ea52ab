use Rattle.std.proofs.Common.{refl, ap, sym, ◌∙◌}
use Rattle.page_plan.proofs.Numbering.{found}
use Rattle.plan_changes.specs.Changing.{links_by}
use Rattle.plan_changes.proofs.Gathering.{tree_left}
use Rattle.plan_changes.proofs.births.birth_of.Goals as goal

pub returns-in_err-copy_name-clause-trees : goal.returns-in_err-copy_name-clause-trees
returns-in_err-copy_name-clause-trees c = tree_left c.args.name.now c.args.trees.now c.remove.new.self c.remove.ensures.updates

pub returns-in_err-copy_exports-clause-trees : goal.returns-in_err-copy_exports-clause-trees
returns-in_err-copy_exports-clause-trees c = tree_left c.args.name.now c.args.trees.now c.remove.new.self c.remove.ensures.updates

pub returns-in_err-links_of-clause-trees : goal.returns-in_err-links_of-clause-trees
returns-in_err-links_of-clause-trees c = tree_left c.args.name.now c.args.trees.now c.remove.new.self c.remove.ensures.updates

pub returns-clause-birth : goal.returns-clause-birth
returns-clause-birth c = record {
  entry = record { version = c.in-Some.entry.0; analysis = c.in-Some.entry.1.now };
  there = sym c.in-Some.ensures;
  name = c.in_ok-copy_name.ensures;
  version = refl;
  exports = c.in_ok-copy_exports.ensures;
  links = c.in_ok-links_of.ensures ∙ ap (links_by c.args.numbers.now c.args.live.now) c.as_slice.ensures;
  tree = sym (found c.args.name.now c.args.trees.now.entries) ∙ sym c.in-Some-remove.ensures.value;
}

pub returns-clause-trees : goal.returns-clause-trees
returns-clause-trees c = tree_left c.args.name.now c.args.trees.now c.remove.new.self c.remove.ensures.updates
