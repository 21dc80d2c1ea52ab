use Rattle.plan_changes.proofs.Gathering.{born_more}
use Rattle.plan_changes.proofs.births.births_of.Goals as goal

pub loop-name-preserved : goal.loop-name-preserved
loop-name-preserved c =
    let l = c.loop-name in
    record {
      made = born_more c.args.plan.now c.args.view.now c.args.numbers.now c.args.live.now c.args.trees.now.entries l.trees.entries c.args.names.now l.name-index c.name-item.result l.births.items c.push.new.self.items c.in_ok-birth.birth
          c.loop-name-test.true c.name-item.is l.invariant.trees c.in_ok-birth.ensures.birth l.invariant.made c.in_ok-push.ensures.items;
      trees = λ n tree e. l.invariant.trees n tree (c.birth_of.ensures.trees n tree e);
    }
