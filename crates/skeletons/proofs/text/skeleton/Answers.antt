use Rattle.skeletons.proofs.Outcomes.{outcome_is}
use Rattle.skeletons.proofs.text.skeleton.Goals as goal

pub returns-clause-outcome : goal.returns-clause-outcome
returns-clause-outcome c = λ base.
    outcome_is c.args.stamp c.args.name.now c.args.text.now c.args.scan.now c.in_ok-made.made.items base c.requires.stamp c.in_ok-made.ensures
