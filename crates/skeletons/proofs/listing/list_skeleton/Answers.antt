use Rattle.skeletons.proofs.Outcomes.{list_learns}
use Rattle.skeletons.proofs.listing.list_skeleton.Goals as goal

pub returns-clause-outcome : goal.returns-clause-outcome
returns-clause-outcome c = λ base.
    list_learns c.args.stamp c.args.imports.now c.args.accepts.now c.in_ok-made.made.items base c.requires.stamp c.note_names.ensures c.in_ok-made.ensures
