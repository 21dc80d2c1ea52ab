use Rattle.std.proofs.Common.{rules}
use Rattle.skeletons.specs.Following.{imports_shown, targets}
use Rattle.skeletons.specs.declared.following.Relation.TheVariants as relations
use Rattle.skeletons.proofs.Gathering.{among_is}
use Rattle.skeletons.proofs.following.modules.Goals as goal

pub returns-clause-accepted : goal.returns-clause-accepted
returns-clause-accepted c =
    among_is c.in_ok-accepted.accepted.items c.deref.result.now c.deref-2.result.now (imports_shown c.args.name.now c.args.text.now c.args.specifiers.now)
    (targets relations.Accepted c.args.name.now c.args.text.now c.args.specifiers.now) (search rules) (search rules) (search rules)
