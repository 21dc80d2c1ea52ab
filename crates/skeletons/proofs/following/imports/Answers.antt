use Rattle.skeletons.proofs.Gathering.{gathered_firsts}
use Rattle.skeletons.specs.Following.{targets}
use Rattle.skeletons.specs.declared.following.Relation.TheVariants as relations
use Rattle.std.proofs.Common.{rules}
use Rattle.skeletons.proofs.following.imports.Goals as goal

pub returns : goal.returns
returns c =
    gathered_firsts (targets relations.Imported c.args.name.now c.args.text.now c.args.specifiers.now) (targets relations.Called c.args.name.now c.args.text.now c.args.specifiers.now)
    c.gather.new.names.items c.gather-2.new.names.items (search rules) (search rules)
