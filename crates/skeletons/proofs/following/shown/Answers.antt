use Rattle.std.proofs.Common.{rules}
use Rattle.skeletons.proofs.Gathering.{shown_is}
use Rattle.skeletons.proofs.following.shown.Goals as goal

pub returns : goal.returns
returns c =
    shown_is c.args.name.now c.args.text.now c.args.outline.now c.deref.result.now c.from_vec.result c.new.result c.from_vec-2.result c.accepts_itself.result c.declines.result (search rules) (search rules) (search rules) (search rules) (search rules) (search rules)
