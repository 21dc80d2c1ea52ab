use Rattle.std.proofs.Common.{◌∙◌}
use Rattle.join_command.proofs.Lines.{never_opened}
use Rattle.join_command.proofs.session.run.Goals as goal

pub returns-in-Err-clause-joins : goal.returns-in-Err-clause-joins
returns-in-Err-clause-joins g c = λ opening s.
    never_opened c.in-Err.fault _ opening _ _ _ _ _ _ _ c.args.runtime.now _ c.from.ensures s
    (c.close.ensures.left ∙ c.open.ensures.left) (c.close.ensures.sent ∙ c.open.ensures.sent)
    c.ends_as.ensures.is
