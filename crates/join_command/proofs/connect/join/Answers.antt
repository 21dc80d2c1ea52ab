use Rattle.std.proofs.Common.{arith}
use Rattle.join_command.proofs.Lines.{joined, joined_by}
use Rattle.join_command.proofs.connect.join.Goals as goal

pub returns-clause-joins : goal.returns-clause-joins
returns-clause-joins g c =
    joined _ _ _ _ _ _ _ _ _ _ _ c.new-runtime.ensures.format c.in-Ok.ensures.told c.in-Ok.ensures.silent
    (c.run-ended.ensures.joins _ c.new-runtime.ensures.stands)

pub returns-clause-over : goal.returns-clause-over
returns-clause-over g c =
    joined_by _ _ _ _ _ _ _ _ _ _ _ _ _ _ c.new-runtime.ensures.format c.in-Ok.ensures.told
    c.in-Ok.ensures.silent c.in-Ok.ensures.no_more c.retire.ensures.unread c.retire.ensures.spoken
    (c.run-ended.ensures.joins _ c.new-runtime.ensures.stands)

pub returns-clause-back : goal.returns-clause-back
returns-clause-back g c = omega (arith, c.retire.ensures.lent, c.in-Ok.ensures.gave.one_more)
