use Rattle.std.proofs.Common.{sym, ◌∙◌}
use Rattle.page_marks.proofs.Renewing.{grown_none}
use Rattle.page_marks.proofs.marks.enter.Goals as goal

-- the name is on the page
pub returns-then-is_on-clause-grown : goal.returns-then-is_on-clause-grown
returns-then-is_on-clause-grown c = grown_none c.args.queue.now

pub returns-then-is_on-clause-known : goal.returns-then-is_on-clause-known
returns-then-is_on-clause-known c = c.requires (sym c.is_on.ensures ∙ c.if-is_on.true)
