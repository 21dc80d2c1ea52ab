use Rattle.std.proofs.Common.{sym, ◌∙◌, subst}
use Rattle.http_heads.specs.Asks.{Asks, a_head, no_head}
use Rattle.http_heads.proofs.OneAsk.{spans_ask}
use Rattle.http_heads.proofs.asked.judge.Goals as goal

pub returns-in-Some-clause-asks : goal.returns-in-Some-clause-asks
returns-in-Some-clause-asks c =
    let found = c.in-Some.ensures.some in
    subst (Asks _) (sym (c.asked_at.ensures ∙ spans_ask _ _ _ found.0 found.2)) (a_head found.0 found.1)

pub returns-in-None-clause-asks : goal.returns-in-None-clause-asks
returns-in-None-clause-asks c = no_head (λ h is. rw c.in-None.is at (c.whole_head.ensures.found h is))
