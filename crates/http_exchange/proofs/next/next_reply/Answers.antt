use Rattle.std.proofs.Common.{rules}
use Rattle.http_exchange.proofs.Steps.{gave_head, gave_long, gave_part}
use Rattle.http_exchange.proofs.next.next_reply.Goals as goal

pub returns-in_ok-take_front-in-Head-clause-gave :
    goal.returns-in_ok-take_front-in-Head-clause-gave
returns-in_ok-take_front-in-Head-clause-gave g c =
    gave_head _ _ _ _ _ _ c.deref.result.now c.in_ok-end.field-0 c.in-Head.end _ c.in_ok-end.ensures.moves c.in-Head.is
    c.in_ok-end.ensures.cuts c.deref.ensures.value c.in_ok-reply-in-Head.ensures c.in_ok-take_front-in-Head.ensures

pub returns-in_ok-reply-in-TooLong-clause-gave : goal.returns-in_ok-reply-in-TooLong-clause-gave
returns-in_ok-reply-in-TooLong-clause-gave g c =
    gave_long _ _ _ _ _ c.in_ok-end.field-0 _ c.in_ok-end.ensures.moves c.in-TooLong.is
    c.in_ok-end.ensures.cuts c.in_ok-reply-in-TooLong.ensures

pub returns-in_ok-reply-in-Partial-2-clause-gave :
    goal.returns-in_ok-reply-in-Partial-2-clause-gave
returns-in_ok-reply-in-Partial-2-clause-gave g c =
    gave_part _ _ _ _ _ c.in_ok-end.field-0 _ c.in_ok-end.ensures.moves c.in-Partial-2.is
    c.in_ok-end.ensures.cuts c.in_ok-end.ensures.end (λ e. search rules) c.in_ok-reply-in-Partial-2.ensures
