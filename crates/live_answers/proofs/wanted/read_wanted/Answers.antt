use Rattle.std.proofs.Common.{sym, subst}
use Rattle.live_answers.specs.Wants.{Wants, no_head, want_of}
use Rattle.live_answers.proofs.Heads.{head_wants, told_head}
use Rattle.live_answers.proofs.wanted.read_wanted.Goals as goal

pub returns-in-Some : goal.returns-in-Some
returns-in-Some c =
    head_wants c.args.port c.args.head.now _ _ _ _ (told_head _ _ _ c.in-Some.ensures) c.admit.ensures
    c.judge.ensures.head c.wanted_by.ensures

pub returns-in-None : goal.returns-in-None
returns-in-None c =
    subst (λ w. Wants c.args.port c.args.head.now (want_of w)) (sym c.refuse.ensures)
    (no_head (told_head _ _ _ c.in-None.ensures))
