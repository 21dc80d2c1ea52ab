use Rattle.std.proofs.Common.{◌≡◌, sym, subst, take, rules}
use Rattle.doors.specs.Coming.{IsHead}
use Rattle.doors.proofs.Fronts.{head_alone}
use Rattle.doors.proofs.heads.take_front.Goals as goal

pub returns-clause-head : goal.returns-clause-head
returns-clause-head c =
    let cut : c.in_ok-head.head.items ≡ take c.args.end c.args.unread.now.items = search rules in
    subst IsHead (sym cut) (head_alone c.args.unread.now.items c.args.end c.requires.head)
