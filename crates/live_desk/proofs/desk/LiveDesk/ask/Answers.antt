use Rattle.live_desk.proofs.Waiting.{asked_again}
use Rattle.live_desk.proofs.desk.LiveDesk.ask.Goals as goal

pub returns-clause-asked : goal.returns-clause-asked
returns-clause-asked g c =
    asked_again c.args.self.now.desk c.deal.new.self c.deal-2.new.self c.in_ok-first.first c.deal-2.result c.in_ok-first.ensures.dealt
    (c.is_idle.ensures.0 c.if-not-is_idle.false) c.deal-2.ensures.dealt
