use Rattle.transcript_check.proofs.Entering.{open_some}
use Rattle.transcript_check.proofs.entry.place.Goals as goal

pub returns-in-Some : goal.returns-in-Some
returns-in-Some c = λ r h.
    let fits = c.in-Some.ensures in
    open_some r c.args.replay c.args.opened c.in-Some.left h fits.0.0 fits.0.1 fits.1
