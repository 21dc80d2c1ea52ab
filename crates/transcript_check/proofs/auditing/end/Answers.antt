use Rattle.std.proofs.Common.{subst}
use Rattle.transcript_check.specs.Following.{IsAt}
use Rattle.transcript_check.proofs.Passing.{between_end, roots_end}
use Rattle.transcript_check.proofs.auditing.end.Goals as goal

pub returns-in-InRoots : goal.returns-in-InRoots
returns-in-InRoots c = λ so_far h.
    roots_end c.args.line c.in-InRoots.roots c.end_of_roots.result c.end_of_roots.ensures so_far (subst (λ x. IsAt so_far x) c.in-InRoots.is h)

pub returns-in-Between : goal.returns-in-Between
returns-in-Between c = λ so_far h.
    between_end c.args.line c.in-Between.replay c.in-Between.field-1 so_far (subst (λ x. IsAt so_far x) c.in-Between.is h)
