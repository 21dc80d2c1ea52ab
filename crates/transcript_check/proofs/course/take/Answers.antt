use Rattle.std.proofs.Common.{subst}
use Rattle.transcript_check.specs.Following.{IsAt, IsSomewhere}
use Rattle.transcript_check.proofs.Passing.{between_taken, roots_taken, some_between, some_within, within_taken}
use Rattle.transcript_check.proofs.course.take.Goals as goal

pub take_between-requires : goal.take_between-requires
take_between-requires c = record { between = some_between c.in-Between.replay c.in-Between.may (subst IsSomewhere c.in-Between.is c.requires.somewhere) }

pub take_within-requires : goal.take_within-requires
take_within-requires c = record { within = some_within c.in-Within.replay c.in-Within.opened c.in-Within.left (subst IsSomewhere c.in-Within.is c.requires.somewhere) }

pub returns-in-InRoots : goal.returns-in-InRoots
returns-in-InRoots c = λ so_far h.
    roots_taken c.args.line c.args.said c.in-InRoots.roots c.take_in_roots.result c.take_in_roots.ensures so_far (subst (λ x. IsAt so_far x) c.in-InRoots.is h)

pub returns-in-Between : goal.returns-in-Between
returns-in-Between c = λ so_far h.
    between_taken c.args.line c.args.said c.in-Between.replay c.in-Between.may c.take_between.result c.take_between.ensures so_far (subst (λ x. IsAt so_far x) c.in-Between.is h)

pub returns-in-Within : goal.returns-in-Within
returns-in-Within c = λ so_far h.
    within_taken c.args.line c.args.said c.in-Within.replay c.in-Within.opened c.in-Within.left c.take_within.result c.take_within.ensures so_far (subst (λ x. IsAt so_far x) c.in-Within.is h)
