use Rattle.std.proofs.Common.{ap, arith, length, sum_by}
use Rattle.serve_crew.specs.Crews.{ends_held}
use Rattle.serve_crew.proofs.crew.Crew.begin_session.Goals as goal

pub returns-in-Err-clause-ends : goal.returns-in-Err-clause-ends
returns-in-Err-clause-ends g c = λ others h. omega (arith, h, c.hang_up.ensures.lent, ap (λ xs. sum_by ends_held xs) c.split.ensures.running, ap (λ v. length v.items) c.split.ensures.clients)

pub returns-clause-ends : goal.returns-clause-ends
returns-clause-ends g c = λ others h. c.begin.ensures.ends others (omega (arith, h, ap (λ xs. sum_by ends_held xs) c.split.ensures.running, ap (λ v. length v.items) c.split.ensures.clients))
