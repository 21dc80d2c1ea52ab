use Rattle.client_queue.proofs.Marking.{any_marked, marked_has}
use Rattle.client_queue.proofs.known.KnownNames.is_any_marked.Goals as goal

pub returns-clause-any : goal.returns-clause-any
returns-clause-any c = rw (← c.self.view_is) (any_marked c.self.inside.row c.self.invariant.0 c.self.inside.marked_count c.self.invariant.1)

pub returns-clause-marked : goal.returns-clause-marked
returns-clause-marked c = rw (← c.self.view_is) (marked_has c.self.inside.row c.self.invariant.0 c.self.inside.marked_count c.self.invariant.1)
