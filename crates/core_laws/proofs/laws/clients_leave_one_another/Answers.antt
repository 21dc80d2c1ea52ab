use Rattle.core_laws.proofs.Isolation.{other_request, other_leaves, other_comes}
use Rattle.core_laws.proofs.laws.clients_leave_one_another.Goals as goal

pub returns-clause-request : goal.returns-clause-request
returns-clause-request c = other_request

pub returns-clause-disconnect : goal.returns-clause-disconnect
returns-clause-disconnect c = other_leaves

pub returns-clause-connect : goal.returns-clause-connect
returns-clause-connect c = other_comes
