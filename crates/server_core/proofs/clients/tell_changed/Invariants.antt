use Rattle.server_core.proofs.Numbers.{Becomes, TellsChanged}
use Rattle.server_core.proofs.Upto.{Upto}
use Rattle.server_core.proofs.clients.tell_changed.Given as goal

-- those before were told
abbrev pub invariant-loop-row : goal.invariant-loop-row
invariant-loop-row l = Upto (Becomes (TellsChanged l.name l.sources)) l.row-index l.initial.clients l.clients
