use Rattle.std.proofs.Common.{◌≡◌, ◌+◌, length}
use Rattle.std.specs.Prelude.{All}
use Rattle.std.specs.List.{AllWithin}
use Rattle.server_core.specs.Clients.{HasRoom}
use Rattle.server_core.proofs.Numbers.{Becomes, TellsNotice}
use Rattle.server_core.proofs.Upto.{Upto}
use Rattle.server_core.proofs.clients.give_notices.Given as goal

-- those before were told, the others have room, and there is a copy for each of them
abbrev pub invariant-loop-row : goal.invariant-loop-row
invariant-loop-row l = Upto (Becomes (TellsNotice l.name l.fault)) l.row-index l.initial.clients l.clients × AllWithin HasRoom l.clients l.row-index (length l.clients) × All (λ m. m ≡ l.name) l.copies.items × (length l.copies.items + l.row-index ≡ length l.clients)
