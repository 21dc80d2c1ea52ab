use Rattle.std.specs.List.{AllZip, AllWithin}
use Rattle.server_core.specs.Clients.{HasRoom}
use Rattle.server_core.proofs.Numbers.{Becomes, Stays}
use Rattle.server_core.proofs.clients.make_room.Given as goal

-- those before have room, and each is the record that it was
abbrev pub invariant-loop-row : goal.invariant-loop-row
invariant-loop-row l = AllZip (Becomes Stays) l.initial.clients l.clients × AllWithin HasRoom l.clients 0 l.row-index
