use Rattle.std.proofs.Common.{◌≡◌, length}
use Rattle.std.specs.Prelude.{All}
use Rattle.server_core.proofs.clients.copies_for.Given as goal

-- so many copies so far
abbrev pub invariant-loop-row : goal.invariant-loop-row
invariant-loop-row l = All (λ m. m ≡ l.name) l.copies.items × (length l.copies.items ≡ l.row-index)
