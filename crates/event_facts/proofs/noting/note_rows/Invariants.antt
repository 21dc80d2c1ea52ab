use Rattle.std.proofs.Common.{take}
use Rattle.std.specs.Prelude.{All}
use Rattle.core_model.specs.Formed.{IsName}
use Rattle.event_facts.proofs.noting.note_rows.Given as goal

-- the names so far are names
abbrev pub invariant-loop-row : goal.invariant-loop-row
invariant-loop-row l = All (λ row. IsName row.0) (take l.row-index l.rows)
