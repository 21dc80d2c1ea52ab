use Rattle.std.proofs.Common.{take}
use Rattle.std.specs.Prelude.{All}
use Rattle.core_model.specs.Formed.{IsName}
use Rattle.event_facts.proofs.noting.note_names.Given as goal

-- the names so far are names
abbrev pub invariant-loop-name : goal.invariant-loop-name
invariant-loop-name l = All IsName (take l.name-index l.names)
