use Rattle.live_editor.specs.Editors.{GoesOn}
use Rattle.live_editor.proofs.live_editor.LiveEditor.make_each.Given as goal

-- the editor has gone on
abbrev pub invariant-loop-change : goal.invariant-loop-change
invariant-loop-change g l = record { goes : GoesOn l.fn.self l.self }
