use Rattle.live_editor.specs.Editors.{GoesOn}
use Rattle.live_editor.proofs.rounds.run_rounds.Given as goal

-- the editor has gone on
abbrev pub invariant-loop : goal.invariant-loop
invariant-loop g l =
    (goal.iterator-loop g).can_next l.iterator' × (goal.iterator-loop g).is_finite l.iterator'
    × record { goes : GoesOn l.fn.editor l.editor }
