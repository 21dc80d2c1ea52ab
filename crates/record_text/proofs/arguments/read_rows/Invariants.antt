use Rattle.std.proofs.Common.{◌≡◌, [], None, drop, map}
use Rattle.record_text.specs.Lines.{rows_from}
use Rattle.record_text.proofs.arguments.read_rows.Given as goal

-- the words that are left go on from the rows so far
abbrev pub invariant-loop-word : goal.invariant-loop-word
invariant-loop-word l =
    rows_from l.rows.items l.pending (map (λ w. w.now) (drop l.word-index l.words)) ≡ rows_from [] None (map (λ w. w.now) l.words)
