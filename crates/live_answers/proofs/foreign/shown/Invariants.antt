use Rattle.std.proofs.Common.{◌≡◌, ◌<◌, length}
use Rattle.std.specs.Prelude.{All}
use Rattle.live_answers.proofs.foreign.shown.Given as goal

abbrev pub invariant-loop-b : goal.invariant-loop-b
invariant-loop-b l =
    (length l.text.items ≡ l.b-index) × All (λ b. (32 < b) × (b < 127)) l.text.items
