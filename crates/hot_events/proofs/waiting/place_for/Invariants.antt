use Rattle.std.proofs.Common.{◌≡◌, ◌++◌, drop, take}
use Rattle.hot_events.specs.Rows.{Row, with_row}
use Rattle.hot_events.proofs.waiting.place_for.Given as goal

-- those before stay before
abbrev pub invariant-loop-place : goal.invariant-loop-place
invariant-loop-place l =
    (row : Row) → row.0 ≡ l.client → with_row row l.lists ≡ take l.place l.lists ++ with_row row (drop l.place l.lists)
