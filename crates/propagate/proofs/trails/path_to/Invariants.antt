use Rattle.std.proofs.Common.{◌≡◌, ◌<◌, ◌++◌, List, [], length, get_or, reverse}
use Rattle.std.specs.Prelude.{IfSome}
use Rattle.core_model.specs.Names.{Name}
use Rattle.propagate.specs.Trails.{AreTrails}
use Rattle.propagate.proofs.Trailing.{path_before, places_to}
use Rattle.propagate.proofs.trails.path_to.Given as goal

-- the path is the one to the place that is next, and the names so far turned round
abbrev pub invariant-loop-place : goal.invariant-loop-place
invariant-loop-place l = IfSome l.place (λ i. i < length l.names) × ((paths : List (List Name)) → AreTrails l.names l.from paths → get_or paths l.at [] ≡ path_before paths l.place ++ reverse l.path.items)

abbrev pub decreases-loop-place : goal.decreases-loop-place
decreases-loop-place l = places_to l.place
