-- How many instances a client made.
use Rattle.std.specs.Prelude.{ℕ, length, Option, Some, None}
use Rattle.core_model.specs.Core.{client_at}
use Rattle.client_model.specs.Runtime.{Runtime}
use Rattle.world_model.specs.World.{World}
use Rattle.world_model.specs.Playing.{Stage}
use Rattle.event_runs.specs.Courses.{world_in}
use Rattle.event_runs.specs.Playing.{Played}

-- the instances that a client made so far; none where it isn't open
abbrev pub made_by : Option Runtime → ℕ
made_by None = 0
made_by (Some r) = length r.instances

abbrev pub instances_made : World → ℕ → ℕ
instances_made w i = made_by (client_at w.clients i)

-- the instances that the first client made in what was played
abbrev pub first_made : Stage → Played → ℕ
first_made stage p = instances_made (world_in stage p.course) 1
