-- Steps of one client, and what they leave of another.
use Rattle.std.specs.Prelude.{◌≡◌, ℕ, ◌==◌, not, Bool, true, false, ◌∷◌}
use Rattle.core_model.specs.Client.{Client}
use Rattle.client_model.specs.Runtime.{Runtime}
use Rattle.world_model.specs.World.{Step, edits, settles, opens, turn, closes, show, values, fates, fresh}
use Rattle.world_model.specs.World.{fresh_of, fires}
use Rattle.world_laws.specs.Quiet.{IsOpen}
use Rattle.world_laws.specs.Runs.{Run, world_of, sources_of, life_in, HasClient}

-- the step is one of another client than j: one that comes, or one that makes a turn, shows itself, hears an
-- event or closes
abbrev pub is_of_another : ℕ → Step → Bool
is_of_another j (edits n t) = false
is_of_another j (settles n v) = false
is_of_another j (opens format names) = true
is_of_another j (turn i) = not (i == j)
is_of_another j (closes i) = not (i == j)
is_of_another j (show i) = not (i == j)
is_of_another j (values i) = not (i == j)
is_of_another j (fates i) = not (i == j)
is_of_another j fresh = false
is_of_another j (fresh_of i) = not (i == j)
is_of_another j (fires i n value) = not (i == j)

-- the run with one step more
abbrev pub then_step : Run → Step → Run
then_step run s = record run { steps = s ∷ run.steps }

-- client j is open as it was before the step, and nothing came to it; the sources are as they were
pub record IsSpared (run : Run) (s : Step) (j : ℕ) (c : Client) (r : Runtime) : Type 0 where
  pub is_open : IsOpen (world_of (then_step run s)) j c r
  pub life : life_in (then_step run s) j ≡ life_in run j
  pub sources : sources_of (then_step run s) ≡ sources_of run

-- a step of another client changes nothing of any that is open
abbrev pub OthersAreSpared : Run → Step → Type 0
OthersAreSpared run s =
    (j : ℕ) (c : Client) (r : Runtime) → HasClient run j c r → is_of_another j s ≡ true
    → IsSpared run s j c r
