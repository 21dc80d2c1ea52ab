-- A run without the turns, the looks and the events of all clients but one.
use Rattle.std.specs.Prelude.{◌≡◌, ℕ, ◌==◌, Bool, true, filter}
use Rattle.core_model.specs.Client.{Client}
use Rattle.client_model.specs.Runtime.{Runtime}
use Rattle.world_model.specs.World.{Step, edits, settles, opens, turn, closes, show, values, fates, fresh}
use Rattle.world_model.specs.World.{fresh_of, fires}
use Rattle.world_laws.specs.Runs.{Run, sources_of, life_in, HasClient, next_reply}

-- any step but a turn, a look or an event of another client than d; another's opening and closing stay,
-- since the places of clients are shared
abbrev pub concerns : ℕ → Step → Bool
concerns d (edits n t) = true
concerns d (settles n v) = true
concerns d (opens format names) = true
concerns d (turn i) = i == d
concerns d (closes i) = true
concerns d (show i) = i == d
concerns d (values i) = i == d
concerns d (fates i) = i == d
concerns d fresh = true
concerns d (fresh_of i) = i == d
concerns d (fires i n value) = i == d

-- the run with the others left out
abbrev pub alone : ℕ → Run → Run
alone d run = record run { steps = filter (concerns d) run.steps }

-- client d is the very same in it, with all that came to it; and so are the sources, and what the server
-- answers it next
pub record IsSameAlone (run : Run) (d : ℕ) (c : Client) (r : Runtime) : Type 0 where
  pub client : HasClient (alone d run) d c r
  pub life : life_in (alone d run) d ≡ life_in run d
  pub sources : sources_of (alone d run) ≡ sources_of run
  pub reply : next_reply (alone d run) d r ≡ next_reply run d r
