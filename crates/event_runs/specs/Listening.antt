-- Which handlers run where an event comes to a client.
use Rattle.std.specs.Prelude.{◌≡◌, ℕ, ◌==◌, List, [], ◌∷◌, flat_map, Option, Some, None, if◌then◌else◌, ⊤}
use Rattle.core_model.specs.Names.{Name}
use Rattle.client_model.specs.Instance.{Instance, accepts_dep, is_live, numbered, places_of}
use Rattle.client_model.specs.Journal.{Happening, Journal, made, evaluated, not_run, registered, no_host, ran}
use Rattle.client_model.specs.Journal.{dropped, ended, gave_up, gave_up_all, told}
use Rattle.client_model.specs.Language.{Language}
use Rattle.client_model.specs.Past.{Past, event, message, met, runtime_after}
use Rattle.client_model.specs.Runtime.{Opening, Runtime}

-- the place of the handler of instance k that is run
abbrev pub run_to : ℕ → Happening → List ℕ
run_to k (made i) = []
run_to k (evaluated j n bag e) = []
run_to k (not_run j n) = []
run_to k (registered j h) = []
run_to k (no_host j n label) = []
run_to k (ran j spot n at bag left) = if j == k then spot ∷ [] else []
run_to k (dropped j spot) = []
run_to k (ended j n fate) = []
run_to k (gave_up n) = []
run_to k gave_up_all = []
run_to k (told l) = []

-- the places of the handlers of instance k that are run, in order
abbrev pub runs_in : Journal → ℕ → List ℕ
runs_in journal k = flat_map (run_to k) journal

-- the listeners of an instance, by place, which is the order of registration: where it is live, its callbacks
-- on dependencies that list the event and are held
abbrev pub listeners_of : Name → Option Instance → List ℕ
listeners_of n None = []
listeners_of n (Some i) = if is_live i then places_of (accepts_dep n) (Some i) else []

-- of each live instance each listener ran once, in the order of registration; of no other instance any
-- handler did
abbrev pub ListenersRan : Name → List Instance → Journal → Type 0
ListenersRan n instances journal = (k : ℕ) → runs_in journal k ≡ listeners_of n (numbered instances k)

-- so it was at each event that came to a client
abbrev pub AllListenersRan : Language → Opening → Past → Type 0
AllListenersRan language opening [] = ⊤
AllListenersRan language opening (message m ∷ past) = AllListenersRan language opening past
AllListenersRan language opening (event n v ∷ past) =
    let r : Runtime = runtime_after language opening past in
    ListenersRan n r.instances (met language (event n v) r).1 × AllListenersRan language opening past
