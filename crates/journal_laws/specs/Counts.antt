-- What the journal tells of an instance and of its handlers: how often a handler was run or dropped, what
-- was registered, and how the instance ended.
use Rattle.std.specs.Prelude.{◌≡◌, ℕ, ◌==◌, Bool, true, false, ◌&&◌, List, [], ◌∷◌, length, map, filter}
use Rattle.std.specs.Prelude.{flat_map, slice_get, Contains, Some, if◌then◌else◌}
use Rattle.std.specs.List.{list_any}
use Rattle.hmr_types.specs.declared.words.HandlerKind.{HandlerKind}
use Rattle.hmr_types.specs.declared.words.HandlerKind.TheVariants as kind
use Rattle.output_lines.specs.declared.words.HandlerEnd.{HandlerEnd}
use Rattle.output_lines.specs.declared.words.HandlerEnd.TheVariants.{Held, Spent, Dropped}
use Rattle.output_lines.specs.declared.words.FaultPlace.{FaultPlace}
use Rattle.output_lines.specs.declared.words.FaultPlace.TheVariants as place
use Rattle.output_lines.specs.declared.words.InstanceFate.{InstanceFate}
use Rattle.output_lines.specs.declared.words.InstanceFate.TheVariants.{Live, Replaced, Pruned, Reloaded}
use Rattle.core_model.specs.Names.{Name}
use Rattle.client_model.specs.Language.{Bag, Ran}
use Rattle.client_model.specs.Instance.{Instance, Handler, is_dispose, is_prune, is_dep, ended_as}
use Rattle.client_model.specs.Journal.{Happening, Journal, made, evaluated}
use Rattle.client_model.specs.Journal.{not_run, registered, no_host, ran}
use Rattle.client_model.specs.Journal.{dropped, ended, gave_up, gave_up_all, told}
use Rattle.client_model.specs.Runtime.{Runtime}

-- the run of the handler at a place of instance k
abbrev pub is_run_of : ℕ → ℕ → Happening → Bool
is_run_of k spot (made i) = false
is_run_of k spot (evaluated j n bag e) = false
is_run_of k spot (not_run j n) = false
is_run_of k spot (registered j h) = false
is_run_of k spot (no_host j n label) = false
is_run_of k spot (ran j s n at bag left) = (j == k) && (s == spot)
is_run_of k spot (dropped j s) = false
is_run_of k spot (ended j n fate) = false
is_run_of k spot (gave_up n) = false
is_run_of k spot gave_up_all = false
is_run_of k spot (told l) = false

-- how often the handler at a place of instance k was run
abbrev pub runs_of : Journal → ℕ → ℕ → ℕ
runs_of journal k spot = length (filter (is_run_of k spot) journal)

-- the handler at a place of instance k is dropped
abbrev pub is_drop_of : ℕ → ℕ → Happening → Bool
is_drop_of k spot (made i) = false
is_drop_of k spot (evaluated j n bag e) = false
is_drop_of k spot (not_run j n) = false
is_drop_of k spot (registered j h) = false
is_drop_of k spot (no_host j n label) = false
is_drop_of k spot (ran j s n at bag left) = false
is_drop_of k spot (dropped j s) = (j == k) && (s == spot)
is_drop_of k spot (ended j n fate) = false
is_drop_of k spot (gave_up n) = false
is_drop_of k spot gave_up_all = false
is_drop_of k spot (told l) = false

-- how often the handler at a place of instance k was dropped
abbrev pub drops_of : Journal → ℕ → ℕ → ℕ
drops_of journal k spot = length (filter (is_drop_of k spot) journal)

-- How a handler of this kind is told of, once it has this end: so often it was run, and so often dropped.
-- One that is spent was run once, and one that is dropped was dropped once, unrun; but a callback on
-- dependencies may be run any number of times before.
abbrev pub IsToldAs : HandlerEnd → HandlerKind → ℕ → ℕ → Type 0
IsToldAs Held kind runs drops = (drops ≡ 0) × (is_dep kind ≡ false → runs ≡ 0)
IsToldAs Spent kind runs drops = (drops ≡ 0) × (runs ≡ 1) × (is_dep kind ≡ false)
IsToldAs Dropped kind runs drops = (drops ≡ 1) × (is_dep kind ≡ false → runs ≡ 0)

-- each handler of each instance is told of as it ended
abbrev pub AreTold : Runtime → Journal → Type 0
AreTold r journal =
    (i : Instance) → Contains r.instances i → (spot : ℕ) (h : Handler) →
    slice_get i.handlers spot ≡ Some h →
    IsToldAs h.end h.kind (runs_of journal i.number spot) (drops_of journal i.number spot)

-- what was registered for instance k
abbrev pub registered_to : ℕ → Happening → List Handler
registered_to k (made i) = []
registered_to k (evaluated j n bag e) = []
registered_to k (not_run j n) = []
registered_to k (registered j h) = if j == k then h ∷ [] else []
registered_to k (no_host j n label) = []
registered_to k (ran j s n at bag left) = []
registered_to k (dropped j s) = []
registered_to k (ended j n fate) = []
registered_to k (gave_up n) = []
registered_to k gave_up_all = []
registered_to k (told l) = []

-- in the order of registration
abbrev pub registered_in : Journal → ℕ → List Handler
registered_in journal k = flat_map (registered_to k) journal

-- each registered handler is one of its instance, and the instance has no other
abbrev pub AreRegistered : Runtime → Journal → Type 0
AreRegistered r journal =
    (i : Instance) → Contains r.instances i →
    registered_in journal i.number ≡ map (ended_as Held) i.handlers

-- what became of instance k
abbrev pub fate_to : ℕ → Happening → List InstanceFate
fate_to k (made i) = []
fate_to k (evaluated j n bag e) = []
fate_to k (not_run j n) = []
fate_to k (registered j h) = []
fate_to k (no_host j n label) = []
fate_to k (ran j s n at bag left) = []
fate_to k (dropped j s) = []
fate_to k (ended j n fate) = if j == k then fate ∷ [] else []
fate_to k (gave_up n) = []
fate_to k gave_up_all = []
fate_to k (told l) = []

abbrev pub fates_in : Journal → ℕ → List InstanceFate
fates_in journal k = flat_map (fate_to k) journal

-- a live instance is told no fate, any other its fate, once
abbrev pub told_fate : InstanceFate → List InstanceFate
told_fate Live = []
told_fate (Replaced k) = Replaced k ∷ []
told_fate Pruned = Pruned ∷ []
told_fate Reloaded = Reloaded ∷ []

-- each instance is told the fate that it has
abbrev pub AreFated : Runtime → Journal → Type 0
AreFated r journal = (i : Instance) → Contains r.instances i → fates_in journal i.number ≡ told_fate i.fate

-- the callback's place, by its kind
abbrev pub place_of : HandlerKind → FaultPlace
place_of kind.Dispose = place.Dispose
place_of kind.Prune = place.Prune
place_of kind.Own = place.Own
place_of kind.Dep = place.Dep

-- the handler at a place of instance k, made of n, is of the kind that is run there
pub record IsHandlerOf (r : Runtime) (k spot : ℕ) (n : Name) (at : FaultPlace) : Type 0 where
  pub instance : Instance
  pub made : Contains r.instances instance
  pub number : instance.number ≡ k
  pub name : instance.name ≡ n
  pub handler : Handler
  pub stands : slice_get instance.handlers spot ≡ Some handler
  pub place : place_of handler.kind ≡ at

-- each run is of a handler that was registered, at the place of its kind
abbrev pub AreRunsOfHandlers : Runtime → Journal → Type 0
AreRunsOfHandlers r journal =
    (k spot : ℕ) (n : Name) (at : FaultPlace) (before : Bag) (left : Ran) →
    Contains journal (ran k spot n at before left) → IsHandlerOf r k spot n at

-- whether it is the place of disposers
abbrev pub is_dispose_place : FaultPlace → Bool
is_dispose_place place.Module = false
is_dispose_place place.Dispose = true
is_dispose_place place.Prune = false
is_dispose_place place.Own = false
is_dispose_place place.Dep = false

-- whether it is the place of prune handlers
abbrev pub is_prune_place : FaultPlace → Bool
is_prune_place place.Module = false
is_prune_place place.Dispose = false
is_prune_place place.Prune = true
is_prune_place place.Own = false
is_prune_place place.Dep = false

-- a handler of instance k is run at a place that passes the test
abbrev pub is_run_at : (FaultPlace → Bool) → ℕ → Happening → Bool
is_run_at test k (made i) = false
is_run_at test k (evaluated j n bag e) = false
is_run_at test k (not_run j n) = false
is_run_at test k (registered j h) = false
is_run_at test k (no_host j n label) = false
is_run_at test k (ran j s n at bag left) = (j == k) && test at
is_run_at test k (dropped j s) = false
is_run_at test k (ended j n fate) = false
is_run_at test k (gave_up n) = false
is_run_at test k gave_up_all = false
is_run_at test k (told l) = false

-- how many disposers of instance k were run, and how many prune handlers
abbrev pub disposals : Journal → ℕ → ℕ
disposals journal k = length (filter (is_run_at is_dispose_place k) journal)

abbrev pub prunings : Journal → ℕ → ℕ
prunings journal k = length (filter (is_run_at is_prune_place k) journal)

-- an instance that was replaced or pruned is disposed of
abbrev pub is_disposed : InstanceFate → Bool
is_disposed Live = false
is_disposed (Replaced k) = true
is_disposed Pruned = true
is_disposed Reloaded = false

abbrev pub is_pruned : InstanceFate → Bool
is_pruned Live = false
is_pruned (Replaced k) = false
is_pruned Pruned = true
is_pruned Reloaded = false

-- the instance registered a handler whose kind passes the test
abbrev pub registers : (HandlerKind → Bool) → Instance → Bool
registers test i = list_any (λ h. test h.kind) i.handlers

-- once, where the test says so, else never
abbrev pub once_if : Bool → ℕ
once_if test = if test then 1 else 0

-- of an instance that registered a disposer one was run, exactly where it was replaced or pruned
abbrev pub AreDisposedOnce : Runtime → Journal → Type 0
AreDisposedOnce r journal =
    (i : Instance) → Contains r.instances i →
    disposals journal i.number ≡ once_if (is_disposed i.fate && registers is_dispose i)

-- of an instance that registered a prune handler one was run, exactly where it was pruned
abbrev pub ArePrunedOnce : Runtime → Journal → Type 0
ArePrunedOnce r journal =
    (i : Instance) → Contains r.instances i →
    prunings journal i.number ≡ once_if (is_pruned i.fate && registers is_prune i)
