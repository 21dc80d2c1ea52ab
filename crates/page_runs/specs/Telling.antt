-- Callbacks on dependencies that list a name, and what they are given.
use Rattle.std.specs.Prelude.{ℕ, zero, suc, List, [], ◌∷◌, map, slice_get, Option, Some, None, if◌then◌else◌}
use Rattle.output_lines.specs.declared.out_line.OutLine.{OutLine}
use Rattle.output_lines.specs.declared.words.FaultPlace.TheVariants.{Dep}
use Rattle.core_model.specs.Names.{Name, same_name, has}
use Rattle.client_model.specs.Applying.{listed_in}
use Rattle.client_model.specs.Firing.{event_module, event_arguments}
use Rattle.client_model.specs.Instance as model
use Rattle.client_model.specs.Instance.{Handler, numbered}
use Rattle.client_model.specs.Language.{Slots}
use Rattle.client_model.specs.Runtime.{Runtime, Did, for_each}
use Rattle.client_model.specs.Running.{run_of}
use Rattle.module_language.specs.ModuleLanguage.{module_language}
use Rattle.handler_table.specs.declared.dep.Dep as table
use Rattle.page_instances.specs.declared.instance.Instance.{Instance}
use Rattle.page_instances.specs.Seeing.{accepts_some}
use Rattle.page_runs.specs.declared.given.Given.{Given}
use Rattle.page_runs.specs.declared.given.Given.TheVariants.{Live, Event}
use Rattle.page_state.specs.declared.page.Page.{Page}
use Rattle.page_state.specs.Settling.{exports_of, live_in}
use Rattle.page_state.specs.Standing.{Follows}

-- a module at the places where the name is listed, and undefined elsewhere
abbrev pub given_at : Name → Option Slots → List Name → List (Option Slots)
given_at n exports deps = map (λ d. if same_name d n then exports else None) deps

-- what a callback gets for a name
abbrev pub module_given : {F : Type 0} → Page F → Name → Given → Option Slots
module_given p n Live = exports_of (live_in p n)
module_given p n (Event value) = Some (event_module value)

-- the arguments of a callback, as the model has them
abbrev pub arguments_in : Name → Given → Runtime → Handler → List (Option Slots)
arguments_in n Live = listed_in n
arguments_in n (Event value) = event_arguments n value

-- the callbacks on dependencies that an instance holds
abbrev pub deps_in : {F : Type 0} → Option (Instance F) → List table.Dep
deps_in None = []
deps_in (Some c) = c.held.deps

-- those that the instance at a place holds
abbrev pub deps_at : {F : Type 0} → Page F → ℕ → List table.Dep
deps_at p place = deps_in (slice_get p.instances.items place)

-- The places of the held callbacks on dependencies that list the name, from place k on, without the first of
-- the held callbacks on dependencies, so many as were passed already.
abbrev pub listing_from : Name → ℕ → ℕ → List Handler → List ℕ
listing_from n k passed [] = []
listing_from n k zero (h ∷ hs) =
    if accepts_some h
    then (if has h.deps n then k ∷ listing_from n (suc k) zero hs else listing_from n (suc k) zero hs)
    else listing_from n (suc k) zero hs
listing_from n k (suc passed) (h ∷ hs) = if accepts_some h then listing_from n (suc k) passed hs
    else listing_from n (suc k) (suc passed) hs

-- those of an instance
abbrev pub listing_of : Name → ℕ → Option model.Instance → List ℕ
listing_of n passed None = []
listing_of n passed (Some i) = listing_from n 0 passed i.handlers

-- the callbacks of the instance at a place that list the name are run, without the first so many
abbrev pub run_listing : Name → Given → ℕ → ℕ → Runtime → Did
run_listing n given passed place r =
    for_each
    (λ spot r. run_of module_language Dep (arguments_in n given) (numbered r.instances (suc place)) spot r)
    (listing_of n passed (numbered r.instances (suc place))) r

-- a deed of the code is the beginning of one of the model, of which the rest is left
abbrev pub Begins : {F : Type 0} → (whole rest : Runtime → Did) → (before after : Page F)
    → (told tells : List OutLine) → Type 0
Begins whole rest before after told tells = (z : Page _) (more : List OutLine)
    → Follows rest after z tells more → Follows whole before z told more
