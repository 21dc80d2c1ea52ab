-- An event is fired at a page: each dependency callback that lists it runs.
use Rattle.std.specs.Prelude.{Bool, true, not, ◌||◌, List, [], ◌∷◌, map, reverse, codes, Option, Some, None}
use Rattle.std.specs.Prelude.{is_some, if◌then◌else◌}
use Rattle.hmr_types.specs.declared.value.Value.{Value}
use Rattle.hmr_types.specs.declared.value.Slot.TheVariants.{Val}
use Rattle.output_lines.specs.declared.out_line.OutLine.{OutLine}
use Rattle.output_lines.specs.declared.words.FaultPlace.TheVariants as place
use Rattle.core_model.specs.Names.{Name, same_name}
use Rattle.client_model.specs.Language.{Language, Slots}
use Rattle.client_model.specs.Instance.{Instance, Handler, accepts_dep}
use Rattle.client_model.specs.Journal.{Journal, lines_of_all}
use Rattle.client_model.specs.Runtime.{Runtime, Did, for_each}
use Rattle.client_model.specs.Running.{run_each}
use Rattle.client_model.specs.Applying.{live_of}

-- the module that a callback gets for an event: its one export `data` is the value
abbrev pub event_module : Value → Slots
event_module value = (codes "data", Val value) ∷ []

-- the arguments of a callback: the event's module at the event's places, and undefined elsewhere
abbrev pub event_arguments : Name → Value → Runtime → Handler → List (Option Slots)
event_arguments event value r h =
    map (λ d. if same_name d event then Some (event_module value) else None) h.deps

-- the callbacks of an instance that list the event run, in the order of registration
abbrev pub hear_event : Language → Name → Value → Instance → Runtime → Did
hear_event language event value i =
    run_each language place.Dep (event_arguments event value) (accepts_dep event) i.number

-- each live instance hears the event, in rising number
abbrev pub hear_all : Language → Name → Value → Runtime → Did
hear_all language event value r =
    for_each (hear_event language event value) (reverse (live_of (λ n. true) r)) r

-- what firing an event answers
pub data Fired : Type 0 where
  heard : List OutLine → Fired
  busy : Fired
  is_stopped : Fired

-- what a client is after an event, what happened, and what firing it answers
pub record Firing : Type 0 where
  pub after : Runtime
  pub journal : Journal
  pub answer : Fired

-- the event isn't heard, and nothing changes
abbrev pub unheard : Fired → Runtime → Firing
unheard answer r = record { after = r; journal = []; answer = answer }

-- the lines are those of what happened, under the client's number
abbrev pub did_hear : Did → Firing
did_hear did = record { after = did.0; journal = did.1; answer = heard (lines_of_all did.0.client did.1) }

-- An event is fired: a client that stopped hears none, nor does one whose page isn't loaded or has a
-- plan under way.
abbrev pub fire : Language → Name → Value → Runtime → Firing
fire language event value r =
    let did : Firing = did_hear (hear_all language event value r) in
    if r.stopped then unheard is_stopped r else (
    if not r.page.loaded || is_some r.page.plan then unheard busy r else did)
