-- Handlers leave an instance: they are run, or dropped. An instance ends.
use Rattle.std.specs.Prelude.{◌≡◌, ℕ, Bool, List, [], ◌∷◌, ◌++◌, map, fold, slice_get, Option, Some, None}
use Rattle.std.specs.Prelude.{if◌then◌else◌, ⊤}
use Rattle.hmr_types.specs.declared.value.Value.{Value}
use Rattle.hmr_types.specs.declared.value.Slot.{Slot}
use Rattle.hmr_types.specs.declared.value.Slot.TheVariants.{Unset, Val}
use Rattle.hmr_types.specs.declared.words.HandlerKind.{HandlerKind}
use Rattle.hmr_types.specs.declared.words.HandlerKind.TheVariants as kind
use Rattle.output_lines.specs.declared.words.FaultPlace.{FaultPlace}
use Rattle.output_lines.specs.declared.words.FaultPlace.TheVariants as place
use Rattle.output_lines.specs.declared.words.HandlerEnd.{HandlerEnd}
use Rattle.output_lines.specs.declared.words.HandlerEnd.TheVariants.{Held, Spent}
use Rattle.output_lines.specs.declared.words.InstanceFate.{InstanceFate}
use Rattle.core_model.specs.Names.{Name, same_name, at, with_row, without}
use Rattle.core_model.specs.Sources.{Text}
use Rattle.client_model.specs.Language.{Language, Slots, Bag, Ran, slot_at}
use Rattle.client_model.specs.Instance.{Instance, Handler, Deed, code, host, numbered, live_at, with_change}
use Rattle.client_model.specs.Instance.{with_end, with_dropped, places_of, is_done}
use Rattle.client_model.specs.Journal.{ran, dropped, ended, gave_up}
use Rattle.client_model.specs.Runtime.{Runtime, Invalidation, Did, nothing, for_each, bag_of}

-- what an export of an instance holds now
abbrev pub export_in : Option Instance → Name → Slot
export_in None x = Unset
export_in (Some i) x = slot_at i.values x

-- what an export of the instance of this number holds now
abbrev pub export_by : Option ℕ → List Instance → Name → Slot
export_by None instances x = Unset
export_by (Some k) instances x = export_in (numbered instances k) x

-- what the imports of a text hold now, by their local names, where its links are these
abbrev pub imported_slots : Language → List Instance → List (Name × ℕ) → Name → Text → Slots
imported_slots language instances links n t =
    map (λ b. (b.local, export_by (at links b.dependency) instances b.exported)) (language.bindings n t)

-- what the code of an instance reads: its own variables, and its imports
abbrev pub scope_of : Language → Runtime → Instance → Slots
scope_of language r i = i.values ++ imported_slots language r.instances i.links i.name i.text

-- a module as the argument of a callback: its exports, or undefined where it wasn't evaluated to its end
abbrev pub module_in : Option Instance → Option Slots
module_in None = None
module_in (Some i) = if is_done i then Some (map (λ x. (x, slot_at i.values x)) i.exports) else None

-- the live module of a name, as an argument
abbrev pub module_at : Runtime → Name → Option Slots
module_at r n = module_in (live_at r.instances n)

-- the arguments of a dependency callback: the module at its own places, and undefined elsewhere
abbrev pub arguments_of : Runtime → Name → List Name → List (Option Slots)
arguments_of r n deps = map (λ d. if same_name d n then module_at r n else None) deps

-- one variable assigned
abbrev pub assigned : Slots → Name × Value → Slots
assigned slots change = map (λ row. if same_name row.0 change.0 then (row.0, Val change.1) else row) slots

-- a dependency callback is held on, every other handler is spent
abbrev pub end_after : HandlerKind → HandlerEnd
end_after kind.Dispose = Spent
end_after kind.Prune = Spent
end_after kind.Own = Spent
end_after kind.Dep = Held

-- the version of an instance, 0 for none
abbrev pub version_in : Option Instance → ℕ
version_in None = 0
version_in (Some i) = i.version

-- an invalidation is of the version of the name that is live
abbrev pub invalidation : Runtime → Name → Text → Invalidation
invalidation r n message = record {
  name = n;
  version = version_in (live_at r.instances n);
  message = message;
}

-- what a run leaves of the instance
abbrev pub after_run : ℕ → HandlerKind → Ran → Instance → Instance
after_run spot kind left i = record i {
  values = fold assigned i.values left.changes;
  handlers = with_end spot (end_after kind) i.handlers;
}

-- the handler at a place of the instance was run, with its name's bag
abbrev pub did_run : FaultPlace → Instance → ℕ → Handler → Ran → Runtime → Did
did_run at i spot h left r = (
  record r {
    instances = with_change i.number (after_run spot h.kind left) r.instances;
    bags = with_row i.name left.bag r.bags;
    unsent = r.unsent ++ map (invalidation r i.name) left.invalidations;
  },
  ran i.number spot i.name at (bag_of r i.name) left ∷ [],
)

-- the run of code, or of a closure
abbrev pub run_deed : Language → Deed → Slots → List (Option Slots) → Bag → Ran
run_deed language (code tree) scope arguments bag = language.ran tree scope arguments bag
run_deed language (host label number) scope arguments bag = language.hosted label number bag

-- a handler is run over its instance's scope and bag
abbrev pub run_handler : Language → FaultPlace → (Runtime → Handler → List (Option Slots)) → Instance → ℕ →
    Option Handler → Runtime → Did
run_handler language at arguments i spot None r = nothing r
run_handler language at arguments i spot (Some h) r =
    did_run at i spot h
    (run_deed language h.deed (scope_of language r i) (arguments r h) (bag_of r i.name)) r

-- the handler at a place of an instance is run
abbrev pub run_of : Language → FaultPlace → (Runtime → Handler → List (Option Slots)) →
    Option Instance → ℕ → Runtime → Did
run_of language at arguments None spot r = nothing r
run_of language at arguments (Some i) spot r =
    run_handler language at arguments i spot (slice_get i.handlers spot) r

-- the handlers of an instance that pass the test are run, in the order of registration
abbrev pub run_each : Language → FaultPlace → (Runtime → Handler → List (Option Slots)) →
    (Handler → Bool) → ℕ → Runtime → Did
run_each language at arguments test k r =
    for_each (λ spot r. run_of language at arguments (numbered r.instances k) spot r)
    (places_of test (numbered r.instances k)) r

-- no arguments, as for a disposer
abbrev pub no_arguments : Runtime → Handler → List (Option Slots)
no_arguments r h = []

-- the handlers of an instance that pass the test are dropped unrun
abbrev pub drop_each : (Handler → Bool) → ℕ → Runtime → Did
drop_each test k r = (
  record r {
    instances = with_change k (λ i. record i { handlers = with_dropped test i.handlers }) r.instances;
  },
  map (dropped k) (places_of test (numbered r.instances k)),
)

-- an instance gets its fate
abbrev pub end_instance : InstanceFate → ℕ → Name → Runtime → Did
end_instance fate k n r = (
  record r { instances = with_change k (λ i. record i { fate = fate }) r.instances },
  ended k n fate ∷ [],
)

-- the bag of a name is given up
abbrev pub give_up_bag : Name → Runtime → Did
give_up_bag n r = (record r { bags = without n r.bags }, gave_up n ∷ [])

-- a disposer and a prune handler get no modules as arguments
abbrev pub TakesNothing : FaultPlace → List (Option Slots) → Type 0
TakesNothing place.Module arguments = ⊤
TakesNothing place.Dispose arguments = arguments ≡ []
TakesNothing place.Prune arguments = arguments ≡ []
TakesNothing place.Own arguments = ⊤
TakesNothing place.Dep arguments = ⊤
