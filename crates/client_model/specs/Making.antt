-- A new instance is made and evaluated.
use Rattle.std.specs.Prelude.{ℕ, Bool, false, not, List, [], ◌∷◌, ◌++◌, map, fold, Option, Some, None}
use Rattle.std.specs.Prelude.{if◌then◌else◌}
use Rattle.std.specs.List.{list_any}
use Rattle.module_tree.specs.Syntax as syntax
use Rattle.module_tree.specs.Syntax.{OnceTree}
use Rattle.hmr_types.specs.declared.words.HandlerKind.{HandlerKind}
use Rattle.hmr_types.specs.declared.words.HandlerKind.TheVariants as kind
use Rattle.output_lines.specs.declared.words.HandlerEnd.TheVariants.{Held}
use Rattle.output_lines.specs.declared.words.InstanceStatus.{InstanceStatus}
use Rattle.output_lines.specs.declared.words.InstanceStatus.TheVariants.{Done, Faulted, Unrun}
use Rattle.output_lines.specs.declared.words.InstanceFate.TheVariants.{Live}
use Rattle.hmr_types.specs.declared.value.EvalFault.{EvalFault}
use Rattle.core_model.specs.Names.{Name, same_name, at, with_row}
use Rattle.core_model.specs.Sources.{Text}
use Rattle.core_model.specs.View.{Entry}
use Rattle.client_model.specs.Language.{Language, Bag, Slots, Registered, Evaluated}
use Rattle.client_model.specs.Instance.{Instance, Handler, Deed, code, host, numbered, is_done, disposes}
use Rattle.client_model.specs.Instance.{prunes, places_from, with_dropped}
use Rattle.client_model.specs.Journal.{Journal, made, evaluated, not_run, registered, no_host, dropped}
use Rattle.client_model.specs.Runtime.{Runtime, Did, bag_of}
use Rattle.client_model.specs.Running.{imported_slots}

-- the handlers registered so far, the closures that are left, and what happened
pub record Registry : Type 0 where
  pub handlers : List Handler
  pub shelf : List (Text × ℕ)
  pub journal : Journal

-- a module has one disposer and one prune handler: a later one displaces an earlier one
abbrev pub is_displaced_by : HandlerKind → Handler → Bool
is_displaced_by kind.Dispose h = disposes h
is_displaced_by kind.Prune h = prunes h
is_displaced_by kind.Own h = false
is_displaced_by kind.Dep h = false

-- a handler that has just been registered
abbrev pub new_handler : Registered → Deed → Handler
new_handler entry deed = record { kind = entry.kind; deps = entry.deps; deed = deed; end = Held }

-- a handler is registered, and what it displaces is dropped unrun
abbrev pub with_handler : ℕ → Registered → Deed → Registry → Registry
with_handler k entry deed g = record g {
  handlers = with_dropped (is_displaced_by entry.kind) g.handlers ++ new_handler entry deed ∷ [];
  journal = g.journal ++ (map (dropped k) (places_from 0 (is_displaced_by entry.kind) g.handlers)
      ++ registered k (new_handler entry deed) ∷ []);
}

-- the closures without the first of this label
abbrev pub without_first : Text → List (Text × ℕ) → List (Text × ℕ)
without_first label [] = []
without_first label (row ∷ rows) = if same_name row.0 label then rows else row ∷ without_first label rows

-- a closure of the label is taken off the shelf; where none is left nothing is registered
abbrev pub with_host : Option ℕ → ℕ → Name → Registered → Text → Registry → Registry
with_host None k n entry label g = record g { journal = g.journal ++ no_host k n label ∷ [] }
with_host (Some number) k n entry label g =
    with_handler k entry (host label number) (record g { shelf = without_first label g.shelf })

-- code is registered as it is, a closure once it is taken off the shelf
abbrev pub register_once : OnceTree → ℕ → Name → Registered → Registry → Registry
register_once (syntax.code tree) k n entry g = with_handler k entry (code tree) g
register_once (syntax.host label) k n entry g = with_host (at g.shelf label) k n entry label g

-- what an evaluation registered, in order
abbrev pub register_all : ℕ → Name → List Registered → List (Text × ℕ) → Registry
register_all k n entries shelf = fold (λ g entry. register_once entry.what k n entry g)
    (record { handlers = []; shelf = shelf; journal = [] }) entries

-- Done where no fault ended the evaluation
abbrev pub status_after : Option EvalFault → InstanceStatus
status_after None = Done
status_after (Some fault) = Faulted

-- an instance that was made, and faulted or wasn't run
abbrev pub is_failed : Option Instance → Bool
is_failed None = false
is_failed (Some i) = not (is_done i)

-- some link is to an instance that faulted or wasn't run
abbrev pub has_failed_link : List Instance → List (Name × ℕ) → Bool
has_failed_link instances links = list_any (λ link. is_failed (numbered instances link.1)) links

-- a module that is about to get an instance: its entry, text and links
pub record Birth : Type 0 where
  pub number : ℕ
  pub name : Name
  pub entry : Entry
  pub text : Text
  pub links : List (Name × ℕ)

-- the instance, with what its evaluation left
abbrev pub born : Birth → InstanceStatus → Slots → List Handler → Instance
born b status values handlers = record {
  number = b.number;
  name = b.name;
  version = b.entry.version;
  text = b.text;
  exports = b.entry.analysis.exports;
  links = b.links;
  status = status;
  fate = Live;
  values = values;
  handlers = handlers;
}

-- it isn't run, since a link failed
abbrev pub make_unrun : Birth → Runtime → Did
make_unrun b r = (
  record r { instances = born b Unrun [] [] ∷ r.instances },
  made (born b Unrun [] []) ∷ (not_run b.number b.name ∷ []),
)

-- it was evaluated with its name's bag, and what it registered was registered
abbrev pub make_evaluated : Birth → Bag → Evaluated → Registry → Runtime → Did
make_evaluated b bag e g r = (
  record r {
    instances = born b (status_after e.fault) e.vars g.handlers ∷ r.instances;
    bags = with_row b.name e.bag r.bags;
    shelf = g.shelf;
  },
  made (born b (status_after e.fault) e.vars g.handlers) ∷ (evaluated b.number b.name bag e ∷ g.journal),
)

-- the evaluation of a new instance, over what its links hold now
abbrev pub evaluate : Language → Birth → Runtime → Evaluated
evaluate language b r = language.evaluated b.name b.text
    (imported_slots language r.instances b.links b.name b.text) (bag_of r b.name)

-- what the evaluation registered
abbrev pub register_in : Birth → Evaluated → Runtime → Registry
register_in b e r = register_all b.number b.name e.registered r.shelf

-- a new instance is evaluated
abbrev pub make_run : Language → Birth → Runtime → Did
make_run language b r =
    let e : Evaluated = evaluate language b r in
    make_evaluated b (bag_of r b.name) e (register_in b e r) r

-- a new instance: unrun where a link failed, else evaluated
abbrev pub make : Language → Birth → Runtime → Did
make language b r =
    let run : Did = make_run language b r in
    if has_failed_link r.instances b.links then make_unrun b r else run
