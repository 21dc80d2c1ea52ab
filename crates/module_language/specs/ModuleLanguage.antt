-- The module language of this repository, as a client takes a language.
use Rattle.std.specs.Prelude.{ℕ, List, [], map, flat_map, Option, Some, None, Result, Ok, Err}
use Rattle.module_tree.specs.Syntax as tree
use Rattle.module_tree.specs.Syntax.{HandlerTree, ItemTree, ModuleTree}
use Rattle.hmr_types.specs.declared.analysis.TextFault.{TextFault}
use Rattle.module_tree.specs.declared.tree.ImportName.{ImportName}
use Rattle.module_semantics.specs.Analysis.{imported_by, meant, transformed}
use Rattle.module_semantics.specs.Bodies as bodies
use Rattle.module_semantics.specs.Bodies.{Registration, body_run, host_ran}
use Rattle.module_semantics.specs.Modules as modules
use Rattle.module_semantics.specs.Modules.{module_run}
use Rattle.module_semantics.specs.ModuleText.{parsing}
use Rattle.module_semantics.specs.declared.evaluation.ModParam.{ModParam}
use Rattle.module_semantics.specs.declared.evaluation.ModParam.TheVariants as params
use Rattle.core_model.specs.Names.{Name}
use Rattle.core_model.specs.Sources.{Text}
use Rattle.client_model.specs.Language.{Language, Bag, Slots, Binding, Registered, Evaluated, Ran}

-- the module that was read, an empty one where none was
abbrev pub module_in : Result ModuleTree TextFault → ModuleTree
module_in (Ok m) = m
module_in (Err fault) = []

-- the names that an item imports
abbrev pub names_in : ItemTree → List ImportName
names_in (tree.import spec names) = names
names_in (tree.declare exported mutable n e) = []
names_in (tree.act a) = []
names_in (tree.own what) = []
names_in (tree.deps list specs code) = []
names_in (tree.dispose what) = []
names_in (tree.prune what) = []
names_in tree.decline = []

-- what a name of an import is bound to
abbrev pub binding_to : Name → ImportName → Binding
binding_to dependency n = record { dependency = dependency; exported = n.exported; local = n.local }

-- what an item binds: each of its names, to the module that its specifier means
abbrev pub bound_by : Name → ItemTree → List Binding
bound_by base i =
    flat_map (λ dependency. map (binding_to dependency) (names_in i)) (meant base (imported_by i))

-- what a module binds, in order
abbrev pub bound_in : Name → ModuleTree → List Binding
bound_in base m = flat_map (bound_by base) m

-- each module that an item imports, with each of the item's names as it is exported there
abbrev pub linked_by : Name → ItemTree → List (Name × Name)
linked_by base i =
    flat_map (λ dependency. map (λ n. (dependency, n.exported)) (names_in i)) (meant base (imported_by i))

-- a handler that was registered, with the modules that its specifiers mean
abbrev pub registered_as : Name → Registration → Registered
registered_as base r = record { kind = r.kind; deps = meant base r.deps; what = r.what }

-- what the evaluation of a module of this name leaves
abbrev pub evaluated_as : Name → modules.Evaluated → Evaluated
evaluated_as base e = record {
  fault = e.fault;
  vars = e.vars;
  lines = e.lines;
  registered = map (registered_as base) e.registered;
  bag = e.bag;
}

-- a module by its exports, or `undefined`
abbrev pub argument_of : Option Slots → ModParam
argument_of None = params.Undef
argument_of (Some exports) = params.Mod exports

-- what the run of a handler leaves
abbrev pub ran_as : bodies.Ran → Ran
ran_as r = record {
  fault = r.fault;
  lines = r.lines;
  changes = r.changes;
  invalidations = r.invalidations;
  bag = r.bag;
}

-- the evaluation of a module of this name
abbrev pub evaluation_of : Name → ModuleTree → Slots → Bag → Evaluated
evaluation_of base m imports before = evaluated_as base (module_run m imports before)

-- the run of a callback
abbrev pub run_of : HandlerTree → Slots → List (Option Slots) → Bag → Ran
run_of code scope arguments before = ran_as (body_run code scope (map argument_of arguments) before)

-- the run of a closure of the embedding program
abbrev pub hosted_by : Text → ℕ → Bag → Ran
hosted_by label number before = ran_as (host_ran label number before)

-- the language of module texts; a text that reads as no module binds nothing, and its evaluation does
-- nothing
abbrev pub module_language : Language
module_language = record {
  transformed = λ n t. transformed parsing n t;
  bindings = λ n t. bound_in n (module_in (parsing t));
  evaluated = λ n t imports before. evaluation_of n (module_in (parsing t)) imports before;
  ran = run_of;
  hosted = hosted_by;
}
