-- What a client needs of the module language: five functions. Everything else here holds whatever
-- they are.
use Rattle.std.specs.Prelude.{◌≡◌, ℕ, true, List, map, Option, Some, None}
use Rattle.std.specs.List.{list_all}
use Rattle.hmr_types.specs.declared.analysis.Analysis.{Analysis}
use Rattle.hmr_types.specs.declared.analysis.Outcome.{Outcome}
use Rattle.hmr_types.specs.declared.analysis.Outcome.TheVariants.{Good}
use Rattle.hmr_types.specs.declared.value.Value.{Value}
use Rattle.hmr_types.specs.declared.value.Slot.{Slot}
use Rattle.hmr_types.specs.declared.value.Slot.TheVariants.{Unset}
use Rattle.hmr_types.specs.declared.value.EvalFault.{EvalFault}
use Rattle.hmr_types.specs.declared.words.HandlerKind.{HandlerKind}
use Rattle.module_tree.specs.Syntax.{HandlerTree, OnceTree}
use Rattle.core_model.specs.Names.{Name, has, at}
use Rattle.core_model.specs.Sources.{Text}

-- the data that a module keeps from instance to instance: its keys, in the order in which they came
abbrev pub Bag : Type 0
Bag = List (Name × Value)

-- the variables of a module with what they hold
abbrev pub Slots : Type 0
Slots = List (Name × Slot)

-- nothing where there is no variable
abbrev pub slot_or_unset : Option Slot → Slot
slot_or_unset None = Unset
slot_or_unset (Some s) = s

-- what a variable holds; nothing where there is none
abbrev pub slot_at : Slots → Name → Slot
slot_at slots x = slot_or_unset (at slots x)

-- the local name stands for this export of this dependency
pub record Binding : Type 0 where
  pub dependency : Name
  pub exported : Name
  pub local : Name

-- a handler that an evaluation registered; deps are the modules that a dependency callback lists
pub record Registered : Type 0 where
  pub kind : HandlerKind
  pub deps : List Name
  pub what : OnceTree

-- what the evaluation of a module leaves
pub record Evaluated : Type 0 where
  pub fault : Option EvalFault
  pub vars : Slots
  pub lines : List Text
  pub registered : List Registered
  pub bag : Bag

-- what the run of a handler leaves
pub record Ran : Type 0 where
  pub fault : Option EvalFault
  pub lines : List Text
  pub changes : List (Name × Value)
  pub invalidations : List Text
  pub bag : Bag

-- what texts and handlers mean
pub record Language : Type 0 where
  -- the result for a module's text: its analysis, or its first fault
  pub transformed : Name → Text → Outcome
  -- the imports of a module's text, in the text's order
  pub bindings : Name → Text → List Binding
  -- the evaluation of a module's text, where its local names hold these slots and its bag is this one
  pub evaluated : Name → Text → Slots → Bag → Evaluated
  -- the run of a handler's code over these variables and imports, with these modules as arguments
  -- (none where an argument is undefined), where the bag is this one
  pub ran : HandlerTree → Slots → List (Option Slots) → Bag → Ran
  -- the run of the closure of the embedding program with this label and number, where the bag is this one
  pub hosted : Text → ℕ → Bag → Ran

-- each dependency with a name that is imported from it
abbrev pub links_of : Language → Name → Text → List (Name × Name)
links_of language n t = map (λ b. (b.dependency, b.exported)) (language.bindings n t)

-- each binding of a module's text is from one of the module's imports
abbrev pub BindsImports : Language → Type 0
BindsImports language = (n : Name) (t : Text) (a : Analysis) → language.transformed n t ≡ Good a →
    list_all (λ b. has a.imports b.dependency) (language.bindings n t) ≡ true
